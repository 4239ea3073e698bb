use Rattle.std.proofs.Common.{◌∙◌, arith}
use Rattle.drive.proofs.Laying.{laid_more}
use Rattle.drive.proofs.begin.lay_out.Goals as goal

pub loop-cell-preserved : goal.loop-cell-preserved
loop-cell-preserved g c =
    let so_far = c.loop-cell.invariant in
    (c.put.auto.board ∙ so_far.0, rw (c.put.ensures, c.first_square.ensures) (laid_more (omega arith) so_far.1))
