use Rattle.std.proofs.Common.{rules}
use Rattle.board.specs.Board.{with_mark}
use Rattle.board.proofs.Boards.{changed_by}
use Rattle.board.proofs.square.set_mark.Goals as goal

pub returns : goal.returns
returns g c = changed_by (with_mark c.args.mark) _ _ _ _ c.change.ensures (λ x y made. search rules)
