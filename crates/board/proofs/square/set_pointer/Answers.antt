use Rattle.std.proofs.Common.{rules}
use Rattle.board.specs.Board.{with_pointer}
use Rattle.board.proofs.Boards.{changed_by}
use Rattle.board.proofs.square.set_pointer.Goals as goal

pub returns : goal.returns
returns g c = changed_by (with_pointer c.args.pointer) _ _ _ _ c.change.ensures (λ x y made. search rules)
