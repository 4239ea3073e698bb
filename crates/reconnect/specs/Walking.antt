-- Where a walk goes on.
use Rattle.std.specs.Prelude.{ℕ, cond, List, Some, None, Option, ◌==◌}
use Rattle.board.specs.declared.square.Square.{Square}
use Rattle.board.specs.Board.{paint_at}

-- a cell, unless the search of a number has painted it
abbrev pub unpainted : {M : Type 0} → List (Square M) → ℕ → Option ℕ → Option ℕ
unpainted board n None = None
unpainted board n (Some c) = cond (paint_at board c == n) None (Some c)
