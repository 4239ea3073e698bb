use Rattle.std.proofs.Common.{take}
use Rattle.filing.specs.Pen.{Penned}
use Rattle.filing.proofs.pen.file.Given as goal

-- as many rows are written as were gone over
abbrev pub invariant-loop-row : goal.invariant-loop-row
invariant-loop-row l = Penned (take l.row-index l.rows) l.initial.buffer l.pen l.buffer
