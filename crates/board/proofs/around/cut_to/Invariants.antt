use Rattle.std.proofs.Common.{◌-◌}
use Rattle.board.specs.Around.{Remade}
use Rattle.board.proofs.Cutting.{cut_upto}
use Rattle.board.proofs.around.cut_to.Given as goal

abbrev pub invariant-loop-direction : goal.invariant-loop-direction
invariant-loop-direction g l = Remade (cut_upto (g.L.Lattice.grid l.lattice) l.rock (l.direction - 1)) l.initial.board l.board
