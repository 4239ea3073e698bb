use Rattle.std.proofs.Common.{◌-◌}
use Rattle.board.specs.Around.{Remade, marked_by}
use Rattle.board.proofs.around.mark_around.Given as goal

abbrev pub invariant-loop-direction : goal.invariant-loop-direction
invariant-loop-direction g l = Remade (marked_by (g.L.Lattice.grid l.lattice) l.here l.felt (l.direction - 1)) l.initial.board l.board
