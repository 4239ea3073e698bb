use Rattle.std.proofs.Common.{◌-◌}
use Rattle.board.specs.Around.{Remade, cut_by}
use Rattle.board.proofs.around.cut_around.Given as goal

abbrev pub invariant-loop-direction : goal.invariant-loop-direction
invariant-loop-direction g l = Remade (cut_by (g.L.Lattice.grid l.lattice) l.here l.rocks (l.direction - 1)) l.initial.board l.board
