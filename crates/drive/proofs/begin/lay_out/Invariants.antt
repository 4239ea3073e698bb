use Rattle.std.proofs.Common.{◌≡◌, length}
use Rattle.drive.specs.Beginning.{Laid}
use Rattle.drive.proofs.begin.lay_out.Given as goal

abbrev pub invariant-loop-cell : goal.invariant-loop-cell
invariant-loop-cell g l =
    (length l.board ≡ length l.initial.board)
    × Laid (g.G.Lattice.grid l.guide) (g.G.Guide.aim l.guide) l.start l.cell l.initial.board l.board
