use Rattle.std.proofs.Common.{◌≡◌}
use Rattle.drive.specs.Looking.{turned}
use Rattle.drive.proofs.Thinking.{Underway}
use Rattle.drive.proofs.drive.Drive.steps.Given as goal

abbrev pub invariant-loop-done : goal.invariant-loop-done
invariant-loop-done g l =
    (l.self ≡ turned l.initial.self l.initial.self.phase l.self.search)
    × Underway (g.G.Lattice.grid l.initial.self.guide) (g.G.Guide.aim l.initial.self.guide) g.M.Measure.scale g.M.Measure.value g.M.Measure.kept l.initial.self.cell l.done
    (record { search = l.initial.self.search; board = l.initial.board; queue = l.initial.queue }) (record { search = l.self.search; board = l.board; queue = l.queue })
