use Rattle.std.proofs.Common.{◌≡◌, ◌-◌, length}
use Rattle.measure.specs.Queue.{Rearranged}
use Rattle.measure.proofs.Sifts.{Falls}
use Rattle.measure.proofs.queue.sift_down.Given as goal

abbrev pub invariant-loop-at : goal.invariant-loop-at
invariant-loop-at g l =
    (length l.queue ≡ length l.initial.queue)
    × Rearranged l.count l.initial.queue l.queue
    × Falls g.M.Measure.scale g.M.Measure.value l.initial.queue l.count l.queue l.at

abbrev pub decreases-loop-at : goal.decreases-loop-at
decreases-loop-at g l = l.count - l.at
