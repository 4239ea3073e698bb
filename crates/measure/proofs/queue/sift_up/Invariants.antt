use Rattle.std.proofs.Common.{◌≡◌, ◌+◌, ◌≤◌, length}
use Rattle.measure.specs.Queue.{Rearranged}
use Rattle.measure.proofs.Sifts.{Climbs}
use Rattle.measure.proofs.queue.sift_up.Given as goal

abbrev pub invariant-loop-at : goal.invariant-loop-at
invariant-loop-at g l =
    (l.at ≤ l.last)
    × (length l.queue ≡ length l.initial.queue)
    × Rearranged (l.last + 1) l.initial.queue l.queue
    × Climbs g.M.Measure.scale g.M.Measure.value l.initial.queue l.last l.queue l.at

abbrev pub decreases-loop-at : goal.decreases-loop-at
decreases-loop-at g l = l.at
