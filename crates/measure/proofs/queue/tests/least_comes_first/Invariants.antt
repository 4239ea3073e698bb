use Rattle.std.proofs.Common.{◌≡◌, length}
use Rattle.measure.proofs.queue.tests.least_comes_first.Given as goal

abbrev pub invariant-loop-cost : goal.invariant-loop-cost
invariant-loop-cost g l = length l.queue ≡ 4

abbrev pub invariant-loop-cell : goal.invariant-loop-cell
invariant-loop-cell g l = length l.queue ≡ 4
