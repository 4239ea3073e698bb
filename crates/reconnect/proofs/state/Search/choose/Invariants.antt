use Rattle.std.proofs.Common.{◌≡◌, ℕ, ◌≤◌}
use Rattle.model.specs.Plain as plain
use Rattle.reconnect.specs.Frontier.{Queued}
use Rattle.reconnect.specs.Reaching.{with_entries, StagesAs}
use Rattle.reconnect.proofs.state.Search.choose.Given as goal

-- only the entries in use have changed, and what is left of the queue is that of the same cells
abbrev pub invariant-loop-entry : goal.invariant-loop-entry
invariant-loop-entry g l =
    (l.self ≡ with_entries l.initial.self l.self.waiting)
    × (l.self.waiting ≤ l.initial.self.waiting)
    × ((size : ℕ) (stages : ℕ → plain.Stage g.M.Measure.scale.Value) → StagesAs g.M.Measure.scale g.M.Measure.value size l.initial.self.number l.board stages → Queued g.M.Measure.scale g.M.Measure.value size stages l.initial.queue l.initial.self.waiting → Queued g.M.Measure.scale g.M.Measure.value size stages l.queue l.self.waiting)

abbrev pub decreases-loop-entry : goal.decreases-loop-entry
decreases-loop-entry g l = l.self.waiting
