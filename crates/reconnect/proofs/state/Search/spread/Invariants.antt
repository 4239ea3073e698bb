use Rattle.std.proofs.Common.{◌≡◌, ℕ, ◌-◌}
use Rattle.reconnect.specs.Frontier.{Numbered}
use Rattle.reconnect.specs.Reaching.{with_entries}
use Rattle.reconnect.proofs.Spreading.{SpreadBy}
use Rattle.reconnect.proofs.state.Search.spread.Given as goal

abbrev pub invariant-loop-direction : goal.invariant-loop-direction
invariant-loop-direction g l =
    (l.self ≡ with_entries l.initial.self l.self.waiting)
    × ((size : ℕ) → Numbered size l.initial.self.number l.initial.board → Numbered size l.initial.self.number l.board)
    × SpreadBy (g.L.Lattice.grid l.lattice) (g.met.L.Lattice.lawful l.lattice) g.M.Measure.scale g.M.Measure.value g.M.Measure.kept l.taken l.initial.self.number l.initial.board l.initial.queue l.initial.self.waiting (l.direction - 1) l.board l.queue l.self.waiting
