use Rattle.std.proofs.Common.{◌≡◌, ℕ, ◌-◌, true}
use Rattle.model.specs.Ground.{Ground}
use Rattle.model.specs.Lattice.{Guide}
use Rattle.model.specs.Plain.{Squares, is_taken}
use Rattle.model.specs.Worlds.{over}
use Rattle.board.specs.Board.{Shown}
use Rattle.reconnect.specs.Frontier.{Numbered}
use Rattle.reconnect.specs.Retracing.{Homewards}
use Rattle.reconnect.proofs.Retracing.{Tracing}
use Rattle.reconnect.proofs.state.Search.retrace.Given as goal

abbrev pub invariant-loop-step : goal.invariant-loop-step
invariant-loop-step g l =
    ((size : ℕ) → Numbered size l.self.number l.initial.board → Numbered size l.self.number l.board)
    × ((terrain : Ground) (aim : Guide) (q : Squares (over (g.L.Lattice.grid l.lattice) terrain aim g.M.Measure.scale)) →
    Homewards (over (g.L.Lattice.grid l.lattice) terrain aim g.M.Measure.scale) l.home q → is_taken (q l.taken).stage ≡ true →
    Shown g.M.Measure.value (g.L.Lattice.grid l.lattice).size l.self.number l.initial.board q →
    Tracing (over (g.L.Lattice.grid l.lattice) terrain aim g.M.Measure.scale) g.M.Measure.value l.self.number l.home q l.taken l.board ((g.L.Lattice.grid l.lattice).size - l._step) l.cell)
