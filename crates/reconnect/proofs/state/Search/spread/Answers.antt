use Rattle.std.proofs.Common.{◌≡◌, ℕ, suc, ◌+◌, ◌-◌, List, sym, ap, ◌∙◌, subst, arith}
use mathlib.Core.Path.{subst₂, subst₃}
use Rattle.model.specs.Worlds.{over}
use Rattle.measure.specs.declared.queue.Entry.{Entry}
use Rattle.board.specs.declared.square.Square.{Square}
use Rattle.reconnect.specs.declared.state.Search.{Search}
use Rattle.reconnect.specs.Frontier.{Numbered}
use Rattle.reconnect.specs.Reaching.{with_entries, IsMeasure, Reaches}
use Rattle.reconnect.proofs.Spreading.{SpreadBy, spread_past, spread_to, spread_all}
use Rattle.reconnect.proofs.state.Search.spread.Goals as goal
use Rattle.reconnect.proofs.state.Search.spread.Goals.{in-Some, in_default}

pub loop-direction-preserved : goal.loop-direction-preserved
loop-direction-preserved g c =
    let m = g.M.Measure in
    let l = g.L.Lattice.grid c.args.lattice.now in
    let lawful = g.met.L.Lattice.lawful c.args.lattice.now in
    let a = c.args.taken in
    let x = c.args.self.now in
    let at = c.loop-direction in
    let k = at.direction - 1 in
    let up : suc k ≡ at.direction = omega arith in
    let on : suc k ≡ at.direction + 1 - 1 = omega arith in
    let inv = at.invariant in
    let r = c.measure_of.result in
    let number = ap (λ y. y.number) inv.0 in
    let By : ℕ → List (Square g.row.M.Denot) → List (Entry g.row.M.Denot) → ℕ → Type 0 = SpreadBy l lawful m.scale m.value m.kept a x.number c.args.board.now c.args.queue.now x.waiting in
    let So : Search → List (Square g.row.M.Denot) → List (Entry g.row.M.Denot) → Type 0 = λ y b es.
    (y ≡ with_entries x y.waiting) × ((size : ℕ) → Numbered size x.number c.args.board.now → Numbered size x.number b) × By (at.direction + 1 - 1) b es y.waiting in
    elim c.match-beside.branch [
      | in_default v ↦ subst₃ So (sym v.self-is) (sym v.board-is) (sym v.queue-is) (
        inv.0,
        inv.1,
        subst (λ n. By n at.board at.queue at.self.waiting) on (spread_past l lawful m.scale m.value m.kept a x.number c.args.board.now c.args.queue.now x.waiting k at.board at.queue at.self.waiting inv.2 (ap (l.beside a) up ∙ sym v.in_default.ensures)),
      )
      | in-Some v ↦
          let b = v.in-Some.cell in
          let new = v.reach.new in
          let cost : v.cost.result ≡ l.cost (suc k) = v.cost.ensures ∙ ap l.cost (sym up) in
          subst₃ So (sym v.self-is) (sym v.board-is) (sym v.queue-is) (
            v.reach.ensures.rest ∙ ap (λ y. with_entries y new.self.waiting) inv.0,
            λ size h. subst (λ n. Numbered size n at.board → Numbered size n new.board) number (v.reach.ensures.numbered size) (inv.1 size h),
            subst (λ n. By n new.board new.queue new.self.waiting) on
                (spread_to l lawful m.scale m.value m.kept a x.number c.args.board.now c.args.queue.now x.waiting k at.board at.queue at.self.waiting inv.2
                r (subst (λ t. IsMeasure m.scale m.value m.kept t r) c.stage_in.ensures c.measure_of.ensures) b (ap (l.beside a) up ∙ sym v.in-Some.ensures) at.auto.queue (omega arith) new.board new.queue new.self.waiting
                (λ terrain aim. subst₂ (λ z n. Reaches (over l terrain aim m.scale) m.value m.kept (record { cell = a; measure = r }) z b n at.board new.board at.queue new.queue at.self.waiting new.self.waiting) cost number
                (v.reach.ensures.reaches l terrain aim))),
          )
    ]

pub returns-clause-spreads : goal.returns-clause-spreads
returns-clause-spreads g c =
    let m = g.M.Measure in
    let x = c.args.self.now in
    let at = c.loop-direction in
    spread_all (g.L.Lattice.grid c.args.lattice.now) (g.met.L.Lattice.lawful c.args.lattice.now) m.scale m.value m.kept c.args.taken x.number c.args.board.now c.args.queue.now x.waiting (at.direction - 1) at.board at.queue at.self.waiting at.invariant.2 (omega arith)
