use Rattle.std.proofs.Common.{◌≡◌, ℕ, suc, ◌+◌, ◌-◌, List, sym, ap, ◌∙◌, subst, arith}
use native.Mathlib.Nat.{sub-zero}
use Rattle.model.specs.Lattice.{is, first_direction}
use Rattle.model.specs.Plain.{World}
use Rattle.model.specs.Worlds.{over}
use Rattle.board.specs.declared.square.Square.{Square}
use Rattle.board.specs.Board.{changed, with_pointer}
use Rattle.board.proofs.Showing.{numbers_kept}
use Rattle.reconnect.specs.Frontier.{Numbered}
use Rattle.reconnect.specs.Reaching.{back_in}
use Rattle.reconnect.proofs.Retracing.{Tracing, tracing_begin, tracing_more, tracing_home, tracing_end}
use Rattle.reconnect.proofs.state.Search.retrace.Goals as goal

pub loop-step-init : goal.loop-step-init
loop-step-init g c =
    let l = g.L.Lattice.grid c.args.lattice.now in
    let number = c.args.self.now.number in (
      λ size h. h,
      λ terrain aim q homewards taken shown.
          let w : World = over l terrain aim g.M.Measure.scale in
          subst (λ n. Tracing w g.M.Measure.value number c.args.home q c.args.taken c.args.board.now n c.args.taken) (sym (sub-zero l.size))
          (tracing_begin w g.M.Measure.value number c.args.home q c.args.taken c.args.board.now shown taken),
    )

pub loop-step-preserved : goal.loop-step-preserved
loop-step-preserved g c =
    let l = g.L.Lattice.grid c.args.lattice.now in
    let number = c.args.self.now.number in
    let cell = c.loop-step.cell in
    let board = c.loop-step.board in
    let d = c.towards.result in
    let back = c.back_of-back.ensures ∙ ap back_in c.stage_in.ensures in
    let left = l.size - (c.loop-step._step + 1) in (
      λ size h.
          subst (Numbered size number) (sym c.set_pointer.ensures)
          (numbers_kept number (with_pointer d) (λ x o. o) size board c.back_of-back.result (c.loop-step.invariant.0 size h)),
      λ terrain aim q homewards taken shown.
          let w : World = over l terrain aim g.M.Measure.scale in
          let On : List (Square g.row.M.Denot) → ℕ → ℕ → Type 0 = Tracing w g.M.Measure.value number c.args.home q c.args.taken in
          let one : l.size - c.loop-step._step ≡ suc left = omega (arith, c.size-step-end.ensures) in
          let so_far : On board (suc left) cell = subst (λ n. On board n cell) one (c.loop-step.invariant.1 terrain aim q homewards taken shown) in
          subst (λ b. On b left c.back_of-back.result) (sym c.set_pointer.ensures)
          (subst (λ b. d ≡ first_direction 8 (λ e. is (l.beside b e) cell) → On (changed (with_pointer d) board b) left b) (sym back)
          (tracing_more w g.M.Measure.value number c.args.home q c.args.taken homewards board left cell so_far c.if-cell-home.false d)
          c.towards.ensures),
    )

pub returns-then-cell-home-clause-retraces : goal.returns-then-cell-home-clause-retraces
returns-then-cell-home-clause-retraces g c terrain aim q homewards taken shown =
    let l = g.L.Lattice.grid c.args.lattice.now in
    let w : World = over l terrain aim g.M.Measure.scale in
    let number = c.args.self.now.number in
    let left = l.size - (c.loop-step._step + 1) in
    let one : l.size - c.loop-step._step ≡ suc left = omega (arith, c.size-step-end.ensures) in
    tracing_home w g.M.Measure.value number c.args.home q c.args.taken c.loop-step.board left c.loop-step.cell
    (subst (λ n. Tracing w g.M.Measure.value number c.args.home q c.args.taken c.loop-step.board n c.loop-step.cell) one (c.loop-step.invariant.1 terrain aim q homewards taken shown))
    c.if-cell-home.true

pub returns-clause-retraces : goal.returns-clause-retraces
returns-clause-retraces g c terrain aim q homewards taken shown =
    let l = g.L.Lattice.grid c.args.lattice.now in
    let w : World = over l terrain aim g.M.Measure.scale in
    let number = c.args.self.now.number in
    let none : l.size - c.loop-step._step ≡ 0 = omega (arith, c.size-step-end.ensures) in
    tracing_end w g.M.Measure.value number c.args.home q c.args.taken c.loop-step.board c.loop-step.cell
    (subst (λ n. Tracing w g.M.Measure.value number c.args.home q c.args.taken c.loop-step.board n c.loop-step.cell) none (c.loop-step.invariant.1 terrain aim q homewards taken shown))
