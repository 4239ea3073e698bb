use Rattle.std.proofs.Common.{ℕ, List, Some, None, sym, refl, ap, ◌∙◌, subst, subst₂}
use Rattle.model.specs.Plain.{World}
use Rattle.model.specs.Worlds.{over}
use Rattle.model.proofs.Search.Steps.{closed, took}
use Rattle.board.specs.declared.square.Square.{Square}
use Rattle.board.specs.declared.square.Stage.TheVariants as stage
use Rattle.board.specs.Board.{changed, with_stage}
use Rattle.reconnect.specs.declared.state.Outcome.TheVariants.{Shut}
use Rattle.reconnect.specs.declared.state.Search.{Search}
use Rattle.reconnect.specs.Represents.{Memory, Represents}
use Rattle.reconnect.specs.Steps.{ComesTo}
use Rattle.reconnect.proofs.Taking.{stages_as, shuts, shut_represents, takes, taken_represents}
use Rattle.reconnect.proofs.state.Search.take.Goals as goal

pub returns-in_default : goal.returns-in_default
returns-in_default g c l terrain aim s searching rest r =
    let m = g.M.Measure in
    let ordered = g.met.M.Measure.ordered in
    let w : World = over l terrain aim m.scale in
    let x = c.args.self.now in
    let memory : Memory g.row.M.Denot = record { search = x; board = c.args.board.now; queue = c.args.queue.now } in
    let said = c.in_default.ensures in
    let none = said.choice l.size (λ a. (s.squares a).stage) (stages_as w ordered m.value m.kept memory s searching rest r) (r.frontier searching).queued in
    let As : Search → Memory g.row.M.Denot = λ y. record { search = y; board = c.args.board.now; queue = c.choose.new.queue } in
    subst (ComesTo w m.value m.kept (Some Shut) (As c.choose.new.self)) (sym (shuts w ordered m.value m.kept memory s searching rest r none)) (
      refl,
      subst (λ y. Represents w m.value m.kept (As y) (closed w s).0) (sym said.rest) (shut_represents w ordered m.value m.kept memory s searching rest r none c.choose.new.self.waiting c.choose.new.queue c.choose.auto.queue),
    )

pub returns : goal.returns
returns g c l terrain aim s searching rest r =
    let m = g.M.Measure in
    let ordered = g.met.M.Measure.ordered in
    let w : World = over l terrain aim m.scale in
    let x = c.args.self.now in
    let chosen = c.in-Some.chosen in
    let memory : Memory g.row.M.Denot = record { search = x; board = c.args.board.now; queue = c.args.queue.now } in
    let said = c.in-Some.ensures in
    let number = ap (λ y. y.number) said.rest in
    let queue = c.choose.new.queue in
    let n = c.choose.new.self.waiting in
    let choice = said.choice l.size (λ a. (s.squares a).stage) (stages_as w ordered m.value m.kept memory s searching rest r) (r.frontier searching).queued in
    let As : ℕ → List (Square g.row.M.Denot) → Memory g.row.M.Denot = λ k b. record { search = record { number = k; waiting = n; walk = Some (record { taken = chosen.cell; at = chosen.cell }) }; board = b; queue = queue } in
    subst (ComesTo w m.value m.kept None (As c.choose.new.self.number c.set_stage.new.board)) (sym (takes w ordered m.value m.kept memory s searching rest r chosen queue n choice)) (
      refl,
      subst₂ (λ k b. Represents w m.value m.kept (As k b) (took w s chosen.cell).0) (sym number)
          (sym (c.set_stage.ensures ∙ ap (λ k. changed (with_stage k (stage.Taken chosen.measure chosen.back)) c.args.board.now chosen.cell) number))
          (taken_represents w ordered m.value m.kept memory s searching rest r chosen queue n choice said.fewer c.choose.auto.queue),
    )
