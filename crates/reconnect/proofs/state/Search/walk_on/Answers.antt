use Rattle.std.proofs.Common.{◌≡◌, List, Some, None, sym, refl, ap, ◌∙◌, subst}
use Rattle.model.specs.Plain.{World, is_taken}
use Rattle.model.specs.Worlds.{over}
use Rattle.model.proofs.Search.Steps.{painting, stopped, walked}
use Rattle.board.specs.declared.square.Square.{Square}
use Rattle.board.specs.Board.{changed, with_paint, pointer_at}
use Rattle.reconnect.specs.declared.state.Search.{Search}
use Rattle.reconnect.specs.Frontier.{Numbered}
use Rattle.reconnect.specs.Represents.{Memory, Represents}
use Rattle.reconnect.specs.Spreading.{Spreads}
use Rattle.reconnect.specs.Steps.{ComesTo}
use Rattle.reconnect.specs.Walking.{unpainted}
use Rattle.reconnect.proofs.Walking.{joined_from, joins, homewards, taken_inside, walk_inside, goes, stops, same_stage, frontier_painted, walked_represents, room_to_spread, stopped_represents}
use Rattle.reconnect.proofs.state.Search.walk_on.Goals as goal

pub returns-then-walk-goal : goal.returns-then-walk-goal
returns-then-walk-goal g c terrain s n fit reached searching home under-way r =
    let m = g.M.Measure in
    let l = g.G.Lattice.grid c.args.guide.now in
    let aim = g.G.Guide.aim c.args.guide.now in
    let w : World = over l terrain aim m.scale in
    let a = c.args.walk.taken in
    let after : Memory g.row.M.Denot = record { search = c.join.new.self; board = c.join.new.board; queue = c.args.queue.now } in
    let taken = (walk_inside w fit s n reached searching a c.args.walk.at under-way).0 in
    subst (ComesTo w m.value m.kept c.join.result after) (sym (joins w s a c.args.walk.at (c.if-walk-goal.true ∙ c.goal.ensures)))
    (subst (λ h. ComesTo w m.value m.kept c.join.result after (joined_from w h s a)) (sym home)
    (c.join.ensures c.args.queue.now terrain aim s searching (homewards w fit s n reached searching c.args.home home) taken r))

pub returns-in-Some : goal.returns-in-Some
returns-in-Some g c terrain s n fit reached searching home under-way r =
    let m = g.M.Measure in
    let l = g.G.Lattice.grid c.args.guide.now in
    let w : World = over l terrain (g.G.Guide.aim c.args.guide.now) m.scale in
    let a = c.args.walk.taken in
    let b = c.args.walk.at in
    let x = c.args.self.now in
    let memory : Memory g.row.M.Denot = record { search = x; board = c.args.board.now; queue = c.args.queue.now } in
    let inside = (walk_inside w fit s n reached searching a b under-way).1 in
    let away : b ≡ w.guide.goal → ⊥ = λ e. c.if-walk-goal.false (e ∙ sym c.goal.ensures) in
    let on = subst (λ z. Some c.in-Some.at ≡ unpainted z x.number (l.beside b (pointer_at z b))) c.set_paint.ensures c.in-Some.ensures in
    let As : List (Square g.row.M.Denot) → Memory g.row.M.Denot = λ z. record { search = record { number = x.number; waiting = x.waiting; walk = Some (record { taken = a; at = c.in-Some.at }) }; board = z; queue = c.args.queue.now } in
    subst (ComesTo w m.value m.kept None (As c.set_paint.new.board)) (sym (goes w m.value m.kept memory s searching a b under-way r fit.lattice inside away c.in-Some.at on)) (
      refl,
      subst (λ z. Represents w m.value m.kept (As z) (walked w s a b c.in-Some.at).0) (sym c.set_paint.ensures) (walked_represents w m.value m.kept memory s searching a b under-way r c.in-Some.at),
    )

pub returns-in-None : goal.returns-in-None
returns-in-None g c terrain s n fit reached searching home under-way r =
    let m = g.M.Measure in
    let l = g.G.Lattice.grid c.args.guide.now in
    let lawful = g.met.G.Lattice.lawful c.args.guide.now in
    let w : World = over l terrain (g.G.Guide.aim c.args.guide.now) m.scale in
    let a = c.args.walk.taken in
    let b = c.args.walk.at in
    let x = c.args.self.now in
    let memory : Memory g.row.M.Denot = record { search = x; board = c.args.board.now; queue = c.args.queue.now } in
    let board = changed (with_paint x.number) c.args.board.now b in
    let from = walk_inside w fit s n reached searching a b under-way in
    let inside = taken_inside w fit s n reached searching a from.0 in
    let away : b ≡ w.guide.goal → ⊥ = λ e. c.if-walk-goal.false (e ∙ sym c.goal.ensures) in
    let nowhere = subst (λ z. None ≡ unpainted z x.number (l.beside b (pointer_at z b))) c.set_paint.ensures c.in-None.ensures in
    let spreads : Spreads l m.scale m.value m.kept a x.number board c.spread.new.board c.args.queue.now c.spread.new.queue x.waiting c.spread.new.self.waiting =
    subst (λ z. Spreads l m.scale m.value m.kept a x.number z c.spread.new.board c.args.queue.now c.spread.new.queue x.waiting c.spread.new.self.waiting) c.set_paint.ensures c.spread.ensures.spreads in
    let new =
    spreads terrain (g.G.Guide.aim c.args.guide.now) (painting w s b) inside (ap is_taken (same_stage w m.value m.kept memory s searching a b under-way r a) ∙ from.0)
    (room_to_spread w m.value m.kept memory s searching a b under-way r lawful inside from.0)
    (frontier_painted w m.value m.kept memory s searching a b under-way r) in
    let As : Search → Memory g.row.M.Denot = λ z. record { search = z; board = c.spread.new.board; queue = c.spread.new.queue } in
    subst (ComesTo w m.value m.kept None (As c.spread.new.self)) (sym (stops w m.value m.kept memory s searching a b under-way r fit.lattice from.1 away nowhere)) (
      refl,
      subst (λ z. Represents w m.value m.kept (As z) (stopped w s a b).0) (sym c.spread.ensures.rest)
          (stopped_represents w m.value m.kept memory s searching a b under-way r lawful inside from.0 c.spread.new.board c.spread.new.queue c.spread.new.self.waiting
          c.spread.auto.queue
          (λ h. c.spread.ensures.numbered l.size (subst (Numbered l.size x.number) (sym c.set_paint.ensures) h)) new.1 new.0),
    )
