use Rattle.std.proofs.Common.{sym, ap, ◌∙◌, subst}
use Rattle.model.specs.Plain.{World}
use Rattle.model.specs.Worlds.{over}
use Rattle.reconnect.specs.Represents.{walk_shown}
use Rattle.reconnect.specs.Steps.{ComesTo}
use Rattle.reconnect.proofs.Walking.{rests, goes_on}
use Rattle.reconnect.proofs.state.Search.step.Goals as goal

pub returns-in-None : goal.returns-in-None
returns-in-None g c terrain s n fit reached searching home r =
    let m = g.M.Measure in
    let l = g.G.Lattice.grid c.args.guide.now in
    let aim = g.G.Guide.aim c.args.guide.now in
    let w : World = over l terrain aim m.scale in
    let at_rest = sym r.walk ∙ ap walk_shown c.in-None.is in
    subst (ComesTo w m.value m.kept c.take.result (record { search = c.take.new.self; board = c.take.new.board; queue = c.take.new.queue })) (sym (rests w s at_rest))
    (c.take.ensures l terrain aim s searching at_rest r)

pub returns-in-Some : goal.returns-in-Some
returns-in-Some g c terrain s n fit reached searching home r =
    let m = g.M.Measure in
    let l = g.G.Lattice.grid c.args.guide.now in
    let aim = g.G.Guide.aim c.args.guide.now in
    let w : World = over l terrain aim m.scale in
    let under-way = sym r.walk ∙ ap walk_shown c.in-Some.is in
    subst (ComesTo w m.value m.kept c.walk_on.result (record { search = c.walk_on.new.self; board = c.walk_on.new.board; queue = c.walk_on.new.queue })) (sym (goes_on w s c.in-Some.walk.taken c.in-Some.walk.at under-way))
    (c.walk_on.ensures terrain s n fit reached searching home under-way r)
