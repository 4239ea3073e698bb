use Rattle.std.proofs.Common.{◌≡◌, Some, None, refl, ap, subst, arith}
use Rattle.reconnect.specs.Represents.{Memory}
use Rattle.reconnect.specs.Steps.{StepsAs}
use Rattle.drive.specs.Looking.{turned}
use Rattle.drive.proofs.Thinking.{Underway, underway_none, underway_more, underway_ends, underway_spent}
use Rattle.drive.proofs.drive.Drive.steps.Goals as goal

pub loop-done-init : goal.loop-done-init
loop-done-init g c =
    let d = c.args.self.now in
    let m = g.M.Measure in
    (refl, underway_none (g.G.Lattice.grid d.guide) (g.G.Guide.aim d.guide) m.scale m.value m.kept d.cell (record { search = d.search; board = c.args.board.now; queue = c.args.queue.now }))

pub loop-done-preserved : goal.loop-done-preserved
loop-done-preserved g c =
    let d = c.args.self.now in
    let m = g.M.Measure in
    let before : Memory _ = record { search = d.search; board = c.args.board.now; queue = c.args.queue.now } in
    let now : Memory _ = record { search = c.loop-done.self.search; board = c.loop-done.board; queue = c.loop-done.queue } in
    let next : Memory _ = record { search = c.step.new.self; board = c.step.new.board; queue = c.step.new.queue } in
    let at = c.loop-done.invariant.0 in
    let steps = subst (λ z. StepsAs m.scale m.value m.kept None now next (g.G.Lattice.grid z.guide) z.cell (g.G.Guide.aim z.guide)) at c.in_default.ensures in (
      ap (λ z. turned z z.phase c.step.new.self) at,
      underway_more (g.G.Lattice.grid d.guide) (g.G.Guide.aim d.guide) m.scale m.value m.kept d.cell c.loop-done.done before now next c.loop-done.invariant.1 steps,
    )

pub returns-in-Some-clause-thinks : goal.returns-in-Some-clause-thinks
returns-in-Some-clause-thinks g c =
    let d = c.args.self.now in
    let m = g.M.Measure in
    let o = c.in-Some.outcome in
    let before : Memory _ = record { search = d.search; board = c.args.board.now; queue = c.args.queue.now } in
    let now : Memory _ = record { search = c.loop-done.self.search; board = c.loop-done.board; queue = c.loop-done.queue } in
    let next : Memory _ = record { search = c.step.new.self; board = c.step.new.board; queue = c.step.new.queue } in
    underway_ends (g.G.Lattice.grid d.guide) (g.G.Guide.aim d.guide) m.scale m.value m.kept d.cell c.loop-done.done c.args.budget o before now next (omega arith) c.loop-done.invariant.1
    (subst (λ z. StepsAs m.scale m.value m.kept (Some o) now next (g.G.Lattice.grid z.guide) z.cell (g.G.Guide.aim z.guide)) c.loop-done.invariant.0 c.in-Some.ensures)

pub returns-clause-thinks : goal.returns-clause-thinks
returns-clause-thinks g c =
    let d = c.args.self.now in
    let m = g.M.Measure in
    let l = g.G.Lattice.grid d.guide in
    let aim = g.G.Guide.aim d.guide in
    let before : Memory _ = record { search = d.search; board = c.args.board.now; queue = c.args.queue.now } in
    let now : Memory _ = record { search = c.loop-done.self.search; board = c.loop-done.board; queue = c.loop-done.queue } in
    let all : c.loop-done.done ≡ c.args.budget = omega arith in
    underway_spent l aim m.scale m.value m.kept d.cell c.args.budget before now (subst (λ k. Underway l aim m.scale m.value m.kept d.cell k before now) all c.loop-done.invariant.1)
