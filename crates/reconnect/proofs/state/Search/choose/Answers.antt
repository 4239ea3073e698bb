use Rattle.std.proofs.Common.{sym, ap, ◌∙◌, arith}
use Rattle.board.specs.Board.{stage_at}
use Rattle.reconnect.specs.Reaching.{with_entries}
use Rattle.reconnect.proofs.Choosing.{none_waits, passed, chooses}
use Rattle.reconnect.proofs.state.Search.choose.Goals as goal

pub loop-entry-preserved : goal.loop-entry-preserved
loop-entry-preserved g c =
    let m = g.M.Measure in
    let inv = c.loop-entry.invariant in
    let old = c.loop-entry.queue in
    let e = c.in-Some.entry in
    let left = c.in-Some.left in
    let out = c.in-Some.ensures in (
      ap (λ x. with_entries x left) inv.0,
      omega (arith, inv.1, out.counted),
      λ size stages same q.
          passed m.scale g.met.M.Measure.ordered m.value size stages old c.loop-entry.self.waiting c.pop.new.queue e left out (inv.2 size stages same q)
          c.args.self.now.number c.args.board.now same c.stage_in.result
          (c.stage_in.ensures ∙ ap (λ x. stage_at x.number c.args.board.now e.cell) inv.0) c.in_default-stage_in.not-Waiting,
    )

pub returns-in-Waiting-clause-choice : goal.returns-in-Waiting-clause-choice
returns-in-Waiting-clause-choice g c size stages same q =
    let m = g.M.Measure in
    let inv = c.loop-entry.invariant in
    let e = c.in-Some.entry in
    chooses m.scale g.met.M.Measure.ordered m.value size stages c.loop-entry.queue c.loop-entry.self.waiting c.pop.new.queue e c.in-Some.left c.in-Some.ensures (inv.2 size stages same q)
    c.args.self.now.number c.args.board.now same c.in-Waiting.measure c.in-Waiting.back
    (sym (c.in-Waiting.ensures ∙ ap (λ x. stage_at x.number c.args.board.now e.cell) inv.0))

pub returns-clause-choice : goal.returns-clause-choice
returns-clause-choice g c size stages same q =
    let m = g.M.Measure in
    none_waits m.scale g.met.M.Measure.ordered m.value size stages c.loop-entry.queue c.loop-entry.self.waiting c.in_default.ensures.0 (c.loop-entry.invariant.2 size stages same q)
