use Rattle.std.proofs.Common.{sym, ap, ◌∙◌, subst, inl, inr, arith}
use mathlib.Core.Path.{subst₂}
use Rattle.model.specs.Plain.{is_rock_mark, is_unseen_mark}
use Rattle.model.specs.Worlds.{over}
use Rattle.board.specs.declared.square.Stage.TheVariants as stage
use Rattle.board.specs.Board.{with_stage, stage_shown}
use Rattle.board.proofs.Marks.{rock_tested, unseen_tested}
use Rattle.board.proofs.Showing.{numbers_kept}
use Rattle.reconnect.specs.Frontier.{Numbered}
use Rattle.reconnect.specs.Reaching.{improves, Reaches}
use Rattle.reconnect.proofs.Reaching.{Extended, reaches_left, reaches_new}
use Rattle.reconnect.proofs.state.Search.reach.Goals as goal
use Rattle.reconnect.proofs.state.Search.reach.Goals.{then-eq-via-then-eq, then-eq-via-else-eq+then-not-improved_by}

pub returns-then-eq-clause-reaches : goal.returns-then-eq-clause-reaches
returns-then-eq-clause-reaches g c l terrain aim =
    let m = g.M.Measure in
    let x = c.args.self.now in
    let t = c.args.from in
    let r = c.extend-reached.result in
    let rock = c.eq-2.ensures ∙ rock_tested _ ∙ ap is_rock_mark c.mark-mark.ensures in
    let unseen = c.eq.ensures ∙ unseen_tested _ ∙ ap is_unseen_mark c.mark-mark.ensures in
    reaches_left (over l terrain aim m.scale) g.met.M.Measure.ordered m.value m.kept t c.args.cost c.args.cell x.number c.args.board.now c.args.queue.now x.waiting r
    (subst (λ u. Extended m.scale m.value m.kept t.measure c.args.cost u r) unseen c.extend-reached.ensures)
    (elim c.then-eq.branch [
      | then-eq-via-then-eq v ↦ inl (sym rock ∙ v.if-eq.true)
      | then-eq-via-else-eq+then-not-improved_by v ↦
          inr (sym (v.if-not-improved_by.ensures ∙ ap (λ s. improves m.scale m.value (stage_shown m.value s) (m.value r)) v.stage_in.ensures))
    ])

pub returns-clause-numbered : goal.returns-clause-numbered
returns-clause-numbered g c size h =
    let n = c.args.self.now.number in
    subst (Numbered size n) (sym c.set_stage.ensures)
    (numbers_kept n (with_stage n (stage.Waiting c.extend-reached.result c.args.from.cell)) (λ y o. omega arith) size c.args.board.now c.args.cell h)

pub returns-clause-reaches : goal.returns-clause-reaches
returns-clause-reaches g c l terrain aim =
    let m = g.M.Measure in
    let x = c.args.self.now in
    let board = c.args.board.now in
    let queue = c.args.queue.now in
    let t = c.args.from in
    let r = c.extend-reached.result in
    let w = over l terrain aim m.scale in
    let rock = c.eq-2.ensures ∙ rock_tested _ ∙ ap is_rock_mark c.mark-mark.ensures in
    let unseen = c.eq.ensures ∙ unseen_tested _ ∙ ap is_unseen_mark c.mark-mark.ensures in
    let better = c.if-not-improved_by.ensures ∙ ap (λ s. improves m.scale m.value (stage_shown m.value s) (m.value r)) c.stage_in.ensures in
    subst₂ (λ b n. Reaches w m.value m.kept t c.args.cost c.args.cell x.number board b queue c.push.new.queue x.waiting n) (sym c.set_stage.ensures) (sym c.unwrap_or-self.ensures)
    (reaches_new w g.met.M.Measure.ordered m.value m.kept t c.args.cost c.args.cell x.number board queue x.waiting r
    (subst (λ u. Extended m.scale m.value m.kept t.measure c.args.cost u r) unseen c.extend-reached.ensures)
    (sym rock ∙ c.if-eq.false) (sym better) c.push.new.queue c.push.result c.push.ensures)
