use Rattle.std.proofs.Common.{refl, ap, ◌∙◌, subst, arith}
use Rattle.model.specs.Plain as plain
use Rattle.model.specs.Plain.{World, is_taken}
use Rattle.model.specs.Worlds.{over}
use Rattle.model.proofs.Basics.Counting.{count_at_most}
use Rattle.reconnect.specs.Reaching.{IsMeasure}
use Rattle.reconnect.proofs.Spreading.{taken_measured}
use Rattle.reconnect.proofs.state.Search.join.Goals as goal

pub returns : goal.returns
returns g c queue terrain aim s searching homewards taken r =
    let m = g.M.Measure in
    let l = g.L.Lattice.grid c.args.lattice.now in
    let w : World = over l terrain aim m.scale in
    let x = c.args.self.now in
    let a = c.args.taken in
    let f = r.frontier searching in
    let exact = taken_measured w m.value m.kept x.number c.args.board.now queue x.waiting s.squares a c.measure_of.result f (homewards.inside a taken) taken
    (subst (λ t. IsMeasure m.scale m.value m.kept t c.measure_of.result) c.stage_in.ensures c.measure_of.ensures) in
    let short = count_at_most l.size (λ b. is_taken (s.squares b).stage) in
    let small = (g.met.L.Lattice.lawful c.args.lattice.now).small in
    let shown = c.shown-first.ensures exact.steps exact.exact (omega (arith, exact.early, short, small)) ∙ ap m.scale.shown exact.measures in (
      ap (λ p. plain.join p.0 p.1) shown,
      record {
        number = r.number;
        walk = refl;
        shown = c.retrace.ensures.retraces terrain aim s.squares homewards taken r.shown;
        numbered = c.retrace.ensures.numbered l.size r.numbered;
        room = r.room;
        frontier = λ e. cc;
        few = λ e. cc;
      },
    )
