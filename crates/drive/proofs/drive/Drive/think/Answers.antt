use Rattle.std.proofs.Common.{length, Some, None, sym, ◌∙◌, arith}
use Rattle.drive.specs.declared.call.Call.TheVariants.{Think}
use Rattle.std.proofs.lemmas.Slice.{drop-append-drop}
use Rattle.std.proofs.lemmas.Result.{err_from_is_err_and}
use Rattle.drive.proofs.Memory.{first_length}
use Rattle.drive.proofs.Refusing.{refused_is, allowed_is, enough}
use Rattle.drive.proofs.Thinking.{think_refused, think_accepted}
use Rattle.drive.proofs.drive.Drive.think.Goals as goal

pub returns-in_err-check-clause-own : goal.returns-in_err-check-clause-own
returns-in_err-check-clause-own g c =
    let d = c.args.self.now in
    let m = g.M.Measure in
    let p = err_from_is_err_and c.from_residual.result c.from_residual.ensures.1 in
    let e = c.in_err-check.field-0.0 in
    rw (p.1, p.2) (λ terrain.
    think_refused (g.G.Lattice.grid d.guide) (g.G.Guide.aim d.guide) m.scale m.value m.kept d c.args.board.now c.args.queue.now c.args.budget terrain e (refused_is _ e c.in_err-check.ensures))

pub slice_bounds-steps-end-2 : goal.slice_bounds-steps-end-2
slice_bounds-steps-end-2 g c =
    let d = c.args.self.now in
    sym (first_length c.args.board.now c.size-size.result (enough d (Think c.args.budget) (record { records = length c.args.board.now; entries = Some (length c.args.queue.now); at = None }) (g.G.Lattice.grid d.guide).size c.size-size.result c.size-size.ensures c.in_ok-check.ensures))

pub returns-clause-accepted : goal.returns-clause-accepted
returns-clause-accepted g c = allowed_is _ c.in_ok-check.ensures

pub returns-clause-beyond : goal.returns-clause-beyond
returns-clause-beyond g c =
    let d = c.args.self.now in
    let k = c.size-size.result in
    let long = enough d (Think c.args.budget) (record { records = length c.args.board.now; entries = Some (length c.args.queue.now); at = None }) (g.G.Lattice.grid d.guide).size k c.size-size.ensures c.in_ok-check.ensures in
    drop-append-drop k c.args.board.now c.steps.new.board (g.G.Lattice.grid d.guide).size (omega (arith, c.size-size.ensures)) (c.steps.auto.board ∙ first_length c.args.board.now k long)

pub returns-clause-own : goal.returns-clause-own
returns-clause-own g c terrain =
    let d = c.args.self.now in
    let m = g.M.Measure in
    let l = g.G.Lattice.grid d.guide in
    let k = c.size-size.result in
    let long = enough d (Think c.args.budget) (record { records = length c.args.board.now; entries = Some (length c.args.queue.now); at = None }) l.size k c.size-size.ensures c.in_ok-check.ensures in
    think_accepted l (g.G.Guide.aim d.guide) m.scale m.value m.kept d c.args.board.now c.args.queue.now c.args.budget terrain
    k c.steps.result.0 c.steps.result.1 c.steps.new.self c.steps.new.board c.steps.new.queue c.size-size.ensures (allowed_is _ c.in_ok-check.ensures) c.steps.ensures.drive c.steps.ensures.thinks (c.steps.auto.board ∙ first_length c.args.board.now k long)
