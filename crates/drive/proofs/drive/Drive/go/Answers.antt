use Rattle.std.proofs.Common.{sym}
use Rattle.std.proofs.lemmas.Result.{err_from_is_err_and}
use Rattle.drive.proofs.Refusing.{refused_is, allowed_is}
use Rattle.drive.proofs.Going.{go_refused, go_unmoved, go_accepted}
use Rattle.drive.proofs.drive.Drive.go.Goals as goal

pub returns-in_err-check-clause-own : goal.returns-in_err-check-clause-own
returns-in_err-check-clause-own g c =
    let p = err_from_is_err_and c.from_residual.result c.from_residual.ensures.1 in
    rw (p.1, p.2) (λ _ _. go_refused (refused_is _ _ (rw c.cell.ensures at c.in_err-check.ensures)))

pub returns-then-not-step-clause-own : goal.returns-then-not-step-clause-own
returns-then-not-step-clause-own g c = λ same _.
    let stays = rw c.pointer-direction.ensures at c.if-not-step.ensures.answers in
    go_unmoved same (allowed_is _ (rw c.cell.ensures at c.in_ok-check.ensures)) (sym stays)

pub returns-clause-own : goal.returns-clause-own
returns-clause-own g c = λ same _.
    go_accepted same (allowed_is _ (rw c.cell.ensures at c.in_ok-check.ensures))
    c.pointer-direction.ensures c.step.ensures.moves c.cell-cell.ensures c.cost-cost.ensures c.moved.ensures
