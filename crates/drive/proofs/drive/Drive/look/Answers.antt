use Rattle.std.proofs.lemmas.Result.{err_from_is_err_and}
use Rattle.drive.proofs.Refusing.{refused_is, allowed_is}
use Rattle.drive.proofs.Looking.{same_guide, look_refused, look_accepted}
use Rattle.drive.proofs.drive.Drive.look.Goals as goal

pub returns-in_err-check-clause-own : goal.returns-in_err-check-clause-own
returns-in_err-check-clause-own g c =
    let p = err_from_is_err_and c.from_residual.result c.from_residual.ensures.1 in
    rw (p.1, p.2) (λ _. look_refused (refused_is _ _ (rw c.cell.ensures at c.in_err-check.ensures)))

pub returns-clause-accepted : goal.returns-clause-accepted
returns-clause-accepted g c = (allowed_is _ (rw c.cell.ensures at c.in_ok-check.ensures), c.feel-felt.ensures, c.see-new.ensures)

pub returns-clause-guide : goal.returns-clause-guide
returns-clause-guide g c = same_guide c.see-new.ensures.goes_on

pub returns-clause-own : goal.returns-clause-own
returns-clause-own g c = λ same.
    look_accepted same c.feel-felt.ensures (allowed_is _ (rw c.cell.ensures at c.in_ok-check.ensures))
    c.see-new.ensures c.see-new.auto.board c.see-new.auto.queue
