-- What the calls answer, as the plain drive's answers: case by case, with its numbers.
use Rattle.std.specs.Prelude.{ℕ, Some, None, Ok, Err, Option, Result}
use Rattle.model.specs.Plain.{Answer, refused, felt, spent, joined, shut, moved, told, phase_number}
use Rattle.reconnect.specs.declared.state.Outcome.{Outcome}
use Rattle.reconnect.specs.declared.state.Outcome.TheVariants.{Joined, Shut}
use Rattle.drive.specs.declared.refusal.Refusal.{Refusal}
use Rattle.drive.specs.declared.tell.Told.{Told}
use Rattle.drive.specs.Refusals.{refusal_number}

-- look: the felt byte, and the count of newly found rock
abbrev pub look_answer : Result (ℕ × ℕ) Refusal → Answer
look_answer (Ok r) = felt r.0 r.1
look_answer (Err e) = refused (refusal_number e)

-- think: the steps done, and how the search ended
abbrev pub thought_answer : ℕ → Option Outcome → Answer
thought_answer done None = spent done
thought_answer done (Some (Joined x y)) = joined done x y
thought_answer done (Some Shut) = shut done

abbrev pub think_answer : Result (ℕ × Option Outcome) Refusal → Answer
think_answer (Ok r) = thought_answer r.0 r.1
think_answer (Err e) = refused (refusal_number e)

-- go: the cell
abbrev pub go_answer : Result ℕ Refusal → Answer
go_answer (Ok cell) = moved cell
go_answer (Err e) = refused (refusal_number e)

-- tell: the six numbers
abbrev pub tell_answer : Told → Answer
tell_answer t = told (phase_number t.phase) t.cell t.moves t.length t.found t.searches
