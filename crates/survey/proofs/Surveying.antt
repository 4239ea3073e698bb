-- What was read and driven is filed.
use Rattle.std.proofs.Common.{◌≡◌, ℕ, ◌+◌, ◌*◌, ◌≤◌, List, length, IfOk, Ok, Err, Result, ap, arith}
use Rattle.texts.specs.declared.heading.Heading.{Heading}
use Rattle.filing.specs.declared.pen.Ending.TheVariants.{Done}
use Rattle.filing.specs.declared.pen.Pen.{Pen}
use Rattle.filing.specs.Pen.{begin_lines, last_line}
use Rattle.filing.specs.Written.{overwritten}
use Rattle.filing.proofs.Filed.{penned_closed}
use Rattle.survey.specs.declared.fault.Fault.{Fault}
use Rattle.survey.specs.Surveying.{Filed, Course}

-- a course that is closed is a record
pub closed_course : (h : Heading) (start begun buffer last : List ℕ) (pen : Pen) (rock : ℕ) (r : Result ℕ Fault) →
    begun ≡ overwritten start 0 (begin_lines h) → length buffer ≡ length start → Course begun pen buffer →
    IfOk r (λ bytes. (bytes ≡ pen.at + 35) × (bytes ≤ length buffer) × (last ≡ overwritten buffer pen.at (last_line Done pen rock))) →
    IfOk r (λ bytes. Filed h start last bytes)
closed_course h start begun buffer last pen rock (Err f) b long course closed = tt
closed_course h start begun buffer last pen rock (Ok bytes) b long course closed =
    let at : pen.at ≡ 96 + 31 * length course.rows = ap (λ (q : Pen). q.at) course.penned.stands in
    record {
      rows = course.rows;
      rock = rock;
      text = penned_closed course.rows begun pen buffer h start Done rock last course.penned b closed.2;
      whole = omega (arith, closed.0);
      within = omega (arith, closed.1);
    }
