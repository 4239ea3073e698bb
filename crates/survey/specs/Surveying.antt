-- What a survey answers.
use Rattle.std.specs.Prelude.{◌≡◌, ℕ, ◌+◌, ◌*◌, ◌≤◌, List, length, IfOk, Ok, Err, Result}
use Rattle.sites.specs.declared.fault.SiteFault.{SiteFault}
use Rattle.texts.specs.declared.heading.Heading.{Heading}
use Rattle.filing.specs.declared.pen.Ending.TheVariants.{Done}
use Rattle.filing.specs.declared.pen.Pen.{Pen}
use Rattle.filing.specs.declared.pen.Row.{Row}
use Rattle.filing.specs.Pen.{Penned, record_text}
use Rattle.sites.specs.Site.{SiteValue}
use Rattle.filing.specs.Written.{overwritten}
use Rattle.survey.specs.declared.fault.Fault.{Fault}
use Rattle.survey.specs.declared.fault.Fault.TheVariants as fault

-- a course: the pen has written its rows behind row 0
pub record Course (begun : List ℕ) (pen : Pen) (buffer : List ℕ) : Type 0 where
  pub rows : List Row
  pub penned : Penned rows begun pen buffer

-- a record of some rows that closes with DONE stands at the front of a buffer, in so many bytes; the rest is as it was
pub record Filed (h : Heading) (before after : List ℕ) (bytes : ℕ) : Type 0 where
  pub rows : List Row
  pub rock : ℕ
  pub text : after ≡ overwritten before 0 (record_text h rows Done rock)
  pub whole : bytes ≡ 131 + 31 * length rows
  pub within : bytes ≤ length before

-- where the text describes no site, that is the fault, and nothing is written; else what is accepted is filed under the site's heading
abbrev pub SiteFirst : Result SiteValue SiteFault → (before after : List ℕ) → Result ℕ Fault → Type 0
SiteFirst (Ok s) before after r = IfOk r (λ bytes. Filed s.heading before after bytes)
SiteFirst (Err f) before after r = (r ≡ Err (fault.Site f)) × (after ≡ before)
