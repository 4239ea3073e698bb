-- What the program prints.
use Rattle.std.specs.Prelude.{◌≡◌, ℕ, cond, ◌⊎◌, List, [], ◌∷◌, length, is_some, Ok, Err, Result}
use Rattle.std.specs.Option.{unwrap_or}
use Rattle.texts.specs.Fields.{written_line}
use Rattle.filing.specs.Written.{overwritten, line_answer}
use Rattle.sites.specs.declared.fault.SiteFault.{SiteFault}
use Rattle.sites.specs.Faults.{site_report}
use Rattle.sites.specs.Site.{SiteValue}
use Rattle.survey.specs.declared.fault.Failure.{Failure}
use Rattle.survey.specs.Faults.{layer_number, site_layer}
use Rattle.survey.specs.Surveying.{Filed}

-- the word FAIL and four fields: layer, number, line and column
abbrev pub fail_line : Failure → List ℕ
fail_line f = written_line (70 ∷ 65 ∷ 73 ∷ 76 ∷ []) (layer_number f.layer ∷ f.report.number ∷ f.report.line ∷ f.report.column ∷ [])

-- the line of a failure stands at the front of a buffer, in so many bytes, where it fits; the rest is as it was
pub record Failed (failure : Failure) (before after : List ℕ) (bytes : ℕ) : Type 0 where
  pub whole : bytes ≡ unwrap_or (line_answer before 0 (fail_line failure)) 0
  pub text : after ≡ cond (is_some (line_answer before 0 (fail_line failure))) (overwritten before 0 (fail_line failure)) before

-- a failure's line stands in a buffer of the same length, where a record may have been begun before
pub record FailedLater (before after : List ℕ) (bytes : ℕ) : Type 0 where
  pub failure : Failure
  pub begun : List ℕ
  pub long : length begun ≡ length before
  pub failed : Failed failure begun after bytes

-- of a text that describes no site the line of its fault is printed; else a record under the site's heading, or the line of a failure
abbrev pub Printed : Result SiteValue SiteFault → (before after : List ℕ) → ℕ → Type 0
Printed (Ok s) before after bytes = Filed s.heading before after bytes ⊎ FailedLater before after bytes
Printed (Err f) before after bytes = Failed (record { layer = site_layer f; report = site_report f }) before after bytes
