-- The number, line and column that each fault is reported with.
use Rattle.std.specs.Prelude.{ℕ}
use Rattle.texts.specs.declared.fault.Place.{Place}
use Rattle.texts.specs.declared.fault.Report.{Report}
use Rattle.texts.specs.declared.fault.TextFault.{TextFault}
use Rattle.texts.specs.declared.fault.TextFault.TheVariants as text
use Rattle.texts.specs.declared.fault.HeadingFault.{HeadingFault}
use Rattle.texts.specs.declared.fault.HeadingFault.TheVariants as heading

-- a number with a place, and a number alone
abbrev pub report_at : ℕ → Place → Report
report_at n p = record { number = n; line = p.line; column = p.column }

abbrev pub report_alone : ℕ → Report
report_alone n = record { number = n; line = 0; column = 0 }

abbrev pub text_report : TextFault → Report
text_report (text.Length p) = report_at 20 p
text_report (text.Word p) = report_at 21 p
text_report (text.Field p) = report_at 22 p
text_report (text.Extent p) = report_at 23 p

abbrev pub heading_report : HeadingFault → Report
heading_report (heading.Unknown p) = report_at 24 p
heading_report (heading.Size p) = report_at 1 p
