-- The number, line and column that a fault of a record is reported with.
use Rattle.texts.specs.declared.fault.Report.{Report}
use Rattle.texts.specs.Faults.{report_at, text_report, heading_report}
use Rattle.records.specs.declared.fault.RecordFault.{RecordFault}
use Rattle.records.specs.declared.fault.RecordFault.TheVariants as fault

abbrev pub record_report : RecordFault → Report
record_report (fault.Text f) = text_report f
record_report (fault.Heading f) = heading_report f
record_report (fault.Unequal p) = report_at 31 p
