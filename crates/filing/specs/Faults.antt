-- The number, line and column that a fault of the pen is reported with.
use Rattle.texts.specs.declared.fault.Report.{Report}
use Rattle.texts.specs.Faults.{report_alone, heading_report}
use Rattle.filing.specs.declared.fault.PenFault.{PenFault}
use Rattle.filing.specs.declared.fault.PenFault.TheVariants as pen

abbrev pub pen_report : PenFault → Report
pen_report (pen.Heading f) = heading_report f
pen_report pen.Full = report_alone 30
