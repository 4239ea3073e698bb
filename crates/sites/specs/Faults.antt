-- The number, line and column that a fault of a site text is reported with.
use Rattle.texts.specs.declared.fault.Report.{Report}
use Rattle.texts.specs.Faults.{report_at, report_alone, text_report, heading_report}
use Rattle.sites.specs.declared.fault.SiteFault.{SiteFault}
use Rattle.sites.specs.declared.fault.SiteFault.TheVariants as site

abbrev pub site_report : SiteFault → Report
site_report (site.Text f) = text_report f
site_report (site.Heading f) = heading_report f
site_report site.TooLong = report_alone 26
site_report (site.TooLarge p) = report_at 25 p
site_report (site.Foreign p) = report_at 3 p
site_report (site.StartOffFloor p) = report_at 6 p
site_report (site.StartOnRock p) = report_at 7 p
site_report (site.GoalOffFloor p) = report_at 8 p
