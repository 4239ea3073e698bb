-- The layer, number, line and column with which a fault is printed.
use Rattle.std.specs.Prelude.{ℕ, Some, None, Option}
use Rattle.floor.specs.declared.extent.SizeFault.{SizeFault}
use Rattle.texts.specs.Headings.{side_fault}
use Rattle.sites.specs.declared.fault.SiteFault.{SiteFault}
use Rattle.sites.specs.declared.fault.SiteFault.TheVariants as site
use Rattle.filing.specs.Faults.{pen_report}
use Rattle.sites.specs.Faults.{site_report}
use Rattle.texts.specs.Faults.{report_alone}
use Rattle.drive.specs.Refusals.{refusal_number}
use Rattle.survey.specs.declared.fault.Fault.{Fault}
use Rattle.survey.specs.declared.fault.Fault.TheVariants as fault
use Rattle.survey.specs.declared.fault.Layer.{Layer}
use Rattle.survey.specs.declared.fault.Layer.TheVariants as layer
use Rattle.survey.specs.declared.fault.Failure.{Failure}

-- the number that is printed of a layer
abbrev pub layer_number : Layer → ℕ
layer_number layer.Text = 1
layer_number layer.Site = 2
layer_number layer.Drive = 3
layer_number layer.Record = 4

-- a fault of the text is of the text's layer, any other of the site of the site's
abbrev pub site_layer : SiteFault → Layer
site_layer (site.Text f) = layer.Text
site_layer (site.Heading f) = layer.Site
site_layer site.TooLong = layer.Site
site_layer (site.TooLarge p) = layer.Site
site_layer (site.Foreign p) = layer.Site
site_layer (site.StartOffFloor p) = layer.Site
site_layer (site.StartOnRock p) = layer.Site
site_layer (site.GoalOffFloor p) = layer.Site

-- want of memory has no number
abbrev pub failure_of : Fault → Option Failure
failure_of (fault.Site f) = Some (record { layer = site_layer f; report = site_report f })
failure_of (fault.Drive e) = Some (record { layer = layer.Drive; report = report_alone (refusal_number e) })
failure_of (fault.Record f) = Some (record { layer = layer.Record; report = pen_report f })
failure_of fault.NoMemory = None

-- a width or height that is no floor's is refused at its field on the first line
abbrev pub size_fault_of : SizeFault → Fault
size_fault_of f = fault.Site (site.Heading (side_fault f))
