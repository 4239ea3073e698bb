-- What tell answers.
use Rattle.model.specs.declared.Phase.{Phase}
use Rattle.model.specs.declared.Phase.TheVariants as phase
use Rattle.model.specs.Plain.{Answer, told, phase_number}
use Rattle.drive.specs.declared.drive.Drive.{Drive}
use Rattle.drive.specs.declared.tell.Told.{Told}

-- the numbers of a drive in a phase
abbrev pub standing : {G : Type 0} → Drive G → Phase → Told
standing d p = record { phase = p; cell = d.cell; moves = d.moves; length = d.length; found = d.found; searches = d.search.number }

-- a void drive has none
abbrev pub telling_in : {G : Type 0} → Phase → Drive G → Told
telling_in phase.Unseen d = standing d phase.Unseen
telling_in phase.Ready d = standing d phase.Ready
telling_in phase.Searching d = standing d phase.Searching
telling_in phase.Arrived d = standing d phase.Arrived
telling_in phase.Shut d = standing d phase.Shut
telling_in phase.Void d = record { phase = phase.Void; cell = 0; moves = 0; length = 0; found = 0; searches = 0 }

abbrev pub telling : {G : Type 0} → Drive G → Told
telling d = telling_in d.phase d

-- the six numbers as the plain drive answers them
abbrev pub told_numbers : Told → Answer
told_numbers t = told (phase_number t.phase) t.cell t.moves t.length t.found t.searches
