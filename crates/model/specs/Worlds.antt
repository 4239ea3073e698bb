-- The world of a drive.
use Rattle.model.specs.Lattice.{Lattice, Guide}
use Rattle.model.specs.Scale.{Scale}
use Rattle.model.specs.Ground.{Ground}
use Rattle.model.specs.Plain.{World}

-- a lattice, the ground of a carrier that stands at the start, a guide and a measure
abbrev pub over : Lattice → Ground → Guide → Scale → World
over l g a s = record { lattice = l; rock = g.rock; start = g.at; guide = a; scale = s }
