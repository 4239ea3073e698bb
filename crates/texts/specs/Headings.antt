-- What the first line of a site text or a record has to say.
use Rattle.std.specs.Prelude.{ℕ, ◌-◌, ◌*◌, Bool, cond, not, ◌&&◌, ◌||◌, List, [], ◌∷◌, Some, None, Ok, Err, Option, Result, ◌==◌, nat_le}
use Rattle.floor.specs.declared.extent.SizeFault.{SizeFault}
use Rattle.floor.specs.declared.extent.SizeFault.TheVariants as side
use Rattle.texts.specs.declared.fault.Place.{Place}
use Rattle.texts.specs.declared.fault.HeadingFault.{HeadingFault}
use Rattle.texts.specs.declared.fault.HeadingFault.TheVariants.{Unknown, Size}
use Rattle.texts.specs.declared.heading.Heading.{Heading}
use Rattle.texts.specs.declared.heading.LatticeKind.{LatticeKind}
use Rattle.texts.specs.declared.heading.LatticeKind.TheVariants as lattice
use Rattle.texts.specs.declared.heading.MeasureKind.{MeasureKind}
use Rattle.texts.specs.declared.heading.MeasureKind.TheVariants as measure

-- the numbers of a first line, in the order of its fields
abbrev pub heading_numbers : Heading → List ℕ
heading_numbers h = h.width ∷ h.height ∷ h.start ∷ h.goal ∷ h.neighbours ∷ h.measure ∷ []

-- the place of a field of the first line: its k-th, from 1, behind a word of four letters
abbrev pub heading_field : ℕ → Place
heading_field k = record { line = 1; column = 10 * k - 5 }

-- the lattice of a number of neighbours, and the measure of a number
abbrev pub lattice_kind : ℕ → Option LatticeKind
lattice_kind n = cond (n == 4) (Some lattice.Streets) (cond (n == 8) (Some lattice.Kings) None)

abbrev pub measure_kind : ℕ → Option MeasureKind
measure_kind n = cond (n == 1) (Some measure.Length) (cond (n == 2) (Some measure.Sure) None)

-- four neighbours or eight; the first measure or the second; 1 to 64 cells
abbrev pub known_neighbours : ℕ → Bool
known_neighbours n = n == 4 || n == 8

abbrev pub known_measure : ℕ → Bool
known_measure n = n == 1 || n == 2

abbrev pub a_side : ℕ → Bool
a_side n = nat_le 1 n && nat_le n 64

-- the fault of a width or height that is no floor's, in its field
abbrev pub side_fault : SizeFault → HeadingFault
side_fault side.Width = Size (heading_field 1)
side_fault side.Height = Size (heading_field 2)

-- neighbours and measure are known, and then width and height are those of a floor
abbrev pub heading_check : Heading → Result (Unit {0}) HeadingFault
heading_check h =
    cond (not (known_neighbours h.neighbours)) (Err (Unknown (heading_field 5)))
    (cond (not (known_measure h.measure)) (Err (Unknown (heading_field 6)))
    (cond (not (a_side h.width)) (Err (Size (heading_field 1)))
    (cond (not (a_side h.height)) (Err (Size (heading_field 2)))
    (Ok tt))))
