-- A sheet: one byte for each cell.
use Rattle.std.specs.Prelude.{ℕ, ◌+◌, Bool, cond, not, ◌||◌, List, [], ◌∷◌, length, Some, None, Option, ◌==◌, slice_index}
use Rattle.carrier.specs.declared.unfit.Unfit.{Unfit}
use Rattle.carrier.specs.declared.unfit.Unfit.TheVariants.{SheetLength, Foreign}
use Rattle.carrier.specs.Unfits.{start_refusal}

-- the rock cells: those with the byte '#'
abbrev pub sheet_rock : List ℕ → ℕ → Bool
sheet_rock bytes a = slice_index bytes a == 35

-- a byte that is neither '.' nor '#'
abbrev pub foreign : ℕ → Bool
foreign b = not (b == 46 || b == 35)

-- the number of the first foreign byte, where the first one has the number k
abbrev pub first_foreign : List ℕ → ℕ → Option ℕ
first_foreign [] k = None
first_foreign (b ∷ bs) k = cond (foreign b) (Some k) (first_foreign bs (k + 1))

-- the refusal of a foreign cell, where there is one, and else another
abbrev pub for_foreign : Option ℕ → Option Unfit → Option Unfit
for_foreign (Some c) other = Some (Foreign c)
for_foreign None other = other

-- a sheet for a floor and a start is refused for its length, then a foreign byte, then the start
abbrev pub sheet_refusal : ℕ → List ℕ → ℕ → Option Unfit
sheet_refusal size bytes start =
    cond (not (length bytes == size)) (Some SheetLength)
    (for_foreign (first_foreign bytes 0) (start_refusal size (sheet_rock bytes) start))
