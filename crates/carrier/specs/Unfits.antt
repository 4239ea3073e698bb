-- When a carrier is refused, and with which number.
use Rattle.std.specs.Prelude.{◌≡◌, ℕ, Bool, cond, Some, None, Option, nat_le}
use Rattle.carrier.specs.declared.unfit.Unfit.{Unfit}
use Rattle.carrier.specs.declared.unfit.Unfit.TheVariants.{SheetLength, Foreign, TooManyPillars, StartOffFloor, StartOnRock, NoMemory}

abbrev pub unfit_number : Unfit → Option ℕ
unfit_number SheetLength = Some 2
unfit_number (Foreign c) = Some 3
unfit_number TooManyPillars = Some 4
unfit_number StartOffFloor = Some 6
unfit_number StartOnRock = Some 7
unfit_number NoMemory = None

-- a start has to be a cell, and passable
abbrev pub start_refusal : ℕ → (ℕ → Bool) → ℕ → Option Unfit
start_refusal size rock start = cond (nat_le size start) (Some StartOffFloor) (cond (rock start) (Some StartOnRock) None)

-- the refusal that is due, and where none is, want of memory
abbrev pub Refuses : Option Unfit → Unfit → Type 0
Refuses None e = e ≡ NoMemory
Refuses (Some f) e = e ≡ f
