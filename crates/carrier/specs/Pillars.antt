-- Pillars: rectangles of rock on a floor whose rows have one width.
use Rattle.std.specs.Prelude.{ℕ, ◌/◌, ◌%◌, Bool, false, cond, ◌&&◌, ◌||◌, List, [], ◌∷◌, length, Some, Option, nat_le, nat_lt}
use Rattle.carrier.specs.declared.pillar.Pillar.{Pillar}
use Rattle.carrier.specs.declared.unfit.Unfit.{Unfit}
use Rattle.carrier.specs.declared.unfit.Unfit.TheVariants.{TooManyPillars}
use Rattle.carrier.specs.Unfits.{start_refusal}

-- a pillar covers the columns from its left to its right, in the rows from its top to its bottom
abbrev pub covers : Pillar → ℕ → ℕ → Bool
covers p column row = (nat_le p.left column && nat_le column p.right) && (nat_le p.top row && nat_le row p.bottom)

-- one of the pillars does
abbrev pub any_pillar_covers : List Pillar → ℕ → ℕ → Bool
any_pillar_covers [] column row = false
any_pillar_covers (p ∷ ps) column row = covers p column row || any_pillar_covers ps column row

-- the rock cells: the cells of the floor that a pillar covers; rows of width 0 have none
abbrev pub pillar_rock : ℕ → ℕ → List Pillar → ℕ → Bool
pillar_rock size width pillars a = cond (nat_lt a size && nat_lt 0 width) (any_pillar_covers pillars (a % width) (a / width)) false

-- a list of pillars and a start are refused for over 64 pillars, then the start
abbrev pub pillars_refusal : ℕ → ℕ → List Pillar → ℕ → Option Unfit
pillars_refusal size width pillars start =
    cond (nat_lt 64 (length pillars)) (Some TooManyPillars) (start_refusal size (pillar_rock size width pillars) start)
