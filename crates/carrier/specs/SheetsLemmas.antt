-- What a sheet's bytes say of its cells.
use Rattle.std.specs.Prelude.{◌≡◌, ℕ, ◌+◌, ◌<◌, ◌≤◌, true, false, cond, List, [], ◌∷◌, length, Some, nat_eq, refl}
use Rattle.std.specs.List.{position, position_from}
use Rattle.std.proofs.Common.{◌∙◌, ap, arith}
use Rattle.std.proofs.lemmas.Iterator.Adapters.{position_from-zero}
use Rattle.std.proofs.lemmas.Bool.Decides.{nat_tests}
use Rattle.std.proofs.lemmas.List.{get_or_past}
use Rattle.carrier.specs.Sheets.{sheet_rock, foreign, first_foreign}

-- past a sheet there is no rock
pub past_open : (bytes : List ℕ) (a : ℕ) → length bytes ≤ a → sheet_rock bytes a ≡ false
past_open bytes a h = ap (λ b. nat_eq b 35) (get_or_past bytes a 0 h)

-- so rock is within it
pub rock_within : (bytes : List ℕ) (a : ℕ) → sheet_rock bytes a ≡ true → a < length bytes
rock_within bytes a e = grind (arith, nat_tests, past_open)

-- the first foreign byte is the first that passes a test
foreign_counted : (k : ℕ) (bytes : List ℕ) → position_from foreign k bytes ≡ first_foreign bytes k
foreign_counted k [] = refl
foreign_counted k (b ∷ bs) = ap (λ o. cond (foreign b) (Some k) o) (foreign_counted (k + 1) bs)

pub foreign_position : (bytes : List ℕ) → position foreign bytes ≡ first_foreign bytes 0
foreign_position bytes = position_from-zero foreign bytes ∙ foreign_counted 0 bytes
