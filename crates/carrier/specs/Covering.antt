-- What a list of pillars says of its cells.
use Rattle.std.specs.Prelude.{◌≡◌, ℕ, ◌<◌, true, List}
use Rattle.std.proofs.Common.{arith}
use Rattle.std.proofs.lemmas.Bool.Decides.{nat_tests}
use Rattle.carrier.specs.declared.pillar.Pillar.{Pillar}
use Rattle.carrier.specs.Pillars.{pillar_rock}

-- rock is on the floor
pub rock_within : (size width : ℕ) (pillars : List Pillar) (a : ℕ) → pillar_rock size width pillars a ≡ true → a < size
rock_within size width pillars a e = grind (arith, nat_tests)
