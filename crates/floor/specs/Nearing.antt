-- A column or a row that is one nearer to the goal's.
use Rattle.std.specs.Prelude.{◌≡◌, ℕ, ◌+◌, ◌-◌, ◌<◌, ◌≤◌, Bool, true, false, ◌≢◌, nat_lt, refl}
use Rattle.std.proofs.Math.Decide.{ℕ_discrete}
use Rattle.std.proofs.Common.{arith, ltb-true, ltb-false}
use Rattle.model.specs.Floors.{Way, up, same, down, gap}
use Rattle.floor.specs.Ways.{Goes}

-- whether there is a way left to go
abbrev pub Left : Way → ℕ → Type 0
Left up p = 1 ≤ p
Left same p = p ≡ 0
Left down p = 1 ≤ p

-- from k one nearer to g, or the same if k is g
pub record Nearing (n k g : ℕ) : Type 0 where
  pub way : Way
  pub next : ℕ
  pub below : next < n
  pub goes : Goes way k next
  pub left : Left way (gap k g)
  pub less : gap next g ≡ gap k g - 1

pub nearing : (n k g : ℕ) → k < n → g < n → Nearing n k g
nearing n k g l m =
    elim (ℕ_discrete k g) [
      | yes e ↦ record { way = same; next = k; below = l; goes = refl; left = omega arith; less = omega arith }
      | no off ↦ go (nat_lt k g) refl off
    ]
  where
    go : (t : Bool) → nat_lt k g ≡ t → (k ≢ g) → Nearing n k g
    go true t off = let before = ltb-true k g t in record { way = up; next = k + 1; below = omega arith; goes = refl; left = omega arith; less = omega arith }
    go false t off = let past = ltb-false k g t in record { way = down; next = k - 1; below = omega arith; goes = omega arith; left = omega arith; less = omega arith }

pub gap_none : (a b : ℕ) → gap a b ≡ 0 → a ≡ b
gap_none a b e = omega arith

pub gap_self : (a : ℕ) → gap a a ≡ 0
gap_self a = omega arith
