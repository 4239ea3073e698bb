-- A byte of directions: each of its bits, how many are set, and what two bytes share.
use Rattle.std.proofs.Common.{◌≡◌, ℕ, zero, suc, ◌+◌, ◌-◌, ◌*◌, ◌/◌, ◌%◌, ◌^◌, ◌<◌, ◌≤◌, Bool, true, false, cond, ◌&&◌, eqb, sym, refl, ap, ◌∙◌, subst, mul_assoc, arith, lit<}
use native.Mathlib.Decide.{ℕ_discrete}
use native.Mathlib.Nat.{mul-add-mod_self_right}
use lib.Bits.{bit_and, and_block}
use lib.Count.{ones, ones_cat, ones-ones}
use Rattle.std.proofs.lemmas.Grind.{common_steps}
use Rattle.std.proofs.lemmas.Nat.{pow-add, shr_high, field_of}
use Rattle.model.specs.Lattice.{directions, bits}
use Rattle.board.specs.Around.{direction_bit}

-- the bit of a test
abbrev bit : Bool → ℕ
bit t = cond t 1 0

doubled : (n : ℕ) → 2 ^ suc n ≡ 2 ^ n + 2 ^ n
doubled n = grind (arith, common_steps)

-- the last bit, and those before it
split : (n : ℕ) (p : ℕ → Bool) → bits (suc n) p ≡ bit (p (suc n)) * 2 ^ n + bits n p
split n p = grind arith

below : (n : ℕ) (p : ℕ → Bool) → bits n p < 2 ^ n
below zero p = lit< tt
below (suc n) p = let lower = below n p in grind (arith, doubled n)

-- two bytes share the directions that pass both tests
pub bits_both : (n : ℕ) (p q : ℕ → Bool) → bit_and (bits n p) (bits n q) ≡ bits n (λ d. p d && q d)
bits_both zero p q = refl
bits_both (suc n) p q =
    let rest = bits_both n p q in
    let block = and_block n (bit (p (suc n))) (bit (q (suc n))) (bits n p) (bits n q) (below n p) (below n q) in
    rw (split n p, split n q) (grind arith)

-- as many bits are set as directions pass
pub bits_ones : (n : ℕ) (p : ℕ → Bool) → ones (bits n p) ≡ directions n p
bits_ones zero p = ones-ones 0
bits_ones (suc n) p =
    let rest = bits_ones n p in
    rw (split n p, ones_cat n (bit (p (suc n))) (bits n p) (below n p)) (grind (arith, ones-ones 1, ones-ones 0))

-- a byte with bits above a place, as read at the place
low : (c k i r : ℕ) → i < k → (c * 2 ^ k + r) / 2 ^ i % 2 ≡ r / 2 ^ i % 2
low c k i r h =
    let above : ℕ = k - (1 + i) in
    let parts : 2 ^ k ≡ 2 ^ above * 2 ^ (1 + i) = ap (λ m. 2 ^ m) (let e : k ≡ above + (1 + i) = omega arith in e) ∙ pow-add 2 above (1 + i) in
    let whole : c * 2 ^ k + r ≡ c * 2 ^ above * 2 ^ (1 + i) + r = ap (λ m. c * m + r) parts ∙ ap (λ m. m + r) (sym (mul_assoc c (2 ^ above) (2 ^ (1 + i)))) in
    sym (field_of (c * 2 ^ k + r) 1 i)
    ∙ ap (λ m. m / 2 ^ i) (ap (λ m. m % 2 ^ (1 + i)) whole ∙ mul-add-mod_self_right (c * 2 ^ above) (2 ^ (1 + i)) r)
    ∙ field_of r 1 i

at_place : (n : ℕ) (p : ℕ → Bool) (i : ℕ) → i < n → eqb (bits n p / 2 ^ i % 2) 1 ≡ p (suc i)
at_place zero p i h = absurd (omega arith)
at_place (suc n) p i h = ap (λ m. eqb (m / 2 ^ i % 2) 1) (split n p) ∙ elim (ℕ_discrete i n) [
  | yes e ↦ subst (λ k. eqb ((bit (p (suc n)) * 2 ^ n + bits n p) / 2 ^ k % 2) 1 ≡ p (suc k)) (sym e) (ap (λ m. eqb (m % 2) 1) (shr_high (bit (p (suc n))) n (bits n p) (below n p)) ∙ last (p (suc n)))
  | no e ↦ let lower : i < n = omega arith in ap (λ m. eqb m 1) (low (bit (p (suc n))) n i (bits n p) lower) ∙ at_place n p i lower
]
  where
    last : (t : Bool) → eqb (bit t % 2) 1 ≡ t
    last true = refl
    last false = refl

-- the bit of a direction is set exactly if it passes
pub bit_of : (n : ℕ) (p : ℕ → Bool) (d : ℕ) → 1 ≤ d → d ≤ n → direction_bit (bits n p) d ≡ p d
bit_of n p d l h = at_place n p (d - 1) (omega arith) ∙ ap p (let e : suc (d - 1) ≡ d = omega arith in e)
