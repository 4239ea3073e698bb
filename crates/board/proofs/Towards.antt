-- The directions from a cell, one after the other.
use Rattle.std.proofs.Common.{◌≡◌, ℕ, zero, suc, ◌≤◌, Bool, true, false, cond, eqb, Some, sym, ap, ◌∙◌, ⊎_elim, arith}
use lib.Dec.{eqb-suc-zero}
use borrow.Author.Tests.{clash}
use Rattle.model.specs.Lattice.{Lattice, Lawful, is, first_direction}
use Rattle.model.proofs.Basics.Directions.{first_passes}
use Rattle.model.proofs.Basics.Tests.{is_some}
use Rattle.board.specs.Around.{towards_by}

-- the first of n directions is at most n
pub first_bound : (n : ℕ) (p : ℕ → Bool) → first_direction n p ≤ n
first_bound zero p = omega arith
first_bound (suc n) p = one (first_direction n p) (p (suc n)) (first_bound n p)
  where
    one : (d : ℕ) (b : Bool) → d ≤ n → cond (eqb d 0) (cond b (suc n) 0) d ≤ suc n
    one zero true h = omega arith
    one zero false h = omega arith
    one (suc d) b h = by (eqb (suc d) 0) (eqb-suc-zero d)
      where
        by : (t : Bool) → t ≡ false → cond t (cond b (suc n) 0) (suc d) ≤ suc n
        by true e = absurd (clash (sym e))
        by false e = omega arith

-- where one more direction does not pass, the first stays
pub first_stays : (n : ℕ) (p : ℕ → Bool) → p (suc n) ≡ false → first_direction (suc n) p ≡ first_direction n p
first_stays n p e = one (first_direction n p) (p (suc n)) e
  where
    one : (d : ℕ) (b : Bool) → b ≡ false → cond (eqb d 0) (cond b (suc n) 0) d ≡ d
    one zero b h = ap (λ t. cond t (suc n) 0) h
    one (suc d) b h = ap (λ t. cond t (cond b (suc n) 0) (suc d)) (eqb-suc-zero d)

-- where none passed before and one more does, it is the first
pub first_new : (n : ℕ) (p : ℕ → Bool) → first_direction n p ≡ 0 → p (suc n) ≡ true → first_direction (suc n) p ≡ suc n
first_new n p z e = ap (λ d. cond (eqb d 0) (cond (p (suc n)) (suc n) 0) d) z ∙ ap (λ t. cond t (suc n) 0) e

module _ (l : Lattice) (lawful : Lawful l) (here : ℕ) where
  -- no earlier direction leads to a neighbour too
  pub none_earlier : (n b : ℕ) → l.beside here (suc n) ≡ Some b → towards_by l here n b ≡ 0
  none_earlier n b e = ⊎_elim (λ z. z) (λ p. absurd (late p)) (first_passes n (λ d. is (l.beside here d) b))
    where
      late : is (l.beside here (towards_by l here n b)) b ≡ true → ⊥
      late p =
          let same : towards_by l here n b ≡ suc n = lawful.single here _ (suc n) b (is_some _ b p) e in
          let low : towards_by l here n b ≤ n = first_bound n (λ d. is (l.beside here d) b) in
          omega arith
