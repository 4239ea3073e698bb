-- The first direction that passes a test: where it is found, and what it says of the others that there is none.
use Rattle.std.specs.Prelude.{◌≡◌, ℕ, zero, suc, ◌<◌, ◌≤◌, Bool, true, false, cond, Some, ◌==◌, ◌≢◌, refl}
use Rattle.std.proofs.Common.{sym, ◌∙◌, ap, subst, arith}
use Rattle.std.proofs.Math.Decide.{ℕ_discrete}
use Rattle.std.proofs.Math.Dec.{eqb-suc-zero}
use Rattle.std.proofs.lemmas.Bool.{both_ways}
use Rattle.model.specs.Lattice.{Lattice, Guide, first_direction, same_distance, plus, then_at}

-- one more direction that does not pass
pub still_none : (n : ℕ) (p : ℕ → Bool) → first_direction n p ≡ 0 → p (suc n) ≡ false → first_direction (suc n) p ≡ 0
still_none n p e f = go (first_direction n p) e (p (suc n)) f
  where
    go : (d : ℕ) → d ≡ 0 → (t : Bool) → t ≡ false → cond (d == 0) (cond t (suc n) 0) d ≡ 0
    go d e t f = ap (λ x. cond (x == 0) (cond t (suc n) 0) x) e ∙ ap (λ x. cond x (suc n) 0) f

-- where none of the first n passes, none is found
pub none_first : (n : ℕ) (p : ℕ → Bool) → ((i : ℕ) → i < n → p (suc i) ≡ false) → first_direction n p ≡ 0
none_first zero p h = refl
none_first (suc n) p h = still_none n p (none_first n p (λ i l. h i (omega arith))) (h n (omega arith))

-- none before it passes, and it does: it is the first
pub found_first : (n m : ℕ) (p : ℕ → Bool) → first_direction n p ≡ 0 → p (suc n) ≡ true → suc n ≤ m → first_direction m p ≡ suc n
found_first n zero p e t l = absurd (omega arith)
found_first n (suc m) p e t l =
    elim (ℕ_discrete n m) [
      | yes same ↦ here m (sym same)
      | no off ↦
          let earlier = found_first n m p e t (omega arith) in
          ap (λ x. cond (x == 0) (cond (p (suc m)) (suc m) 0) x) earlier ∙ ap (λ x. cond x (cond (p (suc m)) (suc m) 0) (suc n)) (eqb-suc-zero n)
    ]
  where
    now : (d : ℕ) → d ≡ 0 → (b : Bool) → b ≡ true → cond (d == 0) (cond b (suc n) 0) d ≡ suc n
    now d z b q = ap (λ x. cond (x == 0) (cond b (suc n) 0) x) z ∙ ap (λ x. cond x (suc n) 0) q

    here : (k : ℕ) → k ≡ n → first_direction (suc k) p ≡ suc n
    here k same = let P : ℕ → Type 0 = λ k. first_direction (suc k) p ≡ suc n in subst P (sym same) (now (first_direction n p) e (p (suc n)) t)

-- where none is found, none passes
pub none_passes : (n : ℕ) (p : ℕ → Bool) → first_direction n p ≡ 0 → (d : ℕ) → 1 ≤ d → d ≤ n → p d ≢ true
none_passes zero p e d l h t = absurd (omega arith)
none_passes (suc n) p e d l h t = one (first_direction n p) refl (p (suc n)) refl e (λ z k. none_passes n p z d l k t)
  where
    one : (k : ℕ) → first_direction n p ≡ k → (b : Bool) → p (suc n) ≡ b → cond (k == 0) (cond b (suc n) 0) k ≡ 0 → (first_direction n p ≡ 0 → d ≤ n → ⊥) → ⊥
    one zero z true q f earlier = omega arith
    one zero z false q f earlier =
        elim (ℕ_discrete d (suc n)) [
          | yes same ↦ both_ways (p d) (ap p same ∙ q) t
          | no off ↦ earlier z (omega arith)
        ]
    one (suc k) z b q f earlier = let g : suc k ≡ 0 = ap (λ x. cond x (cond b (suc n) 0) (suc k)) (sym (eqb-suc-zero k)) ∙ f in omega arith

-- whether the neighbour in a direction is nearer by just the cost of the step
abbrev pub nearer : Lattice → Guide → ℕ → ℕ → Bool
nearer l g a d = same_distance (plus (then_at (l.beside a d) g.distance) (l.cost d)) (g.distance a)

pub nearer_at : (l : Lattice) (g : Guide) (a d b : ℕ) → Some b ≡ l.beside a d → same_distance (plus (g.distance b) (l.cost d)) (g.distance a) ≡ nearer l g a d
nearer_at l g a d b e = ap (λ o. same_distance (plus (then_at o g.distance) (l.cost d)) (g.distance a)) e
