-- The blanks before a number.
use Rattle.std.proofs.Common.{◌≡◌, ℕ, ◌+◌, Bool, true, false, cond, eqb, List, [], ◌∷◌, drop, refl, add_comm, add-one}
use Rattle.std.specs.List.{prefix_len}
use Rattle.texts.specs.Numerals.{behind_blanks}

-- what stands behind the blanks
pub blanks_stop : (f : List ℕ) → drop (prefix_len (λ b. eqb b 32) f) f ≡ behind_blanks f
blanks_stop [] = refl
blanks_stop (b ∷ bs) = by (eqb b 32) (blanks_stop bs)
  where
    blanks : ℕ
    blanks = prefix_len (λ c. eqb c 32) bs

    by : (e : Bool) → drop blanks bs ≡ behind_blanks bs → drop (cond e (1 + blanks) 0) (b ∷ bs) ≡ cond e (behind_blanks bs) (b ∷ bs)
    by true h = rw (add_comm 1 blanks, add-one) h
    by false h = refl
