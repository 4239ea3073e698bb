-- The waiting cell of least measure, the lowest among equals, is the one that the plain drive takes.
use Rattle.std.proofs.Common.{◌≡◌, ℕ, zero, suc, ◌<◌, ◌≤◌, Bool, true, false, cond, Some, None, Option, sym, refl, ap, ◌∙◌, subst, arith}
use native.Mathlib.Decide.{ℕ_discrete}
use Rattle.model.specs.Scale.{Ordered}
use Rattle.model.specs.Plain.{World, Squares, worth, waits, sooner, least}
use Rattle.model.proofs.Search.Least.{Best, best}

module _ (w : World) (ordered : Ordered w.scale) (q : Squares w) where
  abbrev Waits : ℕ → Type 0
  Waits a = waits w (q a).stage ≡ true

  abbrev at_most : ℕ → ℕ → Bool
  at_most a c = w.scale.at_most (worth w (q a).stage) (worth w (q c).stage)

  -- where no cell waits none is found
  pub least_none : (n : ℕ) → ((a : ℕ) → a < n → Waits a → ⊥) → least w q n ≡ None
  least_none n h = go (least w q n) refl (best w ordered q n)
    where
      go : (o : Option ℕ) → least w q n ≡ o → Best w ordered q n o → o ≡ None
      go None e b = refl
      go (Some a) e b = absurd (h a b.0 b.1)

  -- a waiting cell that measures at most as much as each, and less than those of lower numbers
  pub record First (n a : ℕ) : Type 0 where
    pub inside : a < n
    pub waiting : Waits a
    pub before : (c : ℕ) → c < n → Waits c → (at_most a c ≡ true) × (at_most c a ≡ true → a ≤ c)

  pub least_first : (n a : ℕ) → First n a → least w q n ≡ Some a
  unfolding least
  least_first zero a f = absurd (omega (arith, f.inside))
  least_first (suc n) a f = elim (ℕ_discrete a n) [
    | yes e ↦ last e
    | no ne ↦ earlier (waits w (q n).stage) refl (least_first n a (record { inside = omega (arith, f.inside); waiting = f.waiting; before = λ c l. f.before c (omega arith) }))
  ]
    where
      -- one more cell that waits comes later, or does not wait
      earlier : (t : Bool) → waits w (q n).stage ≡ t → least w q n ≡ Some a → cond t (Some (sooner w q (least w q n) n)) (least w q n) ≡ Some a
      earlier true e h = ap (λ o. Some (sooner w q o n)) h ∙ ap (λ b. Some (cond b a n)) (f.before n (omega arith) e).0
      earlier false e h = h

      -- the last cell comes before each
      over : (o : Option ℕ) → Best w ordered q n o → a ≡ n → sooner w q o n ≡ n
      over None b e = refl
      over (Some c) b e = ap (λ t. cond t c n) (not_before (at_most c n) refl)
        where
          not_before : (t : Bool) → at_most c n ≡ t → t ≡ false
          not_before false k = refl
          not_before true k = absurd (let z : a ≤ c = (f.before c (omega (arith, b.0)) b.1).1 (subst (λ x. at_most c x ≡ true) (sym e) k) in omega (arith, b.0))

      last : a ≡ n → cond (waits w (q n).stage) (Some (sooner w q (least w q n) n)) (least w q n) ≡ Some a
      last e =
          ap (λ t. cond t (Some (sooner w q (least w q n) n)) (least w q n)) (subst Waits e f.waiting)
          ∙ ap Some (over (least w q n) (best w ordered q n) e ∙ sym e)
