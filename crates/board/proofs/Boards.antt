-- A board's records, read and changed.
use Rattle.std.proofs.Common.{◌≡◌, ℕ, zero, suc, List, [], ◌∷◌, set, Some, None, Option, refl, ap, ◌∙◌}
use Rattle.std.specs.List.{slice_get}
use Rattle.std.specs.Option.{MatchOption}
use Rattle.board.specs.Board.{changed}

module _ {X : Type 0} where
  -- a list is changed by setting what a function makes of the element there
  changed_some : (f : X → X) (xs : List X) (i : ℕ) (x : X) → slice_get xs i ≡ Some x → set xs i (f x) ≡ changed f xs i
  changed_some f [] i x e = cc
  changed_some f (y ∷ xs) zero x e = cc
  changed_some f (y ∷ xs) (suc i) x e = ap (λ zs. y ∷ zs) (changed_some f xs i x e)

  -- and where there is none it stays
  changed_none : (f : X → X) (xs : List X) (i : ℕ) → slice_get xs i ≡ None → xs ≡ changed f xs i
  changed_none f [] i e = refl
  changed_none f (y ∷ xs) zero e = cc
  changed_none f (y ∷ xs) (suc i) e = ap (λ zs. y ∷ zs) (changed_none f xs i e)

  -- what a closure that does as a function makes of the element
  pub changed_by :
      (f : X → X) (Makes : X → X → Type 0) (xs ys : List X) (i : ℕ) → MatchOption (slice_get xs i) (ys ≡ xs) (λ x. (y : X) × Makes x y × (ys ≡ set xs i y)) →
      ((x y : X) → Makes x y → y ≡ f x) → ys ≡ changed f xs i
  changed_by f Makes xs ys i made says = by (slice_get xs i) refl made
    where
      by : (o : Option X) → slice_get xs i ≡ o → MatchOption o (ys ≡ xs) (λ x. (y : X) × Makes x y × (ys ≡ set xs i y)) → ys ≡ changed f xs i
      by None e m = m ∙ changed_none f xs i e
      by (Some x) e m = m.2 ∙ ap (set xs i) (says x m.0 m.1) ∙ changed_some f xs i x e
