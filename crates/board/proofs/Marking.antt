-- The neighbours of a cell are marked one direction after the other.
use Rattle.std.proofs.Common.{◌≡◌, ℕ, zero, suc, cond, eqb, List, [], ◌∷◌, Some, None, Option, sym, refl, ap, ◌∙◌, subst, eq-eqb, ne_eqb}
use native.Mathlib.Decide.{ℕ_discrete}
use lib.Dec.{eqb-suc-zero}
use Rattle.std.specs.Option.{option_map}
use Rattle.std.specs.List.{slice_get}
use Rattle.model.specs.Lattice.{Lattice, Lawful, is}
use Rattle.board.specs.declared.square.Square.{Square}
use Rattle.board.specs.Board.{changed, with_mark}
use Rattle.board.specs.Around.{direction_bit, felt_mark_of, Remade, towards_by, marked_by}
use Rattle.board.proofs.Towards.{first_stays, first_new, none_earlier}

module _ {X : Type 0} where
  -- what a list has where it is changed, and elsewhere
  pub changed_here : (f : X → X) (xs : List X) (i : ℕ) → slice_get (changed f xs i) i ≡ option_map f (slice_get xs i)
  changed_here f [] i = refl
  changed_here f (x ∷ xs) zero = refl
  changed_here f (x ∷ xs) (suc i) = changed_here f xs i

  pub changed_else : (f : X → X) (xs : List X) (i a : ℕ) → (a ≡ i → ⊥) → slice_get (changed f xs i) a ≡ slice_get xs a
  changed_else f [] i a h = refl
  changed_else f (x ∷ xs) zero zero h = absurd (h refl)
  changed_else f (x ∷ xs) zero (suc a) h = refl
  changed_else f (x ∷ xs) (suc i) zero h = refl
  changed_else f (x ∷ xs) (suc i) (suc a) h = changed_else f xs i a (λ e. h (ap suc e))

  -- two functions that agree make the same of an element
  pub mapped_same : (f g : X → X) (o : Option X) → ((x : X) → f x ≡ g x) → option_map f o ≡ option_map g o
  mapped_same f g None h = refl
  mapped_same f g (Some x) h = ap Some (h x)

  -- one after the other
  pub mapped_twice : (f g h : X → X) (o : Option X) → ((x : X) → g (f x) ≡ h x) → option_map g (option_map f o) ≡ option_map h o
  mapped_twice f g h None e = refl
  mapped_twice f g h (Some x) e = ap Some (e x)

  pub mapped_none : (f : X → X) (o : Option X) → ((x : X) → f x ≡ x) → o ≡ option_map f o
  mapped_none f None h = refl
  mapped_none f (Some x) h = ap Some (sym (h x))

module _ {M : Type 0} (l : Lattice) (lawful : Lawful l) (here byte : ℕ) where
  -- a record by the direction in which its cell lies
  abbrev by_direction : ℕ → Square M → Square M
  by_direction d x = cond (eqb d 0) x (with_mark (felt_mark_of (direction_bit byte d)) x)

  same_direction : (n m a : ℕ) (o : Option (Square M)) → towards_by l here n a ≡ towards_by l here m a → option_map (marked_by l here byte n a) o ≡ option_map (marked_by l here byte m a) o
  same_direction n m a o e = mapped_same _ _ o (λ x. ap (λ d. by_direction d x) e)

  -- a direction that leads nowhere
  pub marks_none : (n : ℕ) (xs ys : List (Square M)) → l.beside here (suc n) ≡ None → Remade (marked_by l here byte n) xs ys → Remade (marked_by l here byte (suc n)) xs ys
  marks_none n xs ys e h a =
      h a ∙ same_direction n (suc n) a (slice_get xs a) (sym (first_stays n (λ d. is (l.beside here d) a) (ap (λ o. is o a) e)))

  -- a direction that leads to a neighbour
  pub marks_more : (n b : ℕ) (xs ys : List (Square M)) → l.beside here (suc n) ≡ Some b → Remade (marked_by l here byte n) xs ys →
      Remade (marked_by l here byte (suc n)) xs (changed (with_mark (felt_mark_of (direction_bit byte (suc n)))) ys b)
  marks_more n b xs ys e h a = elim (ℕ_discrete a b) [
    | yes s ↦ subst (λ k. slice_get (changed set_mark ys b) k ≡ option_map (marked_by l here byte (suc n) k) (slice_get xs k)) (sym s) at_b
    | no ne ↦ changed_else set_mark ys b a ne ∙ h a ∙ same_direction n (suc n) a (slice_get xs a) (sym (first_stays n (λ d. is (l.beside here d) a) (ap (λ o. is o a) e ∙ ne_eqb b a (λ q. ne (sym q)))))
  ]
    where
      set_mark : Square M → Square M
      set_mark = with_mark (felt_mark_of (direction_bit byte (suc n)))

      before : towards_by l here n b ≡ 0
      before = none_earlier l lawful here n b e

      after : towards_by l here (suc n) b ≡ suc n
      after = first_new n (λ d. is (l.beside here d) b) before (ap (λ o. is o b) e ∙ eq-eqb b b refl)

      made : (x : Square M) → set_mark (marked_by l here byte n b x) ≡ marked_by l here byte (suc n) b x
      made x =
          ap (λ d. set_mark (by_direction d x)) before
          ∙ sym (ap (λ d. by_direction d x) after ∙ ap (λ t. cond t x (set_mark x)) (eqb-suc-zero n))

      at_b : slice_get (changed set_mark ys b) b ≡ option_map (marked_by l here byte (suc n) b) (slice_get xs b)
      at_b = changed_here set_mark ys b ∙ ap (option_map set_mark) (h b) ∙ mapped_twice _ set_mark _ (slice_get xs b) made
