-- Pointers are cut by going round the neighbours of the cells that they lead to.
use Rattle.std.proofs.Common.{◌≡◌, ℕ, suc, Bool, true, false, cond, not, ◌&&◌, ◌||◌, eqb, List, Some, None, Option, sym, refl, ap, ◌∙◌, subst, arith, eq-eqb, ne_eqb, eqb-true}
use mathlib.Core.Bool.{and-false, or-true}
use native.Mathlib.Decide.{ℕ_discrete}
use lib.Dec.{eqb-suc-zero}
use borrow.Author.Tests.{eqb-false}
use Rattle.std.specs.Option.{option_map}
use Rattle.std.specs.List.{slice_get}
use Rattle.model.specs.Lattice.{Lattice, Lawful, is, test_at}
use Rattle.model.specs.Measures.{length_scale}
use Rattle.model.specs.Plain.{towards}
use Rattle.model.proofs.Basics.Directions.{beside_neighbours}
use Rattle.model.proofs.Basics.Tests.{is_some}
use Rattle.board.specs.declared.square.Square.{Square}
use Rattle.board.specs.Board.{changed, pointer_in, pointer_at, with_pointer}
use Rattle.board.specs.Around.{direction_bit, Remade, towards_by, struck, cut_by, cut_towards}
use Rattle.board.proofs.Marking.{changed_here, changed_else, mapped_same, mapped_twice, mapped_none}
use Rattle.board.proofs.Towards.{first_stays, first_new, none_earlier}

-- a record after the neighbours of b in the directions from 1 to n were gone over
abbrev pub cut_upto : {M : Type 0} → Lattice → ℕ → ℕ → ℕ → Square M → Square M
cut_upto l b n a x = cond (not (eqb (towards_by l b n a) 0) && is (l.beside a x.pointer) b) (with_pointer 0 x) x

test_same : (o : Option ℕ) (p q : ℕ → Bool) → ((c : ℕ) → p c ≡ q c) → test_at o p ≡ test_at o q
test_same None p q h = refl
test_same (Some c) p q h = h c

module _ (l : Lattice) (lawful : Lawful l) where
  stays_else : (b n a : ℕ) (o : Option ℕ) → l.beside b (suc n) ≡ o → is o a ≡ false → towards_by l b n a ≡ towards_by l b (suc n) a
  stays_else b n a o e f = sym (first_stays n (λ d. is (l.beside b d) a) (ap (λ x. is x a) e ∙ f))

  -- direction 0 leads nowhere
  beside_zero : (a : ℕ) → l.beside a 0 ≡ None
  beside_zero a = go (l.beside a 0) refl
    where
      go : (o : Option ℕ) → l.beside a 0 ≡ o → o ≡ None
      go None e = refl
      go (Some b) e = absurd (let w = lawful.within a 0 b e in let z = w.2 in omega arith)

  -- where a direction leads to a cell, the first of the eight that does is not 0
  found : (a d b : ℕ) → l.beside a d ≡ Some b → not (eqb (towards_by l a 8 b) 0) ≡ true
  unfolding towards
  found a d b e = beside_neighbours (record { lattice = l; rock = λ _. false; start = 0; guide = record { goal = 0; distance = λ _. None }; scale = length_scale }) lawful a d b e

  module _ {M : Type 0} (b : ℕ) where
    same_direction : (n m a : ℕ) (o : Option (Square M)) → towards_by l b n a ≡ towards_by l b m a → option_map (cut_upto l b n a) o ≡ option_map (cut_upto l b m a) o
    same_direction n m a o e = mapped_same _ _ o (λ x. ap (λ d. cond (not (eqb d 0) && is (l.beside a x.pointer) b) (with_pointer 0 x) x) e)

    pub cut_none : (n : ℕ) (xs ys : List (Square M)) → l.beside b (suc n) ≡ None → Remade (cut_upto l b n) xs ys → Remade (cut_upto l b (suc n)) xs ys
    cut_none n xs ys e h a = h a ∙ same_direction n (suc n) a (slice_get xs a) (stays_else b n a None e refl)

    module _ (n c : ℕ) (xs ys : List (Square M)) (e : l.beside b (suc n) ≡ Some c) (h : Remade (cut_upto l b n) xs ys) where
      elsewhere : (a : ℕ) → (a ≡ c → ⊥) → slice_get ys a ≡ option_map (cut_upto l b (suc n) a) (slice_get xs a)
      elsewhere a ne = h a ∙ same_direction n (suc n) a (slice_get xs a) (stays_else b n a (Some c) e (ne_eqb c a (λ q. ne (sym q))))

      -- the neighbour's own record is still as it was
      still : slice_get ys c ≡ slice_get xs c
      still = h c ∙ sym (mapped_none _ (slice_get xs c) (λ x. ap (λ d. cond (not (eqb d 0) && is (l.beside c x.pointer) b) (with_pointer 0 x) x) (none_earlier l lawful b n c e)))

      by_pointer : (x : Square M) (t : Bool) → is (l.beside c x.pointer) b ≡ t → cut_upto l b (suc n) c x ≡ cond t (with_pointer 0 x) x
      by_pointer x t q =
          ap (λ d. cond (not (eqb d 0) && is (l.beside c x.pointer) b) (with_pointer 0 x) x) (first_new n (λ d. is (l.beside b d) c) (none_earlier l lawful b n c e) (ap (λ o. is o c) e ∙ eq-eqb c c refl))
          ∙ ap (λ z. cond (not z && is (l.beside c x.pointer) b) (with_pointer 0 x) x) (eqb-suc-zero n)
          ∙ ap (λ z. cond z (with_pointer 0 x) x) q

      here : (t : Bool) (o : Option (Square M)) → slice_get xs c ≡ o → is (l.beside c (pointer_in o)) b ≡ t → option_map (λ x. cond t (with_pointer 0 x) x) o ≡ option_map (cut_upto l b (suc n) c) o
      here t None q k = refl
      here t (Some x) q k = ap Some (sym (by_pointer x t k))

      tested : (t : Bool) → is (l.beside c (pointer_at ys c)) b ≡ t → option_map (λ x. cond t (with_pointer 0 x) x) (slice_get ys c) ≡ option_map (cut_upto l b (suc n) c) (slice_get xs c)
      tested t k =
          ap (option_map (λ x. cond t (with_pointer 0 x) x)) still
          ∙ here t (slice_get xs c) refl (ap (λ o. is (l.beside c (pointer_in o)) b) (sym still) ∙ k)

      pub cut_hit : is (l.beside c (pointer_at ys c)) b ≡ true → Remade (cut_upto l b (suc n)) xs (changed (with_pointer 0) ys c)
      cut_hit k a = elim (ℕ_discrete a c) [
        | yes s ↦ subst (λ z. slice_get (changed (with_pointer 0) ys c) z ≡ option_map (cut_upto l b (suc n) z) (slice_get xs z)) (sym s) (changed_here (with_pointer 0) ys c ∙ tested true k)
        | no ne ↦ changed_else (with_pointer 0) ys c a ne ∙ elsewhere a ne
      ]

      pub cut_miss : is (l.beside c (pointer_at ys c)) b ≡ false → Remade (cut_upto l b (suc n)) xs ys
      cut_miss k a = elim (ℕ_discrete a c) [
        | yes s ↦ subst (λ z. slice_get ys z ≡ option_map (cut_upto l b (suc n) z) (slice_get xs z)) (sym s) (mapped_none _ (slice_get ys c) (λ x. refl) ∙ tested false k)
        | no ne ↦ elsewhere a ne
      ]

    -- after all eight, no pointer leads there
    pub cut_end : (xs ys : List (Square M)) → Remade (cut_upto l b 8) xs ys → Remade (cut_towards l b) xs ys
    cut_end xs ys h a = h a ∙ mapped_same _ _ (slice_get xs a) (λ x. all x (is (l.beside a x.pointer) b) refl)
      where
        all : (x : Square M) (t : Bool) → is (l.beside a x.pointer) b ≡ t → cut_upto l b 8 a x ≡ cut_towards l b a x
        all x false e =
            ap (λ t. cond (not (eqb (towards_by l b 8 a) 0) && t) (with_pointer 0 x) x) e
            ∙ ap (λ t. cond t (with_pointer 0 x) x) (and-false (not (eqb (towards_by l b 8 a) 0)))
            ∙ sym (ap (λ t. cond t (with_pointer 0 x) x) e)
        all x true e =
            ap (λ t. cond (t && is (l.beside a x.pointer) b) (with_pointer 0 x) x) (found b (l.opposite x.pointer) a (lawful.back a x.pointer b (is_some _ b e)))

  module _ {M : Type 0} (here byte : ℕ) where
    -- a direction whose bit is not set
    pub strike_clear : (n : ℕ) (xs ys : List (Square M)) → direction_bit byte (suc n) ≡ false → Remade (cut_by l here byte n) xs ys → Remade (cut_by l here byte (suc n)) xs ys
    strike_clear n xs ys clear h a = h a ∙ mapped_same _ _ (slice_get xs a) (λ x. ap (λ t. cond t (with_pointer 0 x) x) (test_same (l.beside a x.pointer) _ _ (λ c. same c (is (l.beside here (suc n)) c) refl)))
      where
        same : (c : ℕ) (t : Bool) → is (l.beside here (suc n)) c ≡ t → struck l here byte n c ≡ struck l here byte (suc n) c
        same c false e = ap (λ d. not (eqb d 0) && direction_bit byte d) (sym (first_stays n (λ d. is (l.beside here d) c) e))
        same c true e =
            let before = none_earlier l lawful here n c (is_some _ c e) in
            ap (λ d. not (eqb d 0) && direction_bit byte d) before
            ∙ sym (ap (λ d. not (eqb d 0) && direction_bit byte d) (first_new n (λ d. is (l.beside here d) c) before e)
            ∙ ap (λ z. not z && direction_bit byte (suc n)) (eqb-suc-zero n) ∙ clear)

    -- a direction that leads nowhere
    pub strike_none : (n : ℕ) (xs ys : List (Square M)) → l.beside here (suc n) ≡ None → Remade (cut_by l here byte n) xs ys → Remade (cut_by l here byte (suc n)) xs ys
    strike_none n xs ys e h a = h a ∙ mapped_same _ _ (slice_get xs a) (λ x. ap (λ t. cond t (with_pointer 0 x) x) (test_same (l.beside a x.pointer) _ _ same))
      where
        same : (c : ℕ) → struck l here byte n c ≡ struck l here byte (suc n) c
        same c = ap (λ d. not (eqb d 0) && direction_bit byte d) (sym (first_stays n (λ d. is (l.beside here d) c) (ap (λ o. is o c) e)))

    -- a direction whose bit is set and that leads to a cell
    pub strike_more : (n b : ℕ) (xs ys zs : List (Square M)) → l.beside here (suc n) ≡ Some b → direction_bit byte (suc n) ≡ true →
        Remade (cut_by l here byte n) xs ys → Remade (cut_towards l b) ys zs → Remade (cut_by l here byte (suc n)) xs zs
    strike_more n b xs ys zs e set h k a = k a ∙ ap (option_map (cut_towards l b a)) (h a) ∙ mapped_twice _ (cut_towards l b a) _ (slice_get xs a) (λ x. by x (l.beside a x.pointer) refl)
      where
        more : (c : ℕ) (t : Bool) → eqb c b ≡ t → struck l here byte (suc n) c ≡ (t || struck l here byte n c)
        more c true q =
            let c-b : c ≡ b = eqb-true c b q in
            let e2 : l.beside here (suc n) ≡ Some c = e ∙ ap Some (sym c-b) in
            ap (λ d. not (eqb d 0) && direction_bit byte d) (first_new n (λ d. is (l.beside here d) c) (none_earlier l lawful here n c e2) (ap (λ o. is o c) e2 ∙ eq-eqb c c refl))
            ∙ ap (λ z. not z && direction_bit byte (suc n)) (eqb-suc-zero n) ∙ set
        more c false q = ap (λ d. not (eqb d 0) && direction_bit byte d) (first_stays n (λ d. is (l.beside here d) c) (ap (λ o. is o c) e ∙ ne_eqb b c (λ s. eqb-false c b q (sym s))))

        cut : Square M → Bool → Square M
        cut x t = cond t (with_pointer 0 x) x

        twice : (x : Square M) (c : ℕ) (s t : Bool) → l.beside a x.pointer ≡ Some c → struck l here byte n c ≡ s → eqb c b ≡ t → cut_towards l b a (cut x s) ≡ cut x (t || s)
        twice x c true t q p r = ap (λ o. cond (is o b) (with_pointer 0 (with_pointer 0 x)) (with_pointer 0 x)) (beside_zero a) ∙ sym (ap (cut x) (or-true t))
        twice x c false true q p r = ap (cut x) (ap (λ o. is o b) q ∙ r)
        twice x c false false q p r = ap (cut x) (ap (λ o. is o b) q ∙ r)

        by : (x : Square M) (o : Option ℕ) → l.beside a x.pointer ≡ o → cut_towards l b a (cut_by l here byte n a x) ≡ cut_by l here byte (suc n) a x
        by x None q =
            ap (λ t. cut_towards l b a (cut x t)) (ap (λ o. test_at o (struck l here byte n)) q)
            ∙ ap (λ o. cut x (is o b)) q
            ∙ sym (ap (λ o. cut x (test_at o (struck l here byte (suc n)))) q)
        by x (Some c) q =
            ap (λ t. cut_towards l b a (cut x t)) (ap (λ o. test_at o (struck l here byte n)) q)
            ∙ twice x c (struck l here byte n c) (eqb c b) q refl refl
            ∙ sym (ap (λ o. cut x (test_at o (struck l here byte (suc n)))) q ∙ ap (cut x) (more c (eqb c b) refl))
