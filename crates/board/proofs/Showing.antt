-- A board whose records are those of a board of the plain drive: read, and changed.
use Rattle.std.proofs.Common.{◌≡◌, ℕ, ◌<◌, ◌≤◌, Bool, true, false, cond, eqb, List, Some, None, Option, sym, refl, ap, ◌∙◌, subst, eq-eqb}
use native.Mathlib.Decide.{ℕ_discrete}
use Rattle.std.specs.Option.{option_map}
use Rattle.std.specs.List.{slice_get}
use Rattle.model.specs.Plain as plain
use Rattle.model.specs.Plain.{put}
use Rattle.model.proofs.Basics.Tables.{put_here, put_else}
use Rattle.board.specs.declared.square.Square.{Square}
use Rattle.board.specs.declared.square.Stage.{Stage}
use Rattle.board.specs.declared.square.Stage.TheVariants as stage
use Rattle.board.specs.Board.{changed, mark_in, pointer_in, paint_in, stage_in, stage_at, with_stage, stage_shown, shown_as, Shown}
use Rattle.board.proofs.Marking.{changed_here, changed_else}

module _ {M V : Type 0} (value : M → V) (n : ℕ) where
  pub shown_some : (x : Square M) (y : plain.Square V) → Some (shown_as value n x) ≡ Some y → shown_as value n x ≡ y
  shown_some x y e = cc

  -- what a record that is shown says
  module _ (y : plain.Square V) where
    pub mark_shown : (o : Option (Square M)) → option_map (shown_as value n) o ≡ Some y → mark_in o ≡ y.mark
    mark_shown None e = cc
    mark_shown (Some x) e = ap (λ z. z.mark) (shown_some x y e)

    pub pointer_shown : (o : Option (Square M)) → option_map (shown_as value n) o ≡ Some y → pointer_in o ≡ y.pointer
    pointer_shown None e = cc
    pointer_shown (Some x) e = ap (λ z. z.pointer) (shown_some x y e)

    pub paint_shown : (o : Option (Square M)) → option_map (shown_as value n) o ≡ Some y → paint_in o ≡ y.paint
    paint_shown None e = cc
    paint_shown (Some x) e = ap (λ z. z.paint) (shown_some x y e)

    pub stage_shown_in : (o : Option (Square M)) → option_map (shown_as value n) o ≡ Some y → stage_shown value (stage_in n o) ≡ y.stage
    stage_shown_in None e = cc
    stage_shown_in (Some x) e = by (eqb x.search n) ∙ ap (λ z. z.stage) (shown_some x y e)
      where
        by : (t : Bool) → stage_shown value (cond t x.stage stage.Idle) ≡ cond t (stage_shown value x.stage) plain.idle
        by true = refl
        by false = refl

  -- one record is changed
  module _ (size : ℕ) (board : List (Square M)) (q : ℕ → plain.Square V) (c : ℕ) (f : Square M → Square M) (g : plain.Square V → plain.Square V) (same : (x : Square M) → shown_as value n (f x) ≡ g (shown_as value n x)) where
    changed_shown : (o : Option (Square M)) → option_map (shown_as value n) o ≡ Some (q c) → option_map (shown_as value n) (option_map f o) ≡ Some (g (q c))
    changed_shown None e = cc
    changed_shown (Some x) e = ap Some (same x ∙ ap g (shown_some x (q c) e))

    pub shown_changed : Shown value size n board q → Shown value size n (changed f board c) (put q c (g (q c)))
    shown_changed h a l = elim (ℕ_discrete a c) [
      | yes e ↦
          subst (λ k. option_map (shown_as value n) (slice_get (changed f board c) k) ≡ Some (put q c (g (q c)) k)) (sym e)
          (ap (option_map (shown_as value n)) (changed_here f board c) ∙ changed_shown (slice_get board c) (h c (subst (λ k. k < size) e l)) ∙ ap Some (sym (put_here q c (g (q c)))))
      | no ne ↦ ap (option_map (shown_as value n)) (changed_else f board c a ne) ∙ h a l ∙ ap Some (sym (put_else q c (g (q c)) a ne))
    ]

  -- a stage that is set in the search of this number
  pub staged_shown : (t : Stage M) (x : Square M) → shown_as value n (with_stage n t x) ≡ record { mark = x.mark; pointer = x.pointer; paint = x.paint; stage = stage_shown value t }
  staged_shown t x = ap (λ b. record { mark = x.mark; pointer = x.pointer; paint = x.paint; stage = cond b (stage_shown value t) plain.idle }) (eq-eqb n n refl)

module _ {M : Type 0} (n : ℕ) where
  -- the stage where it is set, and elsewhere
  staged_in : (t : Stage M) (o : Option (Square M)) (x : Square M) → o ≡ Some x → stage_in n (option_map (with_stage n t) o) ≡ t
  staged_in t None x e = cc
  staged_in t (Some y) x e = ap (λ b. cond b t stage.Idle) (eq-eqb n n refl)

  pub stage_set : (t : Stage M) (board : List (Square M)) (c : ℕ) (x : Square M) → slice_get board c ≡ Some x → stage_at n (changed (with_stage n t) board c) c ≡ t
  stage_set t board c x e = ap (stage_in n) (changed_here (with_stage n t) board c) ∙ staged_in t (slice_get board c) x e

  pub stage_else : (f : Square M → Square M) (board : List (Square M)) (c a : ℕ) → (a ≡ c → ⊥) → stage_at n (changed f board c) a ≡ stage_at n board a
  stage_else f board c a ne = ap (stage_in n) (changed_else f board c a ne)

  -- a change of another part keeps the stages
  kept_in : (f : Square M → Square M) → ((x : Square M) → stage_in n (Some (f x)) ≡ stage_in n (Some x)) → (o : Option (Square M)) → stage_in n (option_map f o) ≡ stage_in n o
  kept_in f h None = refl
  kept_in f h (Some x) = h x

  pub stage_kept : (f : Square M → Square M) → ((x : Square M) → stage_in n (Some (f x)) ≡ stage_in n (Some x)) → (board : List (Square M)) (c a : ℕ) → stage_at n (changed f board c) a ≡ stage_at n board a
  stage_kept f h board c a = elim (ℕ_discrete a c) [
    | yes e ↦ subst (λ k. stage_at n (changed f board c) k ≡ stage_at n board k) (sym e) (ap (stage_in n) (changed_here f board c) ∙ kept_in f h (slice_get board c))
    | no ne ↦ stage_else f board c a ne
  ]

  -- no record carries a later number after a change that sets none
  pub numbers_kept : (f : Square M → Square M) → ((x : Square M) → x.search ≤ n → (f x).search ≤ n) → (size : ℕ) (board : List (Square M)) (c : ℕ) →
      ((a : ℕ) (x : Square M) → a < size → slice_get board a ≡ Some x → x.search ≤ n) →
      (a : ℕ) (x : Square M) → a < size → slice_get (changed f board c) a ≡ Some x → x.search ≤ n
  numbers_kept f h size board c old a x l e = elim (ℕ_discrete a c) [
    | yes s ↦ here (subst (λ k. k < size) s l) (slice_get board c) refl (sym (changed_here f board c) ∙ subst (λ k. slice_get (changed f board c) k ≡ Some x) s e)
    | no ne ↦ old a x l (sym (changed_else f board c a ne) ∙ e)
  ]
    where
      here : c < size → (o : Option (Square M)) → slice_get board c ≡ o → option_map f o ≡ Some x → x.search ≤ n
      here m None p q = cc
      here m (Some y) p q = let s : f y ≡ x = cc in subst (λ z. z.search ≤ n) s (h y (old c y m p))
