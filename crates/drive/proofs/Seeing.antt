-- The records after a look are those of the plain drive.
use Rattle.std.proofs.Common.{◌≡◌, ℕ, Bool, true, false, cond, not, ◌&&◌, eqb, List, Some, None, Option, sym, refl, ap, ◌∙◌, arith}
use mathlib.Core.Path.{fun_ext}
use lib.Bits.{bit_and}
use lib.Count.{ones}
use borrow.Author.Tests.{eqb-false}
use Rattle.model.specs.declared.Mark.{Mark}
use Rattle.model.specs.declared.Mark.TheVariants as mark
use Rattle.model.specs.Lattice.{Lawful, test_at, bits, rock_bits}
use Rattle.model.specs.Plain.{World, State, Squares, is_rock_mark, towards, next, felt_byte, new_rock, seen_mark, kept_pointer}
use Rattle.model.proofs.Basics.Directions.{Beside, towards_leads}
use Rattle.board.specs.declared.square.Square.{Square}
use Rattle.board.specs.Board.{mark_at, with_mark, with_pointer}
use Rattle.board.specs.Around.{direction_bit, felt_mark_of, towards_by, struck, new_bits_of, seen_square}
use Rattle.drive.proofs.Felt.{bits_both, bits_ones, bit_of}

-- a test of two parts at an answer
test_both : (o : Option ℕ) (p q r : ℕ → Bool) → ((b : ℕ) → q b ≡ r b) → (test_at o p && test_at o q) ≡ test_at o (λ b. p b && r b)
test_both o p q r h = grind (arith, h)

-- the bit of a neighbour is set exactly if the neighbour passes
neighbour_bit : (w : World) (lawful : Lawful w.lattice) (here : ℕ) (p : ℕ → Bool) (a : ℕ) → Beside w here a → direction_bit (rock_bits w.lattice p here) (towards w here a) ≡ p a
neighbour_bit w lawful here p a h =
    let leads = towards_leads w here a h in
    let in_use = lawful.within here (towards w here a) a leads in
    bit_of 8 (λ d. test_at (w.lattice.beside here d) p) (towards w here a) in_use.2 in_use.3 ∙ ap (λ o. test_at o p) leads

module _ (w : World) (lawful : Lawful w.lattice) (s : State w) {M : Type 0} (board : List (Square M)) (marks : (a : ℕ) → mark_at board a ≡ (s.squares a).mark) (felt : ℕ) (feels : felt ≡ rock_bits w.lattice w.rock s.cell) where
  abbrev here : ℕ
  here = s.cell

  abbrev q : Squares w
  q = s.squares

  abbrev new : ℕ
  new = new_bits_of w.lattice here felt board

  -- rock that is not marked so
  abbrev fresh_rock : ℕ → Bool
  fresh_rock b = w.rock b && not (is_rock_mark (q b).mark)

  new_byte : new ≡ rock_bits w.lattice fresh_rock here
  new_byte =
      ap (λ byte. bit_and byte (rock_bits w.lattice (λ a. not (is_rock_mark (mark_at board a))) here)) feels
      ∙ bits_both 8 (λ d. test_at (w.lattice.beside here d) w.rock) (λ d. test_at (w.lattice.beside here d) (λ a. not (is_rock_mark (mark_at board a))))
      ∙ ap (bits 8) (fun_ext (λ d. test_both (w.lattice.beside here d) w.rock (λ a. not (is_rock_mark (mark_at board a))) (λ a. not (is_rock_mark (q a).mark)) (λ a. ap (λ m. not (is_rock_mark m)) (marks a))))

  -- look's answer: the felt byte, and the count of new rock
  pub felt_as : felt ≡ felt_byte w here
  unfolding felt_byte
  felt_as = feels

  pub count_as : ones new ≡ new_rock w s
  unfolding new_rock
  count_as = ap ones new_byte ∙ bits_ones 8 (λ d. test_at (w.lattice.beside here d) fresh_rock)

  -- the mark of a cell that is a neighbour or not
  mark_by : (a : ℕ) (m : Mark) (z : Bool) → eqb (towards w here a) 0 ≡ z →
      cond z m (felt_mark_of (direction_bit felt (towards w here a))) ≡ cond (not z) (cond (w.rock a) mark.Rock mark.Passable) m
  mark_by a m true e = refl
  mark_by a m false e = rw feels (ap felt_mark_of (neighbour_bit w lawful here w.rock a (eqb-false _ _ e)))

  -- the cells at which pointers are cut are those that are marked as rock now, since no pointer led to rock before
  rock_by : (b : ℕ) → is_rock_mark (q b).mark ≡ false → (z : Bool) → eqb (towards w here b) 0 ≡ z →
      (not z && direction_bit new (towards w here b)) ≡ is_rock_mark (cond (not z) (cond (w.rock b) mark.Rock mark.Passable) (q b).mark)
  rock_by b off true e = sym off
  rock_by b off false e =
      let lit : direction_bit new (towards w here b) ≡ fresh_rock b = rw new_byte (neighbour_bit w lawful here fresh_rock b (eqb-false _ _ e)) in
      grind arith

  module _ (off_rock : (a b : ℕ) → next w q a ≡ Some b → is_rock_mark (q b).mark ≡ false) where
    cut_same : (a : ℕ) → test_at (next w q a) (struck w.lattice here new 8) ≡ test_at (next w q a) (λ b. is_rock_mark (seen_mark w q here b))
    unfolding towards
    cut_same a = at (next w q a) refl
      where
        at : (o : Option ℕ) → next w q a ≡ o → test_at o (struck w.lattice here new 8) ≡ test_at o (λ b. is_rock_mark (seen_mark w q here b))
        at None e = refl
        at (Some b) e = rock_by b (off_rock a b e) (eqb (towards w here b) 0) refl

    -- a record after a look, by what it was before
    pub record Seen (a : ℕ) (x y : Square M) : Type 0 where
      pub mark : y.mark ≡ seen_mark w q here a
      pub pointer : y.pointer ≡ kept_pointer w q here a
      pub paint : y.paint ≡ x.paint
      pub search : y.search ≡ x.search
      pub stage : y.stage ≡ x.stage

    -- marked or not, and cut or not
    abbrev remade : Square M → Mark → Bool → Bool → Square M
    remade x m z c = cond c (with_pointer 0 (cond z x (with_mark m x))) (cond z x (with_mark m x))

    abbrev parts : Square M → Mark → ℕ → Square M
    parts x m p = record { mark = m; pointer = p; paint = x.paint; search = x.search; stage = x.stage }

    remade_parts : (x : Square M) (m : Mark) (z c : Bool) → remade x m z c ≡ parts x (cond z x.mark m) (cond c 0 x.pointer)
    remade_parts x m z c = grind arith

    same_pointer : (x : Square M) (m : Mark) (z : Bool) → (cond z x (with_mark m x)).pointer ≡ x.pointer
    same_pointer x m z = grind arith

    pub seen_as : (a : ℕ) (x : Square M) → x.mark ≡ (q a).mark → x.pointer ≡ (q a).pointer → Seen a x (seen_square w.lattice here felt new a x)
    unfolding towards
    seen_as a x same-mark points =
        let z = eqb (towards_by w.lattice here 8 a) 0 in
        let m = felt_mark_of (direction_bit felt (towards_by w.lattice here 8 a)) in
        let cuts : ℕ → Bool = λ p. test_at (w.lattice.beside a p) (struck w.lattice here new 8) in
        let made : seen_square w.lattice here felt new a x ≡ parts x (cond z x.mark m) (cond (cuts x.pointer) 0 x.pointer) =
        ap (λ p. remade x m z (cuts p)) (same_pointer x m z) ∙ remade_parts x m z (cuts x.pointer) in
        record {
          mark = ap (λ y. y.mark) made ∙ ap (λ k. cond z k m) same-mark ∙ mark_by a (q a).mark z refl;
          pointer = ap (λ y. y.pointer) made ∙ ap (λ p. cond (cuts p) 0 p) points ∙ ap (λ t. cond t 0 (q a).pointer) (cut_same a);
          paint = ap (λ y. y.paint) made;
          search = ap (λ y. y.search) made;
          stage = ap (λ y. y.stage) made;
        }
