-- What a look leaves of a whole board holds of its first records, one for each cell of the floor.
use Rattle.std.proofs.Common.{◌≡◌, ℕ, zero, suc, ◌<◌, ◌≤◌, not, eqb, List, [], ◌∷◌, take, Some, None, Option, sym, refl, ap, ◌∙◌, subst, arith, length-take}
use lib.Count.{ones}
use Rattle.std.specs.Prelude.{bit_and}
use Rattle.std.specs.List.{slice_get}
use Rattle.std.proofs.lemmas.Grind.{common_steps}
use Rattle.std.proofs.lemmas.Option.{gets, slice_get_past}
use Rattle.model.specs.Lattice.{Lattice, Lawful, test_at, bits}
use Rattle.model.specs.Plain.{is_rock_mark}
use Rattle.model.specs.Scale.{Scale}
use Rattle.measure.specs.declared.queue.Entry.{Entry}
use Rattle.board.specs.declared.square.Square.{Square}
use Rattle.board.specs.declared.square.Stage.TheVariants as stage
use Rattle.board.specs.Board.{changed, with_stage, mark_in, pointer_in, mark_at, pointer_at}
use Rattle.board.specs.Around.{Remade, new_bits_of, seen_square}
use Rattle.drive.specs.declared.drive.Drive.{Drive}
use Rattle.drive.specs.Looking.{next_search, found_more, Begins, GoesOn, Looked}

-- what is found among the first n elements, and behind them
taken_get : {X : Type 0} (n : ℕ) (xs : List X) (a : ℕ) → a < n → slice_get (take n xs) a ≡ slice_get xs a
taken_get n xs a h = grind (arith, common_steps, gets)

taken_past : {X : Type 0} (n : ℕ) (xs : List X) (a : ℕ) → n ≤ a → slice_get (take n xs) a ≡ None
taken_past n xs a h = slice_get_past (take n xs) a (omega (arith, length-take n xs))

taken_changed : {X : Type 0} (f : X → X) (n : ℕ) (xs : List X) (i : ℕ) → take n (changed f xs i) ≡ changed f (take n xs) i
taken_changed f zero xs i = refl
taken_changed f (suc n) [] i = refl
taken_changed f (suc n) (x ∷ xs) zero = refl
taken_changed f (suc n) (x ∷ xs) (suc i) = ap (λ ys. x ∷ ys) (taken_changed f n xs i)

taken_remade : {X : Type 0} (f : ℕ → X → X) (n : ℕ) (xs ys : List X) → Remade f xs ys → Remade f (take n xs) (take n ys)
taken_remade f n xs ys r a = grind (arith, taken_get n ys a, taken_get n xs a, taken_past n ys a, taken_past n xs a, r a)

module _ (l : Lattice) (lawful : Lawful l) {M : Type 0} where
  -- only neighbours are felt, and they are cells of the floor
  taken_bits : (here byte : ℕ) (board : List (Square M)) → new_bits_of l here byte board ≡ new_bits_of l here byte (take l.size board)
  taken_bits here byte board = λ i. bit_and byte (bits 8 (λ d. same d (l.beside here d) refl i))
    where
      same : (d : ℕ) (o : Option ℕ) → l.beside here d ≡ o → test_at o (λ a. not (is_rock_mark (mark_at board a))) ≡ test_at o (λ a. not (is_rock_mark (mark_at (take l.size board) a)))
      same d None e = refl
      same d (Some b) e = ap (λ x. not (is_rock_mark (mark_in x))) (sym (taken_get l.size board b (lawful.within here d b e).1))

  module _ {G : Type 0} (scale : Scale) (value : M → scale.Value) (kept : M → ℕ → Type 0) (d d' : Drive G) (board board' : List (Square M)) (queue queue' : List (Entry M)) where
    taken_begins : (number : ℕ) → Begins scale value kept d.cell number board board' queue queue' → Begins scale value kept d.cell number (take l.size board) (take l.size board') queue queue'
    taken_begins number b = record {
      zero = b.zero;
      nought = b.nought;
      exact = b.exact;
      waits = ap (take l.size) b.waits ∙ taken_changed (with_stage number (stage.Waiting b.zero d.cell)) l.size board d.cell;
      queued = b.queued;
    }

    taken_goes_on : d.cell < l.size → GoesOn scale value kept d d' board board' queue queue' → GoesOn scale value kept d d' (take l.size board) (take l.size board') queue queue'
    taken_goes_on inside h =
        let same : eqb (pointer_at (take l.size board) d.cell) 0 ≡ eqb (pointer_at board d.cell) 0 = ap (λ x. eqb (pointer_in x) 0) (taken_get l.size board d.cell inside) in
        record {
          ready = λ e. let r = h.ready (sym same ∙ e) in (r.0, ap (take l.size) r.1, r.2);
          searching = λ e. let r = h.searching (sym same ∙ e) in (r.0, taken_begins (next_search d.search.number) r.1);
        }

  pub taken_looked : {G : Type 0} (scale : Scale) (value : M → scale.Value) (kept : M → ℕ → Type 0) (felt : ℕ) (d d' : Drive G) (board board' : List (Square M)) (queue queue' : List (Entry M)) (count : ℕ) →
      d.cell < l.size → Looked scale value kept l felt d d' board board' queue queue' count → Looked scale value kept l felt d d' (take l.size board) (take l.size board') queue queue' count
  taken_looked scale value kept felt d d' board board' queue queue' count inside h =
      let same = taken_bits d.cell felt board in
      record {
        new = h.new ∙ ap ones same;
        seen = take l.size h.seen;
        remade =
            let As : ℕ → Type 0 = λ new. Remade (seen_square l d.cell felt new) (take l.size board) (take l.size h.seen) in
            subst As same (taken_remade (seen_square l d.cell felt (new_bits_of l d.cell felt board)) l.size board h.seen h.remade);
        goes_on = taken_goes_on scale value kept (found_more d count) d' h.seen board' queue queue' inside h.goes_on;
      }
