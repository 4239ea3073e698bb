-- The memory of a search on boards whose first records agree.
use Rattle.std.proofs.Common.{◌≡◌, ℕ, ◌<◌, ◌≤◌, List, ◌++◌, length, take, Some, None, Option, sym, refl, ap, ◌∙◌, subst, arith, length-append, length-take-le}
use Rattle.std.specs.Option.{option_map}
use Rattle.std.specs.List.{slice_get}
use Rattle.std.proofs.lemmas.Grind.{common_steps}
use Rattle.std.proofs.lemmas.Option.{gets}
use Rattle.model.specs.Plain.{World, State}
use Rattle.measure.specs.declared.queue.Entry.{Entry}
use Rattle.board.specs.declared.square.Square.{Square}
use Rattle.board.specs.Board.{stage_in, shown_as}
use Rattle.reconnect.specs.declared.state.Search.{Search}
use Rattle.reconnect.specs.Frontier.{Exact, taken_cells}
use Rattle.reconnect.specs.Represents.{Memory, Represents}

-- an answer that was made from another
pub some_mapped : {X Y : Type 0} (f : X → Y) (o : Option X) (v : Y) → option_map f o ≡ Some v → (x : X) × (o ≡ Some x) × (f x ≡ v)
some_mapped f None v e = cc
some_mapped f (Some x) v e = (x, refl, cc)

module _ {X : Type 0} (xs : List X) (n : ℕ) (long : n ≤ length xs) where
  -- the first n elements of a list
  pub first_length : length (take n xs) ≡ n
  first_length = length-take-le n xs long

  pub first_same : (a : ℕ) → a < n → slice_get (take n xs) a ≡ slice_get xs a
  first_same a h = grind (arith, common_steps, gets)

-- others in front
module _ {X : Type 0} (n : ℕ) (ys : List X) (long : length ys ≡ n) (rest : List X) where
  pub put_length : n ≤ length (ys ++ rest)
  put_length = omega (arith, length-append ys rest)

  pub put_same : (a : ℕ) → a < n → slice_get (ys ++ rest) a ≡ slice_get ys a
  put_same a h = grind (arith, common_steps, gets)

module _ (w : World) {M : Type 0} (value : M → w.scale.Value) (kept : M → ℕ → Type 0) (search : Search) (queue : List (Entry M)) (s : State w) where
  abbrev memory : List (Square M) → Memory M
  memory board = record { search = search; board = board; queue = queue }

  pub on_board : (xs ys : List (Square M)) → ((a : ℕ) → a < w.lattice.size → slice_get ys a ≡ slice_get xs a) → Represents w value kept (memory xs) s → Represents w value kept (memory ys) s
  on_board xs ys same r = record {
    number = r.number;
    walk = r.walk;
    shown = λ a h. ap (option_map (shown_as value search.number)) (same a h) ∙ r.shown a h;
    numbered = λ a x h e. r.numbered a x h (sym (same a h) ∙ e);
    room = r.room;
    frontier = λ p. record {
      shown = λ a h. ap (option_map (shown_as value search.number)) (same a h) ∙ (r.frontier p).shown a h;
      exact = λ a h. subst (λ o. Exact kept (taken_cells w.lattice.size s.squares) (stage_in search.number o)) (sym (same a h)) ((r.frontier p).exact a h);
      queued = (r.frontier p).queued;
    };
    few = r.few;
  }
