-- The first entry of the queue whose cell waits is that of the cell to be taken.
use Rattle.std.proofs.Common.{◌≡◌, ℕ, ◌<◌, ◌≤◌, Bool, true, false, not, ◌&&◌, ◌||◌, ◌⊎◌, List, length, take, sym, refl, ap, ◌∙◌, subst, ⊎_elim, arith, leb-true}
use native.Mathlib.Decide.{ℕ_discrete}
use Rattle.std.specs.List.{ContainsAt as Has}
use Rattle.std.proofs.ByRecursion.{All-weaker}
use Rattle.model.specs.Scale.{Scale, Ordered}
use Rattle.model.specs.Plain as plain
use Rattle.model.specs.Plain.{put}
use Rattle.model.proofs.Basics.Tables.{put_here, put_else}
use Rattle.measure.specs.declared.queue.Entry.{Entry}
use Rattle.measure.specs.Queue.{Removed}
use Rattle.measure.proofs.Uses.{removed_all, removed_has, removed_foremost}
use Rattle.board.specs.declared.square.Square.{Square}
use Rattle.board.specs.declared.square.Stage.{Stage}
use Rattle.board.specs.declared.square.Stage.TheVariants as stage
use Rattle.board.specs.Board.{stage_at, stage_shown}
use Rattle.reconnect.specs.Frontier.{Due, DueAt, Queued}
use Rattle.reconnect.specs.Reaching.{StagesAs, Chooses}
use Rattle.reconnect.proofs.Queues.{removed_length}

-- what a test of two orders says
first_of : (x y z : Bool) → (x && (not y || z)) ≡ true → (x ≡ true) × (y ≡ true → z ≡ true)
first_of true true z e = (refl, λ _. e)
first_of true false z e = (refl, λ f. cc)
first_of false y z e = cc

module _ {M : Type 0} (scale : Scale) (ordered : Ordered scale) (value : M → scale.Value) (size : ℕ) (stages : ℕ → plain.Stage scale.Value) where
  -- a stage that is not waiting is shown as none that waits
  stage_waits : (t : Stage M) → ((m : M) (b : ℕ) → t ≡ stage.Waiting m b → ⊥) → (v : scale.Value) (b : ℕ) → stage_shown value t ≡ plain.waiting v b → ⊥
  stage_waits stage.Idle h v b e = cc
  stage_waits (stage.Waiting m d) h v b e = h m d refl
  stage_waits (stage.Taken m d) h v b e = cc

  -- where the queue is empty no cell waits
  pub none_waits : (xs : List (Entry M)) (n : ℕ) → (n ≡ 0) ⊎ (length xs < n) → Queued scale value size stages xs n → (a : ℕ) (v : scale.Value) (b : ℕ) → a < size → stages a ≡ plain.waiting v b → ⊥
  none_waits xs n o q a v b l e = ⊎_elim (λ z. empty z (q.waiting a v b l e).1) (λ m. omega (arith, q.room)) o
    where
      empty : n ≡ 0 → Has (take n xs) (q.waiting a v b l e).0 → ⊥
      empty z h = let k = subst (λ m. Has (take m xs) (q.waiting a v b l e).0) z h in omega (arith, k.1)

  module _ (xs : List (Entry M)) (count : ℕ) (ys : List (Entry M)) (e : Entry M) (n : ℕ) (r : Removed scale value xs count ys e n) (q : Queued scale value size stages xs count) where
    short : n ≤ length ys
    short = omega (arith, removed_length scale value xs ys count e n r, r.room, r.counted)

    -- the entries of other cells stay
    others : (a : ℕ) (v : scale.Value) (b : ℕ) → a < size → stages a ≡ plain.waiting v b → (a ≡ e.cell → ⊥) → (x : Entry M) × Has (take n ys) x × (x.cell ≡ a) × (value x.value ≡ v)
    others a v b l s ne =
        let k = q.waiting a v b l s in (
          k.0,
          ⊎_elim (λ same. absurd (ne (sym k.2 ∙ ap (λ z. z.cell) (sym same)))) (λ h. h) (removed_has scale value xs count ys e n r k.0 k.1),
          k.2,
          k.3,
        )

    inside : e.cell < size
    inside = (removed_all scale value xs count ys e n r (DueAt scale value size stages) q.due).0.0

    -- an outdated entry is passed over
    pub passed :
        (number : ℕ) (board : List (Square M)) → StagesAs scale value size number board stages →
        (t : Stage M) → t ≡ stage_at number board e.cell → ((m : M) (b : ℕ) → t ≡ stage.Waiting m b → ⊥) →
        Queued scale value size stages ys n
    passed number board same_stages t is not-waiting = record {
      room = short;
      heap = r.ordered q.heap;
      due = (removed_all scale value xs count ys e n r (DueAt scale value size stages) q.due).1;
      waiting = λ a v b l s. others a v b l s (λ same. stage_waits t not-waiting v b (ap (stage_shown value) is ∙ same_stages e.cell inside ∙ ap stages (sym same) ∙ s));
    }

    -- an entry whose cell waits
    module _ (number : ℕ) (board : List (Square M)) (same_stages : StagesAs scale value size number board stages) (m : M) (b : ℕ) (waits : stage_at number board e.cell ≡ stage.Waiting m b) where
      here : stages e.cell ≡ plain.waiting (value m) b
      here = sym (same_stages e.cell inside) ∙ ap (stage_shown value) waits

      at_most : scale.at_most (value m) (value e.value) ≡ true
      at_most = subst (λ t. Due scale value t (value e.value)) here (removed_all scale value xs count ys e n r (DueAt scale value size stages) q.due).0.1

      least : (c : ℕ) (v : scale.Value) (d : ℕ) → c < size → stages c ≡ plain.waiting v d → (scale.at_most (value m) v ≡ true) × (scale.at_most v (value m) ≡ true → e.cell ≤ c)
      least c v d l s =
          let k = q.waiting c v d l s in
          let f = first_of _ _ _ (removed_foremost scale value xs count ys e n r q.heap k.0 k.1) in
          let before : scale.at_most (value e.value) v ≡ true = subst (λ u. scale.at_most (value e.value) u ≡ true) k.3 f.0 in (
            ordered.through _ _ _ at_most before,
            λ back.
                subst (λ i. e.cell ≤ i) k.2
                (leb-true _ _ (f.1 (subst (λ u. scale.at_most u (value e.value) ≡ true) (sym k.3) (ordered.through _ _ _ back at_most)))),
          )

      abbrev after : ℕ → plain.Stage scale.Value
      after = put stages e.cell (plain.taken (value m) b)

      due_after : (x : Entry M) → DueAt scale value size stages x → DueAt scale value size after x
      due_after x d = (
        d.0,
        elim (ℕ_discrete x.cell e.cell) [
          | yes s ↦ subst (λ t. Due scale value t (value x.value)) (sym (ap after s ∙ put_here stages e.cell _)) tt
          | no ne ↦ subst (λ t. Due scale value t (value x.value)) (sym (put_else stages e.cell _ x.cell ne)) d.1
        ],
      )

      waiting_after : (a : ℕ) (v : scale.Value) (d : ℕ) → a < size → after a ≡ plain.waiting v d → (x : Entry M) × Has (take n ys) x × (x.cell ≡ a) × (value x.value ≡ v)
      waiting_after a v d l s = elim (ℕ_discrete a e.cell) [
        | yes same ↦ (let k : plain.taken (value m) b ≡ plain.waiting v d = sym (ap after same ∙ put_here stages e.cell _) ∙ s in cc)
        | no ne ↦ others a v d l (sym (put_else stages e.cell _ a ne) ∙ s) ne
      ]

      pub chooses : Chooses scale value size number board stages ys n (record { cell = e.cell; measure = m; back = b })
      chooses = record {
        inside = inside;
        waits = waits;
        least = least;
        queued = record {
          room = short;
          heap = r.ordered q.heap;
          due = All-weaker (DueAt scale value size stages) (DueAt scale value size after) due_after (take n ys) (removed_all scale value xs count ys e n r (DueAt scale value size stages) q.due).1;
          waiting = waiting_after;
        };
      }
