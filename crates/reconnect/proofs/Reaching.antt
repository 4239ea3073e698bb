-- A neighbour of a taken cell is reached.
use Rattle.std.proofs.Common.{◌≡◌, ℕ, ◌+◌, ◌<◌, ◌≤◌, Bool, true, false, cond, not, ◌⊎◌, List, length, take, Some, None, Option, unwrap_or, sym, refl, ap, ◌∙◌, subst, ⊎_elim, arith}
use mathlib.Core.Path.{fun_ext}
use native.Mathlib.Decide.{ℕ_discrete}
use borrow.Author.Tests.{not-true, not-false}
use Rattle.std.specs.Option.{option_map}
use Rattle.std.specs.List.{slice_get, ContainsAt as Has}
use Rattle.std.proofs.ByRecursion.{All-weaker}
use Rattle.model.specs.Scale.{Scale, Ordered}
use Rattle.model.specs.Plain as plain
use Rattle.model.specs.Plain.{World, Squares, put, is_rock_mark, is_unseen_mark, is_taken}
use Rattle.model.proofs.Basics.Tables.{put_here, put_else, put_part}
use Rattle.model.proofs.Basics.Counting.{count_same, count_misses}
use Rattle.model.proofs.Search.Order.{at_most_self, at_most_other}
use Rattle.measure.specs.declared.queue.Entry.{Entry}
use Rattle.measure.specs.Queue.{Added, Pushed}
use Rattle.measure.proofs.Uses.{added_all, added_has_entry, added_has}
use Rattle.board.specs.declared.square.Square.{Square}
use Rattle.board.specs.declared.square.Stage.{Stage}
use Rattle.board.specs.declared.square.Stage.TheVariants as stage
use Rattle.board.specs.Board.{changed, mark_at, with_stage, stage_at, stage_shown, shown_as, Shown}
use Rattle.board.proofs.Showing.{mark_shown, stage_shown_in, shown_changed, staged_shown, stage_set, stage_else}
use Rattle.reconnect.specs.declared.frontier.Taken.{Taken}
use Rattle.reconnect.specs.Frontier.{Exact, taken_cells, Due, DueAt, Frontier}
use Rattle.reconnect.specs.Reaching.{improves, reached_square, reached_from, Reaches}
use Rattle.reconnect.proofs.Queues.{added_length}

-- there is a record where one is shown
there : {M V : Type 0} (value : M → V) (n : ℕ) (y : plain.Square V) (o : Option (Square M)) → option_map (shown_as value n) o ≡ Some y → (x : Square M) × (o ≡ Some x)
there value n y None e = cc
there value n y (Some x) e = (x, refl)

-- what holds of a stage that is set at a cell, and of those elsewhere, holds of all
pub after_setting :
    {M V : Type 0} (value : M → V) (n : ℕ) (P : Stage M → Type 0) (t : Stage M) (board : List (Square M)) (c : ℕ) (y : plain.Square V) → option_map (shown_as value n) (slice_get board c) ≡ Some y →
    P t → (a : ℕ) → ((a ≡ c → ⊥) → P (stage_at n board a)) → P (stage_at n (changed (with_stage n t) board c) a)
after_setting value n P t board c y shown here a others = elim (ℕ_discrete a c) [
  | yes e ↦ let x = there value n y (slice_get board c) shown in subst P (sym (ap (stage_at n (changed (with_stage n t) board c)) e ∙ stage_set n t board c x.0 x.1)) here
  | no ne ↦ subst P (sym (stage_else n (with_stage n t) board c a ne)) (others ne)
]

module _ (w : World) (ordered : Ordered w.scale) {M : Type 0} (value : M → w.scale.Value) (kept : M → ℕ → Type 0) where
  abbrev size : ℕ
  size = w.lattice.size

  abbrev Value : Type 0
  Value = w.scale.Value

  -- a measure that does not improve a stage leaves it
  kept_stage : (t : plain.Stage Value) (v : Value) (a : ℕ) → improves w.scale value t v ≡ false → plain.reached w t v a ≡ t
  kept_stage plain.idle v a e = cc
  kept_stage (plain.waiting u b) v a e = ap (λ c. cond c (plain.waiting u b) (plain.waiting v a)) (not-false _ e)
  kept_stage (plain.taken u b) v a e = refl

  -- and one that does takes its place
  new_stage : (t : plain.Stage Value) (v : Value) (a : ℕ) → improves w.scale value t v ≡ true → plain.reached w t v a ≡ plain.waiting v a
  new_stage plain.idle v a e = refl
  new_stage (plain.waiting u b) v a e = ap (λ c. cond c (plain.waiting u b) (plain.waiting v a)) (not-true _ e)
  new_stage (plain.taken u b) v a e = cc

  -- a taken cell is final, whatever the measure
  not_taken : (t : plain.Stage Value) (v : Value) → improves w.scale value t v ≡ true → is_taken t ≡ false
  not_taken plain.idle v e = refl
  not_taken (plain.waiting u b) v e = refl
  not_taken (plain.taken u b) v e = cc

  -- which is the same for a measure that is exact unless the cell is taken
  same_answer : (t : plain.Stage Value) (u v : Value) → (is_taken t ≡ false → u ≡ v) → improves w.scale value t u ≡ improves w.scale value t v
  same_answer plain.idle u v e = refl
  same_answer (plain.waiting x b) u v e = ap (λ z. not (w.scale.at_most x z)) (e refl)
  same_answer (plain.taken x b) u v e = refl

  put_same : (q : Squares w) (c : ℕ) (x : plain.Square Value) → x ≡ q c → put q c x ≡ q
  put_same q c x e = fun_ext (λ a. elim (ℕ_discrete a c) [
    | yes s ↦ subst (λ k. put q c x k ≡ q k) (sym s) (put_here q c x ∙ e)
    | no ne ↦ put_else q c x a ne
  ])

  module _ (number : ℕ) (board : List (Square M)) (queue : List (Entry M)) (n : ℕ) (q : Squares w) (t : Taken M) (cost cell k : ℕ)
      (inside : cell < size) (small : size ≤ 4096) (exact : kept t.measure k) (early : k < taken_cells size q)
      (f : Frontier w.scale value kept size number board queue n q) where
    abbrev goal : Value
    goal = w.scale.extend (value t.measure) cost (is_unseen_mark (q cell).mark)

    -- the chain is short enough for its measure to be extended, unless the cell is taken
    extends : is_taken (q cell).stage ≡ false → k < 4095
    extends e = let m = count_misses size (λ a. is_taken (q a).stage) cell inside e in omega (arith, m)

    mark_there : mark_at board cell ≡ (q cell).mark
    mark_there = mark_shown value number (q cell) (slice_get board cell) (f.shown cell inside)

    stage_there : stage_shown value (stage_at number board cell) ≡ (q cell).stage
    stage_there = stage_shown_in value number (q cell) (slice_get board cell) (f.shown cell inside)

    abbrev after : Squares w
    after = reached_from w value q t cost cell

    -- rock, or no better measure: nothing changes
    left_alone : (reached_square w (q cell) goal t.cell ≡ q cell) → Frontier w.scale value kept size number board queue n after
    left_alone e = subst (Frontier w.scale value kept size number board queue n) (sym (put_same q cell _ e)) f

    on_rock : is_rock_mark (q cell).mark ≡ true → reached_square w (q cell) goal t.cell ≡ q cell
    on_rock e = ap (λ c. cond c (q cell) (plain.with_stage w (q cell) (plain.reached w (q cell).stage goal t.cell))) e

    no_better : improves w.scale value (q cell).stage goal ≡ false → reached_square w (q cell) goal t.cell ≡ q cell
    no_better e =
        ap (λ s. cond (is_rock_mark (q cell).mark) (q cell) (plain.with_stage w (q cell) s)) (kept_stage (q cell).stage goal t.cell e)
        ∙ both (is_rock_mark (q cell).mark)
      where
        both : (b : Bool) → cond b (q cell) (plain.with_stage w (q cell) (q cell).stage) ≡ q cell
        both true = refl
        both false = refl

    -- a better measure: the cell waits with it
    module _ (open_cell : is_rock_mark (q cell).mark ≡ false) (better : improves w.scale value (q cell).stage goal ≡ true)
        (r : M) (is : value r ≡ goal) (kept_on : kept r (k + 1)) where
      abbrev waits : plain.Square Value
      waits = plain.with_stage w (q cell) (plain.waiting (value r) t.cell)

      reached_is : reached_square w (q cell) goal t.cell ≡ waits
      reached_is =
          ap (λ c. cond c (q cell) (plain.with_stage w (q cell) (plain.reached w (q cell).stage goal t.cell))) open_cell
          ∙ ap (plain.with_stage w (q cell)) (new_stage (q cell).stage goal t.cell better)
          ∙ ap (λ v. plain.with_stage w (q cell) (plain.waiting v t.cell)) (sym is)

      abbrev new : Squares w
      new = put q cell waits

      abbrev stages : ℕ → plain.Stage Value
      stages a = (new a).stage

      stage_here : stages cell ≡ plain.waiting (value r) t.cell
      stage_here = ap (λ x. x.stage) (put_here q cell waits)

      stage_other : (a : ℕ) → (a ≡ cell → ⊥) → stages a ≡ (q a).stage
      stage_other a ne = ap (λ x. x.stage) (put_else q cell waits a ne)

      same_taken : taken_cells size new ≡ taken_cells size q
      same_taken = count_same size (λ a. is_taken (stages a)) (λ a. is_taken (q a).stage) (λ a l. put_part (λ x. is_taken x.stage) q cell waits (sym (not_taken (q cell).stage goal better)) a)

      abbrev written : List (Square M)
      written = changed (with_stage number (stage.Waiting r t.cell)) board cell

      shown_new : Shown value size number written new
      shown_new = shown_changed value number size board q cell (with_stage number (stage.Waiting r t.cell)) (λ x. plain.with_stage w x (plain.waiting (value r) t.cell)) (staged_shown value number (stage.Waiting r t.cell)) f.shown

      exact_new : (a : ℕ) → a < size → Exact kept (taken_cells size new) (stage_at number written a)
      exact_new a l =
          subst (λ c. Exact kept c (stage_at number written a)) (sym same_taken)
          (after_setting value number (Exact kept (taken_cells size q)) (stage.Waiting r t.cell) board cell (q cell) (f.shown cell inside) (k + 1, omega arith, kept_on) a (λ ne. f.exact a l))

      -- an entry that was due is due still
      still_due : (t : plain.Stage Value) (v u : Value) → improves w.scale value t v ≡ true → Due w.scale value t u → w.scale.at_most v u ≡ true
      still_due plain.idle v u b d = absurd d
      still_due (plain.waiting x c) v u b d = ordered.through _ _ _ (at_most_other w ordered x v (not-true _ b)) d
      still_due (plain.taken x c) v u b d = cc

      due_new : (e : Entry M) → DueAt w.scale value size (λ a. (q a).stage) e → DueAt w.scale value size stages e
      due_new e d = (
        d.0,
        elim (ℕ_discrete e.cell cell) [
          | yes s ↦
              subst (λ x. Due w.scale value x (value e.value)) (sym (ap stages s ∙ stage_here))
              (subst (λ v. w.scale.at_most v (value e.value) ≡ true) (sym is) (still_due (q cell).stage goal (value e.value) better (subst (λ a. Due w.scale value (q a).stage (value e.value)) s d.1)))
          | no ne ↦ subst (λ x. Due w.scale value x (value e.value)) (sym (stage_other e.cell ne)) d.1
        ],
      )

      module _ (ys : List (Entry M)) (m : ℕ) (a : Added w.scale value queue n (record { value = r; cell = cell }) ys m) where
        abbrev entry : Entry M
        entry = record { value = r; cell = cell }

        entry_due : DueAt w.scale value size stages entry
        entry_due = (inside, subst (λ x. Due w.scale value x (value r)) (sym stage_here) (at_most_self w ordered (value r)))

        waiting_new : (c : ℕ) (v : Value) (b : ℕ) → c < size → stages c ≡ plain.waiting v b → (e : Entry M) × Has (take m ys) e × (e.cell ≡ c) × (value e.value ≡ v)
        waiting_new c v b l s = elim (ℕ_discrete c cell) [
          | yes same ↦ (entry, added_has_entry w.scale value queue n entry ys m a, sym same, (let p : plain.waiting (value r) t.cell ≡ plain.waiting v b = sym stage_here ∙ ap stages (sym same) ∙ s in cc))
          | no ne ↦
              let old = f.queued.waiting c v b l (sym (stage_other c ne) ∙ s) in
              (old.0, added_has w.scale value queue n entry ys m a old.0 old.1, old.2, old.3)
        ]

        reached_better : Frontier w.scale value kept size number written ys m after
        reached_better = subst (λ x. Frontier w.scale value kept size number written ys m (put q cell x)) (sym reached_is) (record {
          shown = shown_new;
          exact = exact_new;
          queued = record {
            room = omega (arith, added_length w.scale value queue ys n entry m a, a.room, a.counted);
            heap = a.ordered f.queued.heap;
            due =
                added_all w.scale value queue n entry ys m a (DueAt w.scale value size stages) entry_due
                (All-weaker (DueAt w.scale value size (λ a. (q a).stage)) (DueAt w.scale value size stages) due_new (take n queue) f.queued.due);
            waiting = waiting_new;
          };
        })

    -- a measure that code made, by what it read of the cell
    module _ (r : M) (made : k < 4095 → (value r ≡ w.scale.extend (value t.measure) cost (is_unseen_mark (mark_at board cell))) × kept r (k + 1)) where
      made_there : is_taken (q cell).stage ≡ false → (value r ≡ goal) × kept r (k + 1)
      made_there free = subst (λ x. (value r ≡ w.scale.extend (value t.measure) cost (is_unseen_mark x)) × kept r (k + 1)) mark_there (made (extends free))

      improved : improves w.scale value (q cell).stage goal ≡ improves w.scale value (stage_shown value (stage_at number board cell)) (value r)
      improved = sym (ap (λ s. improves w.scale value s (value r)) stage_there ∙ same_answer (q cell).stage (value r) goal (λ free. (made_there free).0))

      pub left : (is_rock_mark (mark_at board cell) ≡ true) ⊎ (improves w.scale value (stage_shown value (stage_at number board cell)) (value r) ≡ false) → Frontier w.scale value kept size number board queue n after
      left o = left_alone (⊎_elim (λ e. on_rock (sym (ap is_rock_mark mark_there) ∙ e)) (λ e. no_better (improved ∙ e)) o)

      pub waits_now : is_rock_mark (mark_at board cell) ≡ false → improves w.scale value (stage_shown value (stage_at number board cell)) (value r) ≡ true →
          (ys : List (Entry M)) (m : ℕ) → Added w.scale value queue n (record { value = r; cell = cell }) ys m → Frontier w.scale value kept size number (changed (with_stage number (stage.Waiting r t.cell)) board cell) ys m after
      waits_now rock better ys m a =
          let sooner = improved ∙ better in
          let there = made_there (not_taken (q cell).stage goal sooner) in
          reached_better (sym (ap is_rock_mark mark_there) ∙ rock) sooner r there.0 there.1 ys m a

-- a push that finds room adds the entry
pushed : {M : Type 0} (s : Scale) (value : M → s.Value) (xs ys : List (Entry M)) (count d : ℕ) (e : Entry M) (o : Option ℕ) →
    count < length xs → Pushed s value xs count e ys o → Added s value xs count e ys (unwrap_or o d)
pushed s value xs ys count d e None room p = absurd (omega (arith, p.0))
pushed s value xs ys count d e (Some n) room p = p

-- a measure that was extended by a step
abbrev pub Extended : {M : Type 0} (scale : Scale) (value : M → scale.Value) → (M → ℕ → Type 0) → (from : M) (cost : ℕ) (unseen : Bool) (to : M) → Type 0
Extended scale value kept from cost unseen to = (k : ℕ) → kept from k → k < 4095 → 1 ≤ cost → cost ≤ 7 → (value to ≡ scale.extend (value from) cost unseen) × kept to (k + 1)

module _ (w : World) (ordered : Ordered w.scale) {M : Type 0} (value : M → w.scale.Value) (kept : M → ℕ → Type 0)
    (t : Taken M) (cost cell number : ℕ) (board : List (Square M)) (queue : List (Entry M)) (n : ℕ)
    (r : M) (extended : Extended w.scale value kept t.measure cost (is_unseen_mark (mark_at board cell)) r) where
  abbrev rock : Bool
  rock = is_rock_mark (mark_at board cell)

  abbrev better : Bool
  better = improves w.scale value (stage_shown value (stage_at number board cell)) (value r)

  -- rock, and a cell that had no later measure, are left alone
  pub reaches_left : (rock ≡ true) ⊎ (better ≡ false) → Reaches w value kept t cost cell number board board queue queue n n
  reaches_left o q k inside small low high exact early room f = (
    left w ordered value kept number board queue n q t cost cell k inside small exact early f r (λ short. extended k exact short low high) o,
    omega arith,
  )

  -- another waits
  pub reaches_new : rock ≡ false → better ≡ true → (ys : List (Entry M)) (o : Option ℕ) → Pushed w.scale value queue n (record { value = r; cell = cell }) ys o →
      Reaches w value kept t cost cell number board (changed (with_stage number (stage.Waiting r t.cell)) board cell) queue ys n (unwrap_or o n)
  reaches_new open_cell sooner ys o added q k inside small low high exact early room f =
      let more = pushed w.scale value queue ys n n (record { value = r; cell = cell }) o room added in (
        waits_now w ordered value kept number board queue n q t cost cell k inside small exact early f r (λ short. extended k exact short low high) open_cell sooner ys (unwrap_or o n) more,
        omega (arith, more.counted),
      )
