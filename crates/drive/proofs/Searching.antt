-- A search that begins in memory is the one that the plain drive begins.
use Rattle.std.proofs.Common.{◌≡◌, ℕ, suc, ◌+◌, ◌*◌, ◌<◌, ◌≤◌, Bool, true, false, cond, eqb, List, length, take, Some, None, Option, unwrap_or, sym, refl, ap, ◌∙◌, subst, ⊎_elim, arith, eq-eqb, ne_eqb}
use native.Mathlib.Decide.{ℕ_discrete}
use Rattle.std.specs.Option.{option_map}
use Rattle.std.specs.List.{slice_get, ContainsAt as Has}
use Rattle.model.specs.Scale.{Scale}
use Rattle.model.specs.Plain as plain
use Rattle.model.specs.Plain.{World, State}
use Rattle.model.specs.Promise.{Fit}
use Rattle.model.proofs.Run.ByLook.{looked_as}
use Rattle.measure.specs.declared.queue.Entry.{Entry}
use Rattle.measure.specs.Queue.{Added, Pushed}
use Rattle.measure.proofs.Uses.{heap_none, added_all, added_has_entry}
use Rattle.board.specs.declared.square.Square.{Square}
use Rattle.board.specs.declared.square.Stage.{Stage}
use Rattle.board.specs.declared.square.Stage.TheVariants as stage
use Rattle.board.specs.Board.{changed, with_stage, stage_in, stage_at, stage_shown, shown_as}
use Rattle.board.proofs.Marking.{changed_here, changed_else}
use Rattle.reconnect.specs.Frontier.{Exact, Due, DueAt, Queued, taken_cells}
use Rattle.reconnect.specs.Represents.{Memory, walk_shown, Represents}
use Rattle.reconnect.specs.Beginning.{Begins}

-- an entry that is put into an empty queue, which has room, is its only one
pushed_first : {M : Type 0} (s : Scale) (value : M → s.Value) (xs ys : List (Entry M)) (e : Entry M) (r : Option ℕ) →
    0 < length xs → Pushed s value xs 0 e ys r → (unwrap_or r 0 ≡ 1) × Added s value xs 0 e ys 1
pushed_first s value xs ys e None room p = absurd (let h = p.0 in omega arith)
pushed_first s value xs ys e (Some n) room p =
    let one : n ≡ 1 = omega (arith, p.counted) in
    (one, subst (λ k. Added s value xs 0 e ys k) one p)

-- a stage in a search is shown, or is idle
shown_stage : {M V : Type 0} (value : M → V) (t : Bool) (g : Stage M) → cond t (stage_shown value g) plain.idle ≡ stage_shown value (cond t g stage.Idle)
shown_stage value true g = refl
shown_stage value false g = refl

-- the same square, part by part
pub square_same : {V : Type 0} (x y : plain.Square V) → x.mark ≡ y.mark → x.pointer ≡ y.pointer → x.paint ≡ y.paint → x.stage ≡ y.stage → x ≡ y
square_same x y m p c g = λ i. record { mark = m i; pointer = p i; paint = c i; stage = g i }

module _ (w : World) (fit : Fit w) {M : Type 0} (value : M → w.scale.Value) (kept : M → ℕ → Type 0) (s : State w) (before after : Memory M) where
  abbrev size : ℕ
  size = w.lattice.size

  abbrev here : ℕ
  here = s.cell

  abbrev then : State w
  then = looked_as w s false

  -- a record after the look, from an earlier search
  pub record Viewed (a : ℕ) (x : Square M) : Type 0 where
    pub mark : x.mark ≡ (then.squares a).mark
    pub pointer : x.pointer ≡ (then.squares a).pointer
    pub paint : x.paint ≡ (then.squares a).paint
    pub earlier : x.search ≤ before.search.number

  module _ (number : before.search.number ≡ s.searches) (few : s.searches ≤ 4097) (inside : here < size)
      (viewed : (a : ℕ) → a < size → (x : Square M) × (slice_get before.board a ≡ Some x) × Viewed a x)
      (room : 8 * size + 1 ≤ length after.queue) (long : length after.queue ≡ length before.queue)
      (b : Begins w.scale value kept here before after) where
    abbrev new : ℕ
    new = after.search.number

    next : new ≡ suc before.search.number
    next = omega (arith, b.number)

    -- a record in the search: the carrier's cell alone waits
    abbrev stage_now : ℕ → Stage M
    stage_now a = cond (eqb a here) (stage.Waiting b.zero here) stage.Idle

    record Begun (a : ℕ) (y : Square M) : Type 0 where
      pub mark : y.mark ≡ (then.squares a).mark
      pub pointer : y.pointer ≡ (then.squares a).pointer
      pub paint : y.paint ≡ (then.squares a).paint
      pub carries : y.search ≤ new
      pub stage : stage_in new (Some y) ≡ stage_now a

    begun : (a : ℕ) → a < size → (y : Square M) × (slice_get after.board a ≡ Some y) × Begun a y
    begun a h =
        let x = (viewed a h).0 in
        let at = (viewed a h).1 in
        let v = (viewed a h).2 in
        let f : Square M → Square M = with_stage new (stage.Waiting b.zero here) in
        elim (ℕ_discrete a here) [
          | yes e ↦ (
            f x,
            ap (λ board. slice_get board a) b.waits ∙ ap (λ c. slice_get (changed_board f) c) e ∙ changed_here f before.board here ∙ ap (λ c. option_map f (slice_get before.board c)) (sym e) ∙ ap (option_map f) at,
            record {
              mark = v.mark;
              pointer = v.pointer;
              paint = v.paint;
              carries = omega arith;
              stage = ap (λ t. cond t (stage.Waiting b.zero here) stage.Idle) (eq-eqb new new refl ∙ sym (eq-eqb a here e));
            },
          )
          | no e ↦ (
            x,
            ap (λ board. slice_get board a) b.waits ∙ changed_else f before.board here a e ∙ at,
            record {
              mark = v.mark;
              pointer = v.pointer;
              paint = v.paint;
              carries = omega (arith, next, v.earlier);
              stage = ap (λ t. cond t x.stage stage.Idle) (ne_eqb x.search new (λ q. absurd (omega (arith, next, v.earlier)))) ∙ sym (ap (λ t. cond t (stage.Waiting b.zero here) stage.Idle) (ne_eqb a here e));
            },
          )
        ]
      where
        changed_board : (Square M → Square M) → List (Square M)
        changed_board f = changed f before.board here

    shown_stage_now : (t : Bool) → stage_shown value (cond t (stage.Waiting b.zero here) stage.Idle) ≡ cond t (plain.waiting w.scale.none here) plain.idle
    shown_stage_now true = ap (λ v. plain.waiting v here) b.nought
    shown_stage_now false = refl

    shown : (a : ℕ) → a < size → option_map (shown_as value new) (slice_get after.board a) ≡ Some (then.squares a)
    shown a h =
        let y = (begun a h).0 in
        let g = (begun a h).2 in
        ap (option_map (shown_as value new)) (begun a h).1
        ∙ ap Some (square_same (shown_as value new y) (then.squares a) g.mark g.pointer g.paint (shown_stage value (eqb y.search new) y.stage ∙ ap (stage_shown value) g.stage ∙ shown_stage_now (eqb a here)))

    exact_now : (t : Bool) → Exact kept (taken_cells size then.squares) (cond t (stage.Waiting b.zero here) stage.Idle)
    exact_now true = (0, omega arith, b.exact)
    exact_now false = tt

    exact : (a : ℕ) → a < size → Exact kept (taken_cells size then.squares) (stage_at new after.board a)
    exact a h = subst (Exact kept (taken_cells size then.squares)) (sym (ap (stage_in new) (begun a h).1 ∙ (begun a h).2.stage)) (exact_now (eqb a here))

    abbrev entry : Entry M
    entry = record { value = b.zero; cell = here }

    first : (unwrap_or b.pushed 0 ≡ 1) × Added w.scale value before.queue 0 entry after.queue 1
    first = pushed_first w.scale value before.queue after.queue entry b.pushed (omega arith) b.queued

    one : after.search.waiting ≡ 1
    one = b.counted ∙ first.0

    home : (then.squares here).stage ≡ plain.waiting w.scale.none here
    home = ap (λ t. cond t (plain.waiting w.scale.none here) plain.idle) (eq-eqb here here refl)

    zero_least : w.scale.at_most w.scale.none (value b.zero) ≡ true
    zero_least = subst (λ v. w.scale.at_most w.scale.none v ≡ true) (sym b.nought) (⊎_elim (λ e. e) (λ e. e) (fit.scale.either w.scale.none w.scale.none))

    abbrev Found : ℕ → w.scale.Value → Type 0
    Found a v = (e : Entry M) × Has (take 1 after.queue) e × (e.cell ≡ a) × (value e.value ≡ v)

    found : (a : ℕ) (v : w.scale.Value) (c : ℕ) → (then.squares a).stage ≡ plain.waiting v c → Found a v
    found a v c q = elim (ℕ_discrete a here) [
      | yes e ↦ (
        entry,
        added_has_entry w.scale value before.queue 0 entry after.queue 1 first.1,
        sym e,
        (let p : plain.waiting w.scale.none here ≡ plain.waiting v c = sym home ∙ ap (λ x. (then.squares x).stage) (sym e) ∙ q in cc b.nought),
      )
      | no e ↦ let p : plain.idle ≡ plain.waiting v c = sym (ap (λ t. cond t (plain.waiting w.scale.none here) plain.idle) (ne_eqb a here e)) ∙ q in cc
    ]

    queued : Queued w.scale value size (λ a. (then.squares a).stage) after.queue 1
    queued = record {
      room = omega arith;
      heap = first.1.ordered (heap_none w.scale value before.queue);
      due =
          added_all w.scale value before.queue 0 entry after.queue 1 first.1 (DueAt w.scale value size (λ a. (then.squares a).stage))
          (inside, subst (λ g. Due w.scale value g (value b.zero)) (sym home) zero_least) tt;
      waiting = λ a v c h q. found a v c q;
    }

    pub begins_search : Represents w value kept after then
    begins_search = record {
      number = next ∙ ap suc number;
      walk = ap walk_shown b.rests;
      shown = shown;
      numbered = λ a x h e.
          let s : Some (begun a h).0 ≡ Some x = sym (begun a h).1 ∙ e in
          subst (λ y. y.search ≤ new) (let same : (begun a h).0 ≡ x = cc in same) (begun a h).2.carries;
      room = room;
      frontier = λ p. record { shown = shown; exact = exact; queued = subst (Queued w.scale value size (λ a. (then.squares a).stage) after.queue) (sym one) queued };
      few = λ p. omega (arith, one);
    }
