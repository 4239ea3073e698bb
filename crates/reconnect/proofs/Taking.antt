-- A take, in memory and in the plain drive.
use Rattle.std.proofs.Common.{◌≡◌, ℕ, suc, ◌+◌, ◌-◌, ◌*◌, ◌<◌, ◌≤◌, true, List, length, Some, None, Option, sym, refl, ap, ◌∙◌, subst, arith}
use mathlib.Core.Path.{fun_ext}
use native.Mathlib.Decide.{ℕ_discrete}
use Rattle.std.specs.List.{slice_get}
use Rattle.model.specs.declared.Phase.TheVariants as phase
use Rattle.model.specs.Scale.{Ordered}
use Rattle.model.specs.Plain as plain
use Rattle.model.specs.Plain.{World, State, Squares, resting, put, is_taken, worth, from, waits, least, with_search, as_taken, take}
use Rattle.model.proofs.Basics.Tables.{put_here, put_else}
use Rattle.model.proofs.Basics.Tests.{same_some}
use Rattle.model.proofs.Basics.Counting.{count_more}
use Rattle.model.proofs.Search.Steps.{closed, took}
use Rattle.measure.specs.declared.queue.Entry.{Entry}
use Rattle.board.specs.declared.square.Square.{Square}
use Rattle.board.specs.declared.square.Stage.{Stage}
use Rattle.board.specs.declared.square.Stage.TheVariants as stage
use Rattle.board.specs.Board.{changed, with_stage, stage_at, stage_shown, Shown}
use Rattle.board.proofs.Showing.{stage_shown_in, shown_changed, staged_shown, numbers_kept}
use Rattle.reconnect.specs.declared.frontier.Chosen.{Chosen}
use Rattle.reconnect.specs.Frontier.{Exact, taken_cells, Queued}
use Rattle.reconnect.specs.Reaching.{StagesAs, Chooses}
use Rattle.reconnect.specs.Represents.{Memory, spread_cells, Represents}
use Rattle.reconnect.proofs.Leasts.{First, least_none, least_first}
use Rattle.reconnect.proofs.Reaching.{after_setting}

-- what is exact stays so when more cells are taken
exact_more : {M : Type 0} (kept : M → ℕ → Type 0) (n : ℕ) (t : Stage M) → Exact kept n t → Exact kept (suc n) t
exact_more kept n stage.Idle x = tt
exact_more kept n (stage.Waiting m b) x = (x.0, omega (arith, x.1), x.2)
exact_more kept n (stage.Taken m b) x = (x.0, omega (arith, x.1), x.2)

module _ (w : World) (ordered : Ordered w.scale) where
  take_none : (s : State w) → least w s.squares w.lattice.size ≡ None → take w s ≡ closed w s
  unfolding take
  take_none s e = go (least w s.squares w.lattice.size) e
    where
      go : (o : Option ℕ) → o ≡ None → (elim o as (λ x. State w × plain.Course) [ None ↦ closed w s | Some a ↦ took w s a ]) ≡ closed w s
      go None e = refl
      go (Some a) e = cc

  take_some : (s : State w) (a : ℕ) → least w s.squares w.lattice.size ≡ Some a → take w s ≡ took w s a
  unfolding take
  take_some s a e = go (least w s.squares w.lattice.size) e
    where
      go : (o : Option ℕ) → o ≡ Some a → (elim o as (λ x. State w × plain.Course) [ None ↦ closed w s | Some b ↦ took w s b ]) ≡ took w s a
      go None e = cc
      go (Some b) e = ap (took w s) (same_some e)

  -- a stage that waits
  waiting_is : (t : plain.Stage w.scale.Value) → waits w t ≡ true → t ≡ plain.waiting (worth w t) (from w t)
  waiting_is plain.idle e = cc
  waiting_is (plain.waiting v b) e = refl
  waiting_is (plain.taken v b) e = cc

  module _ {M : Type 0} (value : M → w.scale.Value) (kept : M → ℕ → Type 0) (m : Memory M) (s : State w) (searching : s.phase ≡ phase.Searching) (rest : s.walk ≡ resting) (r : Represents w value kept m s) where
    abbrev size : ℕ
    size = w.lattice.size

    abbrev number : ℕ
    number = m.search.number

    abbrev stages : ℕ → plain.Stage w.scale.Value
    stages a = (s.squares a).stage

    pub stages_as : StagesAs w.scale value size number m.board stages
    stages_as a l = stage_shown_in value number (s.squares a) (slice_get m.board a) (r.shown a l)

    -- no cell waits: the search is shut
    module _ (none : (a : ℕ) (v : w.scale.Value) (b : ℕ) → a < size → stages a ≡ plain.waiting v b → ⊥) where
      pub shuts : take w s ≡ closed w s
      shuts = take_none s (least_none w ordered s.squares size (λ a l h. none a _ _ l (waiting_is (stages a) h)))

      pub shut_represents : (n : ℕ) (queue : List (Entry M)) → length queue ≡ length m.queue → Represents w value kept (record { search = record { number = number; waiting = n; walk = m.search.walk }; board = m.board; queue = queue }) (closed w s).0
      shut_represents n queue long = record {
        number = r.number;
        walk = r.walk ∙ rest;
        shown = r.shown;
        numbered = r.numbered;
        room = omega (arith, r.room);
        frontier = λ e. cc;
        few = λ e. cc;
      }

    -- a cell is chosen: it is taken
    module _ (x : Chosen M) (queue : List (Entry M)) (n : ℕ) (ch : Chooses w.scale value size number m.board stages queue n x) where
      here : stages x.cell ≡ plain.waiting (value x.measure) x.back
      here = sym (stages_as x.cell ch.inside) ∙ ap (stage_shown value) ch.waits

      first : First w ordered s.squares size x.cell
      first = record {
        inside = ch.inside;
        waiting = ap (waits w) here;
        before = λ c l h.
            let k = ch.least c (worth w (stages c)) (from w (stages c)) l (waiting_is (stages c) h) in (
              subst (λ v. w.scale.at_most v (worth w (stages c)) ≡ true) (sym (ap (worth w) here)) k.0,
              λ back. k.1 (subst (λ v. w.scale.at_most (worth w (stages c)) v ≡ true) (ap (worth w) here) back),
            );
      }

      pub takes : take w s ≡ took w s x.cell
      takes = take_some s x.cell (least_first w ordered s.squares size x.cell first)

      abbrev taken_square : plain.Square w.scale.Value
      taken_square = plain.with_stage w (s.squares x.cell) (plain.taken (value x.measure) x.back)

      taken_is : as_taken w (s.squares x.cell) ≡ taken_square
      taken_is = ap (λ t. plain.with_stage w (s.squares x.cell) (plain.taken (worth w t) (from w t))) here

      abbrev new : Squares w
      new = put s.squares x.cell taken_square

      abbrev set_to : Stage M
      set_to = stage.Taken x.measure x.back

      abbrev board : List (Square M)
      board = changed (with_stage number set_to) m.board x.cell

      one_more : taken_cells size new ≡ suc (taken_cells size s.squares)
      one_more = count_more size (λ a. is_taken (stages a)) (λ a. is_taken (new a).stage) x.cell ch.inside (ap is_taken here) (ap (λ y. is_taken y.stage) (put_here s.squares x.cell taken_square)) (λ a ne. ap (λ y. is_taken y.stage) (put_else s.squares x.cell taken_square a ne))

      shown_new : Shown value size number board new
      shown_new = shown_changed value number size m.board s.squares x.cell (with_stage number set_to) (λ y. plain.with_stage w y (plain.taken (value x.measure) x.back)) (staged_shown value number set_to) r.shown

      exact_new : (a : ℕ) → a < size → Exact kept (taken_cells size new) (stage_at number board a)
      exact_new a l =
          let old = subst (Exact kept (taken_cells size s.squares)) ch.waits ((r.frontier searching).exact x.cell ch.inside) in
          subst (λ c. Exact kept c (stage_at number board a)) (sym one_more)
          (after_setting value number (Exact kept (suc (taken_cells size s.squares))) set_to m.board x.cell (s.squares x.cell) (r.shown x.cell ch.inside) (old.0, omega (arith, old.1), old.2) a
          (λ ne. exact_more kept _ (stage_at number m.board a) ((r.frontier searching).exact a l)))

      same_stages : put stages x.cell (plain.taken (value x.measure) x.back) ≡ (λ a. (new a).stage)
      same_stages = fun_ext (λ a. elim (ℕ_discrete a x.cell) [
        | yes e ↦
            subst (λ k. put stages x.cell (plain.taken (value x.measure) x.back) k ≡ (new k).stage) (sym e)
            (put_here stages x.cell _ ∙ sym (ap (λ y. y.stage) (put_here s.squares x.cell taken_square)))
        | no ne ↦ put_else stages x.cell _ a ne ∙ sym (ap (λ y. y.stage) (put_else s.squares x.cell taken_square a ne))
      ])

      abbrev after : Memory M
      after = record { search = record { number = number; waiting = n; walk = Some (record { taken = x.cell; at = x.cell }) }; board = board; queue = queue }

      few_new : n ≤ m.search.waiting → n ≤ 8 * (taken_cells size new - 1) + 1
      few_new fewer =
          let old : m.search.waiting ≤ 8 * taken_cells size s.squares + 1 = subst (λ k. m.search.waiting ≤ 8 * spread_cells k (taken_cells size s.squares) + 1) rest (r.few searching) in
          omega (arith, old, one_more, fewer)

      pub taken_represents : n ≤ m.search.waiting → length queue ≡ length m.queue → Represents w value kept after (took w s x.cell).0
      taken_represents fewer long = subst (λ y. Represents w value kept after (with_search w s s.phase (put s.squares x.cell y) (plain.walking x.cell x.cell))) (sym taken_is) (record {
        number = r.number;
        walk = refl;
        shown = shown_new;
        numbered = numbers_kept number (with_stage number set_to) (λ y o. omega arith) size m.board x.cell r.numbered;
        room = omega (arith, r.room);
        frontier = λ e. record {
          shown = shown_new;
          exact = exact_new;
          queued = subst (λ g. Queued w.scale value size g queue n) same_stages ch.queued;
        };
        few = λ e. few_new fewer;
      })
