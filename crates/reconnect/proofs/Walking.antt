-- A step of a walk, in memory and in the plain drive.
use Rattle.std.proofs.Common.{◌≡◌, ℕ, ◌+◌, ◌-◌, ◌*◌, ◌<◌, ◌≤◌, Bool, true, false, cond, eqb, ◌⊎◌, List, length, Some, None, Option, sym, refl, ap, ◌∙◌, subst, ⊎_elim, inl, inr, arith, eq-eqb, ne_eqb, eqb-true}
use mathlib.Core.Path.{fun_ext}
use borrow.Author.Tests.{eqb-false}
use Rattle.std.specs.List.{slice_get}
use Rattle.model.specs.declared.Phase.TheVariants as phase
use Rattle.model.specs.Lattice.{Lawful}
use Rattle.model.specs.Plain as plain
use Rattle.model.specs.Plain.{World, State, Squares, Walk, resting, walking, put, is_taken, worth, next, spread, retraced, with_search, take, walk_on, fail_walk, step_of, think_step}
use Rattle.model.specs.Promise.{Fit, Reached}
use Rattle.model.proofs.Basics.Tables.{put_part}
use Rattle.model.proofs.Basics.Tests.{same_some}
use Rattle.model.proofs.Basics.Counting.{count_same, count_fewer, count_at_most}
use Rattle.model.proofs.Search.Reach.{taken_live}
use Rattle.model.proofs.Search.Sought.{WalkInside, Sought}
use Rattle.model.proofs.Search.Steps.{painting, joined, stopped, walked}
use Rattle.model.proofs.Reachable.{rocks, unseens, reached_sound}
use Rattle.measure.specs.declared.queue.Entry.{Entry}
use Rattle.board.specs.declared.square.Square.{Square}
use Rattle.board.specs.Board.{changed, with_paint, pointer_at, paint_at, stage_at, Shown}
use Rattle.board.proofs.Showing.{pointer_shown, paint_shown, shown_changed, stage_kept, numbers_kept}
use Rattle.reconnect.specs.Frontier.{Numbered, Exact, taken_cells, Queued, Frontier}
use Rattle.reconnect.specs.Retracing.{Homewards}
use Rattle.reconnect.specs.Walking.{unpainted}
use Rattle.reconnect.specs.Represents.{Memory, spread_cells, Represents}
use Rattle.reconnect.proofs.Spreading.{taken_same, spread_end}

-- what it says that a cell is not painted, or that there is none that is not
unpainted_some : {M : Type 0} (board : List (Square M)) (n : ℕ) (o : Option ℕ) (c : ℕ) → Some c ≡ unpainted board n o → (o ≡ Some c) × (paint_at board c ≡ n → ⊥)
unpainted_some board n None c e = cc
unpainted_some board n (Some d) c e = by (eqb (paint_at board d) n) refl e
  where
    by : (t : Bool) → eqb (paint_at board d) n ≡ t → Some c ≡ cond t None (Some d) → (Some d ≡ Some c) × (paint_at board c ≡ n → ⊥)
    by true q e = cc
    by false q e = (sym e, λ p. eqb-false (paint_at board d) n q (ap (paint_at board) (sym (same_some e)) ∙ p))

unpainted_none : {M : Type 0} (board : List (Square M)) (n : ℕ) (o : Option ℕ) → None ≡ unpainted board n o → (o ≡ None) ⊎ ((c : ℕ) × (o ≡ Some c) × (paint_at board c ≡ n))
unpainted_none board n None e = inl refl
unpainted_none board n (Some d) e = by (eqb (paint_at board d) n) refl e
  where
    by : (t : Bool) → eqb (paint_at board d) n ≡ t → None ≡ cond t None (Some d) → (Some d ≡ None) ⊎ ((c : ℕ) × (Some d ≡ Some c) × (paint_at board c ≡ n))
    by true q e = inr (d, refl, eqb-true (paint_at board d) n q)
    by false q e = cc

module _ (w : World) where
  -- which step the plain drive makes
  pub rests : (s : State w) → s.walk ≡ resting → think_step w s ≡ take w s
  unfolding think_step step_of
  rests s e = ap (step_of w s) e

  pub goes_on : (s : State w) (a b : ℕ) → s.walk ≡ walking a b → think_step w s ≡ walk_on w s a b
  unfolding think_step step_of
  goes_on s a b e = ap (step_of w s) e

  abbrev onwards : State w → ℕ → ℕ → Option ℕ → State w × plain.Course
  onwards s a b o = elim o as (λ x. State w × plain.Course) [
    | None ↦ stopped w s a b
    | Some c ↦ cond (eqb (painting w s b c).paint s.searches) (stopped w s a b) (walked w s a b c)
  ]

  -- joining at the taken cell a, in a search that began at a cell
  abbrev pub joined_from : ℕ → State w → ℕ → State w × plain.Course
  joined_from home s a =
      let shown = w.scale.shown (worth w (s.squares a).stage) in
      (with_search w s phase.Ready (retraced w w.lattice.size home a s.squares) resting, plain.join shown.0 shown.1)

  pub joins : (s : State w) (a b : ℕ) → b ≡ w.guide.goal → walk_on w s a b ≡ joined w s a
  unfolding walk_on fail_walk
  joins s a b e = ap (λ t. cond t (joined w s a) (onwards s a b (next w (painting w s b) b))) (eq-eqb b w.guide.goal e)

  not_at_goal : (s : State w) (a b : ℕ) → (b ≡ w.guide.goal → ⊥) → walk_on w s a b ≡ onwards s a b (next w (painting w s b) b)
  unfolding walk_on fail_walk
  not_at_goal s a b n = ap (λ t. cond t (joined w s a) (onwards s a b (next w (painting w s b) b))) (ne_eqb b w.guide.goal n)

  walks : (s : State w) (a b c : ℕ) → (b ≡ w.guide.goal → ⊥) → next w (painting w s b) b ≡ Some c → ((painting w s b c).paint ≡ s.searches → ⊥) → walk_on w s a b ≡ walked w s a b c
  walks s a b c n e f =
      not_at_goal s a b n ∙ ap (onwards s a b) e
      ∙ ap (λ t. cond t (stopped w s a b) (walked w s a b c)) (ne_eqb (painting w s b c).paint s.searches f)

  stops_nowhere : (s : State w) (a b : ℕ) → (b ≡ w.guide.goal → ⊥) → next w (painting w s b) b ≡ None → walk_on w s a b ≡ stopped w s a b
  stops_nowhere s a b n e = not_at_goal s a b n ∙ ap (onwards s a b) e

  stops_painted : (s : State w) (a b c : ℕ) → (b ≡ w.guide.goal → ⊥) → next w (painting w s b) b ≡ Some c → (painting w s b c).paint ≡ s.searches → walk_on w s a b ≡ stopped w s a b
  stops_painted s a b c n e f =
      not_at_goal s a b n ∙ ap (onwards s a b) e
      ∙ ap (λ t. cond t (stopped w s a b) (walked w s a b c)) (eq-eqb (painting w s b c).paint s.searches f)

  module _ (fit : Fit w) (s : State w) (n : ℕ) (reached : Reached w s n) (searching : s.phase ≡ phase.Searching) where
    abbrev size : ℕ
    size = w.lattice.size

    abbrev cells : Sought w s.cell (rocks w s) (unseens w s) (λ a. (s.squares a).stage) s.walk
    cells = (reached_sound w fit s n reached).searching searching

    pub homewards : (home : ℕ) → s.cell ≡ home → Homewards w home s.squares
    homewards home e = record {
      inside = λ a t. cells.inside a (taken_live _ t);
      back = λ a t away. cells.back_taken a (taken_live _ t) (λ k. away (k ∙ e));
    }

    pub taken_inside : (a : ℕ) → is_taken (s.squares a).stage ≡ true → a < size
    taken_inside a t = cells.inside a (taken_live _ t)

    pub walk_inside : (a b : ℕ) → s.walk ≡ walking a b → (is_taken (s.squares a).stage ≡ true) × (b < size)
    walk_inside a b e = subst (WalkInside w (λ c. (s.squares c).stage)) e cells.walk

  -- after painting the cell where the walk stands
  module _ {M : Type 0} (value : M → w.scale.Value) (kept : M → ℕ → Type 0) (m : Memory M) (s : State w) (searching : s.phase ≡ phase.Searching) (a b : ℕ) (under-way : s.walk ≡ walking a b) (r : Represents w value kept m s) where
    abbrev number : ℕ
    number = m.search.number

    abbrev painted : Squares w
    painted = painting w s b

    abbrev board : List (Square M)
    board = changed (with_paint number) m.board b

    pub shown_painted : Shown value w.lattice.size number board painted
    shown_painted =
        subst (λ k. Shown value w.lattice.size number board (put s.squares b (plain.with_paint w (s.squares b) k))) r.number
        (shown_changed value number w.lattice.size m.board s.squares b (with_paint number) (λ x. plain.with_paint w x number) (λ x. refl) r.shown)

    -- the pointer of that cell, and the paint of a cell
    next_painted : b < w.lattice.size → w.lattice.beside b (pointer_at board b) ≡ next w painted b
    next_painted l = ap (w.lattice.beside b) (pointer_shown value number (painted b) (slice_get board b) (shown_painted b l))

    paint_painted : (c : ℕ) → c < w.lattice.size → paint_at board c ≡ (painted c).paint
    paint_painted c l = paint_shown value number (painted c) (slice_get board c) (shown_painted c l)

    numbered_painted : Numbered w.lattice.size number board
    numbered_painted = numbers_kept number (with_paint number) (λ x o. o) w.lattice.size m.board b r.numbered

    pub same_stage : (c : ℕ) → (painted c).stage ≡ (s.squares c).stage
    same_stage c = put_part (λ x. x.stage) s.squares b (plain.with_paint w (s.squares b) s.searches) refl c

    same_taken : taken_cells w.lattice.size painted ≡ taken_cells w.lattice.size s.squares
    same_taken = count_same w.lattice.size (λ c. is_taken (painted c).stage) (λ c. is_taken (s.squares c).stage) (λ c l. ap is_taken (same_stage c))

    pub frontier_painted : Frontier w.scale value kept w.lattice.size number board m.queue m.search.waiting painted
    frontier_painted =
        let f = r.frontier searching in
        record {
          shown = shown_painted;
          exact = λ c l.
              subst (λ n. Exact kept n (stage_at number board c)) (sym same_taken)
              (subst (Exact kept (taken_cells w.lattice.size s.squares)) (sym (stage_kept number (with_paint number) (λ x. refl) m.board b c)) (f.exact c l));
          queued = subst (λ g. Queued w.scale value w.lattice.size g m.queue m.search.waiting) (sym (fun_ext same_stage)) f.queued;
        }

    -- the entries are few, before the taken cell spreads
    few : m.search.waiting ≤ 8 * (taken_cells w.lattice.size s.squares - 1) + 1
    few = subst (λ k. m.search.waiting ≤ 8 * spread_cells k (taken_cells w.lattice.size s.squares) + 1) under-way (r.few searching)

    -- which step it is, by where the pointer leads
    module _ (lawful : Lawful w.lattice) (inside : b < w.lattice.size) (away : b ≡ w.guide.goal → ⊥) where
      abbrev lead : Option ℕ
      lead = w.lattice.beside b (pointer_at board b)

      pub goes : (c : ℕ) → Some c ≡ unpainted board number lead → walk_on w s a b ≡ walked w s a b c
      goes c e =
          let said = unpainted_some board number lead c e in
          walks s a b c away (sym (next_painted inside) ∙ said.0) (λ same. said.1 (paint_painted c (lawful.within b _ c said.0).1 ∙ same ∙ sym r.number))

      pub stops : None ≡ unpainted board number lead → walk_on w s a b ≡ stopped w s a b
      stops e =
          ⊎_elim
          (λ none. stops_nowhere s a b away (sym (next_painted inside) ∙ none))
          (λ some. stops_painted s a b some.0 away (sym (next_painted inside) ∙ some.1) (sym (paint_painted some.0 (lawful.within b _ some.0 some.1).1) ∙ some.2 ∙ r.number))
          (unpainted_none board number lead e)

    -- the walk goes on to another cell
    pub walked_represents : (c : ℕ) → Represents w value kept (record { search = record { number = number; waiting = m.search.waiting; walk = Some (record { taken = a; at = c }) }; board = board; queue = m.queue }) (walked w s a b c).0
    walked_represents c = record {
      number = r.number;
      walk = refl;
      shown = shown_painted;
      numbered = numbered_painted;
      room = r.room;
      frontier = λ e. frontier_painted;
      few = λ e. subst (λ n. m.search.waiting ≤ 8 * (n - 1) + 1) (sym same_taken) few;
    }

    -- or fails, and the taken cell spreads
    module _ (lawful : Lawful w.lattice) (inside : a < w.lattice.size) (taken : is_taken (s.squares a).stage ≡ true) where
      some_taken : 1 ≤ taken_cells w.lattice.size s.squares
      some_taken = omega (arith, count_fewer w.lattice.size (λ c. is_taken (s.squares c).stage) a inside taken)

      pub room_to_spread : m.search.waiting + 8 ≤ length m.queue
      room_to_spread = omega (arith, few, some_taken, r.room, count_at_most w.lattice.size (λ c. is_taken (s.squares c).stage))

      spread_taken : taken_cells w.lattice.size (spread w painted a) ≡ taken_cells w.lattice.size s.squares
      spread_taken = ap (taken_cells w.lattice.size) (sym (spread_end w lawful painted a)) ∙ taken_same w lawful painted a 8 ∙ same_taken

      pub stopped_represents : (board' : List (Square M)) (queue : List (Entry M)) (n : ℕ) → length queue ≡ length m.queue → (Numbered w.lattice.size number board → Numbered w.lattice.size number board') → n ≤ m.search.waiting + 8 →
          Frontier w.scale value kept w.lattice.size number board' queue n (spread w painted a) →
          Represents w value kept (record { search = record { number = number; waiting = n; walk = None }; board = board'; queue = queue }) (stopped w s a b).0
      stopped_represents board' queue n long numbers more f = record {
        number = r.number;
        walk = refl;
        shown = f.shown;
        numbered = numbers numbered_painted;
        room = omega (arith, r.room);
        frontier = λ e. f;
        few = λ e. subst (λ k. n ≤ 8 * k + 1) (sym spread_taken) (omega (arith, few, some_taken, more));
      }
