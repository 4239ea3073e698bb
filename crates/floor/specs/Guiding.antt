-- The distances on a floor lead from every cell to the goal.
use Rattle.std.specs.Prelude.{◌≡◌, ℕ, ◌+◌, ◌-◌, ◌*◌, ◌/◌, ◌%◌, ◌<◌, ◌≤◌, Bool, true, false, cond, ◌&&◌, Some, None, ◌≢◌, nat_lt, refl}
use Rattle.std.proofs.Common.{sym, ◌∙◌, ap, subst, arith}
use Rattle.std.proofs.Math.Path.{ap₂}
use Rattle.std.proofs.lemmas.Bool.{and_parts}
use Rattle.std.proofs.Math.Arith.{digits_div, digits_mod}
use borrow.Author.Tests.{ltb-true, lt-ltb, eq-eqb, clash}
use Rattle.model.specs.Lattice.{Guiding, lead, same_distance, plus}
use Rattle.model.specs.Floors.{Way, up, same, down, used, odd, gap, straight, slanting, streets, kings, towards_goal}
use Rattle.model.proofs.Basics.Tests.{same_some, none_some}
use Rattle.floor.specs.Leads.{none_passes, nearer, nearer_at}
use Rattle.floor.specs.Cells.{column_below, row_below, cell_below, same_cell}
use Rattle.floor.specs.Ways.{used_bounds, direction_of, its_column_way, its_row_way, Goes}
use Rattle.floor.specs.Steps.{Stepped}
use Rattle.floor.specs.Lawful.{goes_there}
use Rattle.floor.specs.Squares.{on_floor, Sized}
use Rattle.floor.specs.Nearing.{Left, Nearing, nearing, gap_none, gap_self}

-- what a step costs
abbrev price : ℕ → ℕ
price d = cond (used d && odd d) 5 7

-- how far one cell is from another, on a floor that is w wide
abbrev between : (ℕ → ℕ → ℕ) → ℕ → ℕ → ℕ → ℕ
between far w a goal = far (gap (a % w) (goal % w)) (gap (a / w) (goal / w))

-- a used direction that goes nearer by just its cost
record Heads (far : ℕ → ℕ → ℕ) (uses : ℕ → Bool) (w h a goal : ℕ) : Type 0 where
  d : ℕ
  b : ℕ
  in_use : uses d ≡ true
  step : Stepped w h a d b
  sum : between far w b goal + price d ≡ between far w a goal

-- the direction that goes these ways, to a column and a row
heads : (far : ℕ → ℕ → ℕ) (uses : ℕ → Bool) (w h a goal : ℕ) → a < w * h → (v u : Way) (c r : ℕ) → c < w → r < h → Goes v (a % w) c → Goes u (a / w) r → uses (direction_of v u) ≡ true → far (gap c (goal % w)) (gap r (goal / w)) + price (direction_of v u) ≡ between far w a goal → Heads far uses w h a goal
heads far uses w h a goal cell v u c r cl rl across along t sum =
    let column = digits_mod r cl in
    let row = digits_div r cl in
    record {
      d = direction_of v u;
      b = r * w + c;
      in_use = t;
      step = record {
        from = cell;
        to = cell_below c r w h cl rl;
        column = subst (λ x. Goes x (a % w) ((r * w + c) % w)) (sym (its_column_way v u)) (subst (λ m. Goes v (a % w) m) (sym column) across);
        row = subst (λ x. Goes x (a / w) ((r * w + c) / w)) (sym (its_row_way v u)) (subst (λ m. Goes u (a / w) m) (sym row) along);
      };
      sum = ap₂ (λ x y. far (gap x (goal % w)) (gap y (goal / w)) + price (direction_of v u)) column row ∙ sum;
    }

module _ (far : ℕ → ℕ → ℕ) (uses : ℕ → Bool) (w h goal : ℕ) (sized : Sized w h) (in_use : (d : ℕ) → uses d ≡ true → used d ≡ true) where
  has : (a m : ℕ) → (towards_goal far w h goal).distance a ≡ Some m → (a < w * h) × (goal < w * h) × (between far w a goal ≡ m)
  has a m e = go (nat_lt a (w * h) && nat_lt goal (w * h)) refl e
    where
      go : (t : Bool) → (nat_lt a (w * h) && nat_lt goal (w * h)) ≡ t → cond t (Some (between far w a goal)) None ≡ Some m → (a < w * h) × (goal < w * h) × (between far w a goal ≡ m)
      go true t e = let cells = and_parts (nat_lt a (w * h)) (nat_lt goal (w * h)) t in (ltb-true a (w * h) cells.0, ltb-true goal (w * h) cells.1, same_some e)
      go false t e = absurd (none_some e)

  is_far : (a : ℕ) → a < w * h → goal < w * h → (towards_goal far w h goal).distance a ≡ Some (between far w a goal)
  is_far a l m = ap (λ t. cond t (Some (between far w a goal)) None) (ap₂ ◌&&◌ (lt-ltb a (w * h) l) (lt-ltb goal (w * h) m))

  leads : (a : ℕ) → a < w * h → goal < w * h → Heads far uses w h a goal → lead (on_floor uses w h) (towards_goal far w h goal) a ≢ 0
  unfolding lead
  leads a l m k none =
      let there = goes_there uses w h sized in_use a k.d k.b k.in_use k.step in
      let bounds = used_bounds k.d (in_use k.d k.in_use) in
      none_passes 8 (nearer (on_floor uses w h) (towards_goal far w h goal) a) none k.d bounds.0 bounds.1
      (sym (nearer_at (on_floor uses w h) (towards_goal far w h goal) a k.d k.b (sym there))
      ∙ ap₂ (λ x y. same_distance (plus x (price k.d)) y) (is_far k.b k.step.to m) (is_far a l m)
      ∙ eq-eqb (between far w a goal) (between far w k.b goal + price k.d) (sym k.sum))

  -- far is 0 at 0 and 0 alone, and from every other cell there is a direction that goes nearer
  on_floor_guiding : far 0 0 ≡ 0 → ((p q : ℕ) → far p q ≡ 0 → (p ≡ 0) × (q ≡ 0)) → ((a : ℕ) → a < w * h → goal < w * h → (a ≢ goal) → Heads far uses w h a goal) → Guiding (on_floor uses w h) (towards_goal far w h goal)
  on_floor_guiding none only onward = record {
    at_goal = λ l. is_far goal l l ∙ ap Some (ap₂ far (gap_self (goal % w)) (gap_self (goal / w)) ∙ none);
    nowhere_else = λ a e.
        let k = only (gap (a % w) (goal % w)) (gap (a / w) (goal / w)) (has a 0 e).2 in
        same_cell a goal w (gap_none (a % w) (goal % w) k.0) (gap_none (a / w) (goal / w) k.1);
    of_cells = λ a m e. (has a m e).0;
    leads_on = λ a m e off. let k = has a m e in leads a k.0 k.1 (onward a k.0 k.1 off);
  }

-- Streets: first to the goal's column, then to its row

pub streets_guiding : (w h goal : ℕ) → Sized w h → Guiding (streets w h) (towards_goal straight w h goal)
streets_guiding w h goal sized =
    on_floor_guiding straight (λ d. used d && odd d) w h goal sized (λ d e. (and_parts (used d) (odd d) e).0) refl (λ p q e. (omega arith, omega arith)) onward
  where
    onward : (a : ℕ) → a < w * h → goal < w * h → (a ≢ goal) → Heads straight (λ d. used d && odd d) w h a goal
    onward a l m off = go x.way y.way x.goes y.goes x.left y.left
      where
        x : Nearing w (a % w) (goal % w)
        x = nearing w (a % w) (goal % w) (column_below a w sized.0) (column_below goal w sized.0)

        y : Nearing h (a / w) (goal / w)
        y = nearing h (a / w) (goal / w) (row_below a w h sized.0 l) (row_below goal w h sized.0 m)

        across : (v : Way) → Goes v (a % w) x.next → (used (direction_of v same) && odd (direction_of v same)) ≡ true → price (direction_of v same) ≡ 5 → 1 ≤ gap (a % w) (goal % w) → Heads straight (λ d. used d && odd d) w h a goal
        across v goes t cost left =
            let less = x.less in
            heads straight (λ d. used d && odd d) w h a goal l v same x.next (a / w) x.below (row_below a w h sized.0 l) goes refl t (omega arith)

        along : (u : Way) → Goes u (a / w) y.next → (used (direction_of same u) && odd (direction_of same u)) ≡ true → price (direction_of same u) ≡ 5 → 1 ≤ gap (a / w) (goal / w) → Heads straight (λ d. used d && odd d) w h a goal
        along u goes t cost left =
            let less = y.less in
            heads straight (λ d. used d && odd d) w h a goal l same u (a % w) y.next (column_below a w sized.0) y.below refl goes t (omega arith)

        go : (v u : Way) → Goes v (a % w) x.next → Goes u (a / w) y.next → Left v (gap (a % w) (goal % w)) → Left u (gap (a / w) (goal / w)) → Heads straight (λ d. used d && odd d) w h a goal
        go up u i j p q = across up i refl refl p
        go down u i j p q = across down i refl refl p
        go same up i j p q = along up j refl refl q
        go same down i j p q = along down j refl refl q
        go same same i j p q = absurd (off (same_cell a goal w (gap_none (a % w) (goal % w) p) (gap_none (a / w) (goal / w) q)))

-- Kings: to the goal's column and row at once
slanting_sum : (v u : Way) (p q m n : ℕ) → Left v p → Left u q → m ≡ p - 1 → n ≡ q - 1 → used (direction_of v u) ≡ true → slanting m n + price (direction_of v u) ≡ slanting p q
slanting_sum up up p q m n i j e f t = omega arith
slanting_sum up same p q m n i j e f t = omega arith
slanting_sum up down p q m n i j e f t = omega arith
slanting_sum same up p q m n i j e f t = omega arith
slanting_sum same same p q m n i j e f t = absurd (clash t)
slanting_sum same down p q m n i j e f t = omega arith
slanting_sum down up p q m n i j e f t = omega arith
slanting_sum down same p q m n i j e f t = omega arith
slanting_sum down down p q m n i j e f t = omega arith

-- the two ways are a direction, unless both are done
some_way : (v u : Way) (p q : ℕ) → Left v p → Left u q → (p ≡ 0 → q ≢ 0) → used (direction_of v u) ≡ true
some_way up up p q i j off = refl
some_way up same p q i j off = refl
some_way up down p q i j off = refl
some_way same up p q i j off = refl
some_way same same p q i j off = absurd (off i j)
some_way same down p q i j off = refl
some_way down up p q i j off = refl
some_way down same p q i j off = refl
some_way down down p q i j off = refl

pub kings_guiding : (w h goal : ℕ) → Sized w h → Guiding (kings w h) (towards_goal slanting w h goal)
kings_guiding w h goal sized = on_floor_guiding slanting used w h goal sized (λ d e. e) refl (λ p q e. (omega arith, omega arith)) onward
  where
    onward : (a : ℕ) → a < w * h → goal < w * h → (a ≢ goal) → Heads slanting used w h a goal
    onward a l m off =
        let x = nearing w (a % w) (goal % w) (column_below a w sized.0) (column_below goal w sized.0) in
        let y = nearing h (a / w) (goal / w) (row_below a w h sized.0 l) (row_below goal w h sized.0 m) in
        let t = some_way x.way y.way (gap (a % w) (goal % w)) (gap (a / w) (goal / w)) x.left y.left (λ c r. off (same_cell a goal w (gap_none (a % w) (goal % w) c) (gap_none (a / w) (goal / w) r))) in
        heads slanting used w h a goal l x.way y.way x.next y.next x.below y.below x.goes y.goes t
        (slanting_sum x.way y.way (gap (a % w) (goal % w)) (gap (a / w) (goal / w)) (gap x.next (goal % w)) (gap y.next (goal / w)) x.left y.left x.less y.less t)
