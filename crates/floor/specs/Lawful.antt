-- A lattice of directions on a floor is lawful, if the opposite of each is one of them.
use Rattle.std.specs.Prelude.{◌≡◌, ℕ, ◌*◌, ◌/◌, ◌%◌, ◌≤◌, Bool, true, false, cond, ◌&&◌, Some, None, refl}
use Rattle.std.proofs.Common.{sym, ◌∙◌, ap, ap₂, subst, mul-le-mul, arith}
use Rattle.std.proofs.lemmas.Bool.{and_parts}
use Rattle.model.specs.Lattice.{Lawful}
use Rattle.model.specs.Floors.{same, column_way, row_way, floor_beside, used, odd, facing, streets, kings}
use Rattle.model.proofs.Basics.Tests.{none_some}
use Rattle.floor.specs.Ways.{used_bounds, direction_of, known_by_ways, facing_column, facing_row, facing_used, facing_straight, Goes, goes_back, goes_one_way}
use Rattle.floor.specs.Squares.{on_floor, Sized}
use Rattle.floor.specs.Steps.{Stepped, stepped, steps}

module _ (uses : ℕ → Bool) (w h : ℕ) (sized : Sized w h) (in_use : (d : ℕ) → uses d ≡ true → used d ≡ true) where
  -- a step goes in a direction of the lattice
  pub goes_in : (a d b : ℕ) → (on_floor uses w h).beside a d ≡ Some b → (uses d ≡ true) × Stepped w h a d b
  goes_in a d b e = go (uses d) refl e
    where
      go : (t : Bool) → uses d ≡ t → cond t (floor_beside w h a d) None ≡ Some b → (uses d ≡ true) × Stepped w h a d b
      go true t e = (t, stepped w h a d b sized.0 e)
      go false t e = absurd (none_some e)

  pub goes_there : (a d b : ℕ) → uses d ≡ true → Stepped w h a d b → (on_floor uses w h).beside a d ≡ Some b
  goes_there a d b t s = ap (λ u. cond u (floor_beside w h a d) None) t ∙ steps w h a d b sized.0 s

  pub on_floor_lawful : ((d : ℕ) → uses d ≡ true → uses (facing d) ≡ true) → Lawful (on_floor uses w h)
  on_floor_lawful turns = record {
    small = let most : w * h ≤ 64 * 64 = mul-le-mul sized.1 sized.3 in omega arith;
    within = λ a d b e.
        let s = goes_in a d b e in
        let l = used_bounds d (in_use d s.0) in
        (s.1.from, s.1.to, l.0, l.1);
    priced = λ d. price (used d && odd d);
    apart = λ a d b e q.
        let s = goes_in a d b e in
        let stays = goes_one_way (column_way d) same (a % w) (b % w) s.1.column (ap (λ x. x % w) (sym q)) in
        let rests = goes_one_way (row_way d) same (a / w) (b / w) s.1.row (ap (λ x. x / w) (sym q)) in
        let none : d ≡ 0 = sym (known_by_ways d (in_use d s.0)) ∙ ap₂ direction_of stays rests in
        let l = used_bounds d (in_use d s.0) in
        omega arith;
    single = λ a d e b i j.
        let s = goes_in a d b i in
        let t = goes_in a e b j in
        sym (known_by_ways d (in_use d s.0))
        ∙ ap₂ direction_of (goes_one_way (column_way d) (column_way e) (a % w) (b % w) s.1.column t.1.column) (goes_one_way (row_way d) (row_way e) (a / w) (b / w) s.1.row t.1.row)
        ∙ known_by_ways e (in_use e t.0);
    back = λ a d b e.
        let s = goes_in a d b e in
        let is = in_use d s.0 in
        ap (λ t. (on_floor uses w h).beside b (cond t (facing d) 0)) s.0
        ∙ goes_there b (facing d) a (turns d s.0) (record {
          from = s.1.to;
          to = s.1.from;
          column = subst (λ v. Goes v (b % w) (a % w)) (sym (facing_column d is)) (goes_back (column_way d) (a % w) (b % w) s.1.column);
          row = subst (λ v. Goes v (b / w) (a / w)) (sym (facing_row d is)) (goes_back (row_way d) (a / w) (b / w) s.1.row);
        });
  }
    where
      price : (t : Bool) → (1 ≤ cond t 5 7) × (cond t 5 7 ≤ 7)
      price true = (omega arith, omega arith)
      price false = (omega arith, omega arith)

pub streets_lawful : (w h : ℕ) → Sized w h → Lawful (streets w h)
streets_lawful w h sized = on_floor_lawful (λ d. used d && odd d) w h sized (λ d e. (and_parts (used d) (odd d) e).0) facing_straight

pub kings_lawful : (w h : ℕ) → Sized w h → Lawful (kings w h)
kings_lawful w h sized = on_floor_lawful used w h sized (λ d e. e) facing_used
