-- A step between two cells, by their columns and rows.
use Rattle.std.specs.Prelude.{◌≡◌, ℕ, ◌*◌, ◌/◌, ◌%◌, ◌<◌, ◌≤◌, Bool, true, false, cond, Some, None, Option, nat_lt, refl}
use Rattle.std.proofs.Common.{sym, ◌∙◌, ap, ap₂, subst, div-add-mod', arith, ltb-true, lt-ltb}
use Rattle.std.proofs.Math.Arith.{digits_div, digits_mod}
use Rattle.model.specs.Floors.{column_way, row_way, shifted, cell_of, floor_beside}
use Rattle.model.proofs.Basics.Tests.{same_some, none_some}
use Rattle.floor.specs.Cells.{column_below, row_below, cell_below}
use Rattle.floor.specs.Ways.{Goes, shift_goes, goes_shift}

-- a direction leads from a to b on a floor that is w wide and h high
pub record Stepped (w h a d b : ℕ) : Type 0 where
  pub from : a < w * h
  pub to : b < w * h
  pub column : Goes (column_way d) (a % w) (b % w)
  pub row : Goes (row_way d) (a / w) (b / w)

pub stepped : (w h a d b : ℕ) → 1 ≤ w → floor_beside w h a d ≡ Some b → Stepped w h a d b
stepped w h a d b p e = go (nat_lt a (w * h)) refl (shifted (column_way d) w (a % w)) refl (shifted (row_way d) h (a / w)) refl e
  where
    go : (t : Bool) → nat_lt a (w * h) ≡ t → (x : Option ℕ) → shifted (column_way d) w (a % w) ≡ x → (y : Option ℕ) → shifted (row_way d) h (a / w) ≡ y → cond t (cell_of w x y) None ≡ Some b → Stepped w h a d b
    go false t x i y j e = absurd (none_some e)
    go true t None i y j e = absurd (none_some e)
    go true t (Some c) i None j e = absurd (none_some e)
    go true t (Some c) i (Some r) j e =
        let cell = ltb-true a (w * h) t in
        let is = same_some e in
        let across = shift_goes (column_way d) w (a % w) c (column_below a w p) i in
        let along = shift_goes (row_way d) h (a / w) r (row_below a w h p cell) j in
        let C : ℕ → Type 0 = λ m. Goes (column_way d) (a % w) m in
        let R : ℕ → Type 0 = λ m. Goes (row_way d) (a / w) m in
        record {
          from = cell;
          to = let below = cell_below c r w h across.1 along.1 in omega arith;
          column = subst C (sym (digits_mod r across.1) ∙ ap (λ m. m % w) is) across.0;
          row = subst R (sym (digits_div r across.1) ∙ ap (λ m. m / w) is) along.0;
        }

pub steps : (w h a d b : ℕ) → 1 ≤ w → Stepped w h a d b → floor_beside w h a d ≡ Some b
steps w h a d b p s =
    ap (λ t. cond t (cell_of w (shifted (column_way d) w (a % w)) (shifted (row_way d) h (a / w))) None) (lt-ltb a (w * h) s.from)
    ∙ ap₂ (cell_of w) (goes_shift (column_way d) w (a % w) (b % w) (column_below b w p) s.column) (goes_shift (row_way d) h (a / w) (b / w) (row_below b w h p s.to) s.row)
    ∙ ap Some (div-add-mod' b w)
