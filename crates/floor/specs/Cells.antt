-- Columns and rows of the cells of a floor that is w wide and h high.
use Rattle.std.specs.Prelude.{◌≡◌, ℕ, suc, ◌+◌, ◌*◌, ◌/◌, ◌%◌, ◌<◌, ◌≤◌}
use Rattle.std.proofs.Common.{sym, ◌∙◌, ap₂, mul_comm, suc-mul, mul-le-mul_right, mod-lt, div-add-mod', div-lt_iff_lt-mul, arith}

-- a cell's column and row are those of the floor
pub column_below : (a w : ℕ) → 1 ≤ w → a % w < w
column_below a w p = mod-lt a (omega arith)

pub row_below : (a w h : ℕ) → 1 ≤ w → a < w * h → a / w < h
row_below a w h p l =
    let turn = mul_comm w h in
    let l : a < h * w = omega arith in
    (div-lt_iff_lt-mul {k = w} {x = a} {y = h} (omega arith)).1 l

-- a column and a row of the floor have a cell of it
pub cell_below : (c r w h : ℕ) → c < w → r < h → r * w + c < w * h
cell_below c r w h k l =
    let turn = mul_comm w h in
    let more = suc-mul r w in
    let most : suc r * w ≤ h * w = mul-le-mul_right w (omega arith) in
    omega arith

-- a cell is known by its column and row
pub same_cell : (a b w : ℕ) → a % w ≡ b % w → a / w ≡ b / w → a ≡ b
same_cell a b w c r = sym (div-add-mod' a w) ∙ ap₂ (λ x y. x * w + y) r c ∙ div-add-mod' b w
