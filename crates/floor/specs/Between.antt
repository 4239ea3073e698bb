-- How far two cells of a floor are apart.
use Rattle.std.specs.Prelude.{ℕ, ◌*◌, ◌/◌, ◌%◌, cond, ◌&&◌, Some, None, Option, nat_lt}
use Rattle.model.specs.Floors.{gap}

-- the differences of columns and of rows; none where one of the numbers is no cell
abbrev pub differences : ℕ → ℕ → ℕ → ℕ → Option (ℕ × ℕ)
differences w h a b = cond (nat_lt a (w * h) && nat_lt b (w * h)) (Some (gap (a % w) (b % w), gap (a / w) (b / w))) None
