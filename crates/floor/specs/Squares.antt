-- The lattice of some directions on a floor of square cells, and what the ways of the code stand for.
use Rattle.std.specs.Prelude.{ℕ, ◌*◌, ◌≤◌, Bool, cond, ◌&&◌, None}
use Rattle.model.specs.Lattice.{Lattice}
use Rattle.model.specs.Floors.{Way, up, same, down, floor_beside, used, odd, facing}
use Rattle.floor.specs.declared.directions.Way.{Way as CodeWay}
use Rattle.floor.specs.declared.directions.Way.TheVariants.{Up, Same, Down}

-- the lattice of the directions that pass a test
abbrev pub on_floor : (ℕ → Bool) → ℕ → ℕ → Lattice
on_floor uses w h = record {
  size = w * h;
  beside = λ a d. cond (uses d) (floor_beside w h a d) None;
  cost = λ d. cond (used d && odd d) 5 7;
  opposite = λ d. cond (uses d) (facing d) 0;
}

-- a floor is 1 to 64 wide and high
abbrev pub Sized : ℕ → ℕ → Type 0
Sized w h = (1 ≤ w) × (w ≤ 64) × (1 ≤ h) × (h ≤ 64)

-- the way that a way of the code stands for
abbrev pub meant : CodeWay → Way
meant Up = up
meant Same = same
meant Down = down
