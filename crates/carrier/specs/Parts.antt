-- The first cells of a lattice, as a lattice of their own.
use Rattle.std.specs.Prelude.{ℕ, cond, ◌&&◌, Some, None, Option, ◌==◌, nat_lt}
use Rattle.model.specs.Lattice.{Lattice, Guide}

-- an answer, if it is below n
abbrev pub below : ℕ → Option ℕ → Option ℕ
below n None = None
below n (Some b) = cond (nat_lt b n) (Some b) None

-- the first n cells of a lattice: what leads from or to another cell is left out
abbrev pub part_of : Lattice → ℕ → Lattice
part_of l n = record {
  size = n;
  beside = λ a d. cond (nat_lt a n) (below n (l.beside a d)) None;
  cost = l.cost;
  opposite = l.opposite;
}

-- a guide that knows no distance but the goal's, among the first n cells
abbrev pub goal_alone : ℕ → ℕ → Guide
goal_alone n goal = record { goal = goal; distance = λ a. cond (a == goal && nat_lt a n) (Some 0) None }

-- the guide on the first n of some cells: that of all of them, if they are all
abbrev pub part_guide : ℕ → Guide → ℕ → ℕ → Guide
part_guide size g n goal = cond (n == size) g (goal_alone n goal)
