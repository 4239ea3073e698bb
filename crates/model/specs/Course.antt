-- The course of a drive: the cells that the carrier stepped onto, one after the other.
use Rattle.std.specs.Prelude.{◌≡◌, ℕ, ◌+◌, false, List, [], ◌∷◌, Some}
use Rattle.model.specs.Plain.{World, Answer, refused, felt, spent, joined, shut, moved, told}
use Rattle.model.specs.Promise.{Event}

-- a cell of a course, and the length of the way there
pub record Waypoint : Type 0 where
  pub cell : ℕ
  pub length : ℕ

-- a call that returned a cell adds it to a course, with the length after it, and any other adds nothing
abbrev pub went : Answer → ℕ → List Waypoint → List Waypoint
went (moved c) far rest = record { cell = c; length = far } ∷ rest
went (refused n) far rest = rest
went (felt b n) far rest = rest
went (spent n) far rest = rest
went (joined n x y) far rest = rest
went (shut n) far rest = rest
went (told p c m l f n) far rest = rest

-- the course of some events
unfoldable pub course : (w : World) → List (Event w) → List Waypoint
course w [] = []
course w (e ∷ es) = went e.answer e.after.length (course w es)

-- a course leads from a cell, at a length, to another: each of its cells is a passable neighbour of the one before,
-- and the length grows by the cost of the step
pub data Drives (w : World) : (from far : ℕ) → List Waypoint → (to farther : ℕ) → Type 0 where
  there : {a x : ℕ} → Drives w a x [] a x
  step : {a x b y : ℕ} {rest : List Waypoint} → (d c : ℕ) → w.lattice.beside a d ≡ Some c → w.rock c ≡ false →
      Drives w c (x + w.lattice.cost d) rest b y → Drives w a x (record { cell = c; length = x + w.lattice.cost d } ∷ rest) b y
