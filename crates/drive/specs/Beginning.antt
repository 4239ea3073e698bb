-- What vet answers and begin leaves.
use Rattle.std.specs.Prelude.{◌≡◌, ℕ, ◌<◌, cond, List, drop, Some, None, Ok, Err, Option, Result, ◌==◌, nat_le}
use Rattle.std.specs.Option.{option_map}
use Rattle.std.specs.List.{slice_get}
use Rattle.model.specs.declared.Mark.TheVariants as mark
use Rattle.model.specs.declared.Phase.{Phase}
use Rattle.model.specs.declared.Phase.TheVariants as phase
use Rattle.model.specs.Lattice.{Lattice, Guide, lead}
use Rattle.model.specs.Plain.{World, State, resting}
use Rattle.board.specs.declared.square.Square.{Square}
use Rattle.board.specs.declared.square.Stage.TheVariants as stage
use Rattle.board.specs.Board.{shown_as}
use Rattle.reconnect.specs.Beginning.{unbegun}
use Rattle.drive.specs.declared.drive.Drive.{Drive}
use Rattle.drive.specs.declared.refusal.Refusal.{Refusal}
use Rattle.drive.specs.declared.refusal.Refusal.TheVariants.{GoalOffFloor}
use Rattle.drive.specs.Refusals.{refusal_number}
use Rattle.drive.specs.Calls.{lent_refusal}

-- vet's answer as a number: 0 where it accepts
abbrev pub vetted_number : Result (Unit {0}) Refusal → ℕ
vetted_number (Ok u) = 0
vetted_number (Err e) = refusal_number e

-- why a drive is void: the goal, then the board's records, then the queue's entries
abbrev pub vet_refusal : (size goal records entries : ℕ) → Option Refusal
vet_refusal size goal records entries =
    cond (nat_le size goal) (Some GoalOffFloor) (lent_refusal (record { records = records; entries = Some entries; at = None }) size)

-- the phase of a drive that has come onto a cell
abbrev pub phase_at : (cell goal : ℕ) → Phase
phase_at cell goal = cond (cell == goal) phase.Arrived phase.Unseen

-- a drive that has counted nothing yet
abbrev pub uncounted : {G : Type 0} → G → Option Refusal → Phase → ℕ → Drive G
uncounted guide void p cell = record {
  guide = guide;
  void = void;
  phase = p;
  cell = cell;
  moves = 0;
  length = 0;
  found = 0;
  search = unbegun;
}

-- a drive that begins at a cell, or is void
abbrev pub begun : {G : Type 0} → G → Option Refusal → (start goal : ℕ) → Drive G
begun guide None start goal = uncounted guide None (phase_at start goal) start
begun guide (Some refusal) start goal = uncounted guide (Some refusal) phase.Void 0

-- the record of a cell where a drive begins: the start is marked passable, and the pointer is the lead
abbrev pub fresh_square : {M : Type 0} → Lattice → Guide → ℕ → ℕ → Square M
fresh_square l g start a = record {
  mark = cond (a == start) mark.Passable mark.Unseen;
  pointer = lead l g a;
  paint = 0;
  search = 0;
  stage = stage.Idle;
}

-- the first n records of a board are laid out for a drive that begins, and the others are as they were
pub record Laid {M : Type 0} (l : Lattice) (g : Guide) (start n : ℕ) (before after : List (Square M)) : Type 0 where
  pub fresh : (a : ℕ) → a < n → slice_get after a ≡ Some (fresh_square l g start a)
  pub beyond : drop n after ≡ drop n before

-- a drive and a board stand for a state of the plain drive at rest: its numbers, and the record of each cell
pub record Stands (w : World) {G M : Type 0} (value : M → w.scale.Value) (d : Drive G) (board : List (Square M)) (s : State w) : Type 0 where
  pub phase : d.phase ≡ s.phase
  pub cell : d.cell ≡ s.cell
  pub moves : d.moves ≡ s.moves
  pub length : d.length ≡ s.length
  pub found : d.found ≡ s.found
  pub searches : d.search.number ≡ s.searches
  pub resting : s.walk ≡ resting
  pub squares : (a : ℕ) → a < w.lattice.size → option_map (shown_as value d.search.number) (slice_get board a) ≡ Some (s.squares a)
