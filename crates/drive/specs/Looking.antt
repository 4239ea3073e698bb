-- When a look is refused, and what it leaves.
use Rattle.std.specs.Prelude.{◌≡◌, ℕ, true, false, List, length, Some, None, Option, ◌==◌, count_ones, nat_eq}
use Rattle.model.specs.declared.Phase.{Phase}
use Rattle.model.specs.declared.Phase.TheVariants as phase
use Rattle.model.specs.Lattice.{Lattice}
use Rattle.model.specs.Ground.{Ground}
use Rattle.model.specs.Scale.{Scale}
use Rattle.measure.specs.declared.queue.Entry.{Entry}
use Rattle.measure.specs.Queue.{Added}
use Rattle.board.specs.declared.square.Square.{Square}
use Rattle.board.specs.declared.square.Stage.TheVariants as stage
use Rattle.board.specs.Board.{changed, pointer_at, with_stage}
use Rattle.board.specs.Around.{Remade, new_bits_of, seen_square}
use Rattle.reconnect.specs.declared.state.Search.{Search}
use Rattle.reconnect.specs.Beginning.{next_number}
use Rattle.drive.specs.declared.call.Call.TheVariants.{Look}
use Rattle.drive.specs.declared.drive.Drive.{Drive}
use Rattle.drive.specs.declared.refusal.Refusal.{Refusal}
use Rattle.drive.specs.Calls.{call_refusal}
use Rattle.drive.specs.Going.{counted}

-- the first refusal of a look, by the board, the queue, the guide's lattice and the carrier's ground
abbrev pub look_refusal : {G M : Type 0} → Drive G → List (Square M) → List (Entry M) → Lattice → Ground → Option Refusal
look_refusal d board queue l terrain = call_refusal d Look (record { records = length board; entries = Some (length queue); at = Some terrain.at }) l.size

-- the number of the next search
abbrev pub next_search : ℕ → ℕ
next_search = next_number

-- a drive that found rock, and then, in another phase, is ready or begins a search
abbrev pub found_more : {G : Type 0} → Drive G → ℕ → Drive G
found_more d new = record {
  guide = d.guide;
  void = d.void;
  phase = d.phase;
  cell = d.cell;
  moves = d.moves;
  length = d.length;
  found = counted d.found new;
  search = d.search;
}

abbrev pub turned : {G : Type 0} → Drive G → Phase → Search → Drive G
turned d p to = record {
  guide = d.guide;
  void = d.void;
  phase = p;
  cell = d.cell;
  moves = d.moves;
  length = d.length;
  found = d.found;
  search = to;
}

abbrev pub made_ready : {G : Type 0} → Drive G → Drive G
made_ready d = turned d phase.Ready d.search

abbrev pub made_searching : {G : Type 0} → Drive G → Drive G
made_searching d = turned d phase.Searching (record { number = next_search d.search.number; waiting = 1; walk = None })

-- a search begins at a cell: it alone waits, at an exact zero, with itself as its back, and is the queue's only entry
pub record Begins {M : Type 0} (scale : Scale) (value : M → scale.Value) (kept : M → ℕ → Type 0) (cell number : ℕ) (board board' : List (Square M)) (queue queue' : List (Entry M)) : Type 0 where
  pub zero : M
  pub nought : value zero ≡ scale.none
  pub exact : kept zero 0
  pub waits : board' ≡ changed (with_stage number (stage.Waiting zero cell)) board cell
  pub queued : Added scale value queue 0 (record { value = zero; cell = cell }) queue' 1

-- a drive with a pointer at the carrier's cell is ready, and one without begins a search there
pub record GoesOn {G M : Type 0} (scale : Scale) (value : M → scale.Value) (kept : M → ℕ → Type 0) (d d' : Drive G) (board board' : List (Square M)) (queue queue' : List (Entry M)) : Type 0 where
  pub ready : nat_eq (pointer_at board d.cell) 0 ≡ false → (d' ≡ made_ready d) × (board' ≡ board) × (queue' ≡ queue)
  pub searching :
      (pointer_at board d.cell == 0) ≡ true →
      (d' ≡ made_searching d) × Begins scale value kept d.cell (next_search d.search.number) board board' queue queue'

-- what a look leaves, by the felt byte: the count of new rock, each record as seen, and then the drive goes on
pub record Looked {G M : Type 0} (scale : Scale) (value : M → scale.Value) (kept : M → ℕ → Type 0) (l : Lattice) (felt : ℕ) (d d' : Drive G) (board board' : List (Square M)) (queue queue' : List (Entry M)) (count : ℕ) : Type 0 where
  pub new : count ≡ count_ones (new_bits_of l d.cell felt board)
  pub seen : List (Square M)
  pub remade : Remade (seen_square l d.cell felt (new_bits_of l d.cell felt board)) board seen
  pub goes_on : GoesOn scale value kept (found_more d count) d' seen board' queue queue'
