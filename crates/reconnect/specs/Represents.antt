-- When the memory of a search stands for a state of the plain drive.
use Rattle.std.specs.Prelude.{◌≡◌, ℕ, ◌+◌, ◌-◌, ◌*◌, ◌≤◌, List, length, Some, None, Option}
use Rattle.model.specs.declared.Phase.TheVariants as phase
use Rattle.model.specs.Plain as plain
use Rattle.model.specs.Plain.{World, State}
use Rattle.measure.specs.declared.queue.Entry.{Entry}
use Rattle.board.specs.declared.square.Square.{Square}
use Rattle.board.specs.Board.{Shown}
use Rattle.reconnect.specs.declared.state.Search.{Search}
use Rattle.reconnect.specs.declared.state.Walk.{Walk}
use Rattle.reconnect.specs.Frontier.{Numbered, taken_cells, Frontier}

-- what a search works on: its own numbers, the board and the queue
pub record Memory (M : Type 0) : Type 0 where
  pub search : Search
  pub board : List (Square M)
  pub queue : List (Entry M)

-- a walk as the plain drive has it
abbrev pub walk_shown : Option Walk → plain.Walk
walk_shown None = plain.resting
walk_shown (Some k) = plain.walking k.taken k.at

-- of so many taken cells, those that have spread: all but the one from which a walk is under way
abbrev pub spread_cells : plain.Walk → ℕ → ℕ
spread_cells plain.resting n = n
spread_cells (plain.walking a b) n = n - 1

-- the memory stands for a state: number, walk and records are the state's, and in a search board and queue hold its cells,
-- with at most eight entries for each cell that has spread, and one
pub record Represents (w : World) {M : Type 0} (value : M → w.scale.Value) (kept : M → ℕ → Type 0) (m : Memory M) (s : State w) : Type 0 where
  pub number : m.search.number ≡ s.searches
  pub walk : walk_shown m.search.walk ≡ s.walk
  pub shown : Shown value w.lattice.size m.search.number m.board s.squares
  pub numbered : Numbered w.lattice.size m.search.number m.board
  pub room : 8 * w.lattice.size + 1 ≤ length m.queue
  pub frontier : s.phase ≡ phase.Searching → Frontier w.scale value kept w.lattice.size m.search.number m.board m.queue m.search.waiting s.squares
  pub few : s.phase ≡ phase.Searching → m.search.waiting ≤ 8 * spread_cells s.walk (taken_cells w.lattice.size s.squares) + 1
