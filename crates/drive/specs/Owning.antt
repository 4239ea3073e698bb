-- When the memory of a drive stands for a state of the plain drive, and when a call of both agrees.
use Rattle.std.specs.Prelude.{◌≡◌, ℕ, suc, ◌≤◌, cond, ◌&&◌, List, length, None}
use Rattle.model.specs.Lattice.{Lattice, Guide}
use Rattle.model.specs.Ground.{Ground}
use Rattle.model.specs.Scale.{Scale}
use Rattle.model.specs.Plain.{World, State, Call, Answer, call}
use Rattle.model.specs.Promise.{Fit, Reached, accepted, acts}
use Rattle.model.specs.Worlds.{over}
use Rattle.measure.specs.declared.queue.Entry.{Entry}
use Rattle.board.specs.declared.square.Square.{Square}
use Rattle.reconnect.specs.Represents.{Represents}
use Rattle.drive.specs.declared.drive.Drive.{Drive}

-- what the calls of a drive work on: the drive, the lent board and queue, and the ground of the carrier
pub record DriveMemory (G M : Type 0) : Type 0 where
  pub drive : Drive G
  pub board : List (Square M)
  pub queue : List (Entry M)
  pub terrain : Ground

-- the memory is that of a new drive after some calls, n of them accepted and not tell, which leave the plain drive in a state:
-- drive and carrier are as the state has them, and board and queue hold its records and its search
pub record Own (w : World) {G M : Type 0} (value : M → w.scale.Value) (kept : M → ℕ → Type 0) (m : DriveMemory G M) (s : State w) (n : ℕ) : Type 0 where
  pub fit : Fit w
  pub reached : Reached w s n
  pub rock : m.terrain.rock ≡ w.rock
  pub at : m.terrain.at ≡ s.cell
  pub records : w.lattice.size ≤ length m.board
  pub memory : Represents w value kept (record { search = m.drive.search; board = m.board; queue = m.queue }) s
  pub begun : m.drive.void ≡ None
  pub phase : m.drive.phase ≡ s.phase
  pub cell : m.drive.cell ≡ s.cell
  pub moves : m.drive.moves ≡ s.moves
  pub length : m.drive.length ≡ s.length
  pub found : m.drive.found ≡ s.found

-- the number of accepted calls after one that was answered so
abbrev pub calls_after : Call → Answer → ℕ → ℕ
calls_after k a n = cond (acts k && accepted a) (suc n) n

-- for every state whose memory a drive owns before a call: the answer is the plain drive's, and after the call it owns the memory of the plain drive's next state
abbrev pub Agrees : (l : Lattice) (aim : Guide) (scale : Scale) {G M : Type 0} (value : M → scale.Value) (kept : M → ℕ → Type 0) → Call → Answer → (before after : DriveMemory G M) → Type 0
Agrees l aim scale value kept k r before after =
    (terrain : Ground) (s : State (over l terrain aim scale)) (n : ℕ) →
    Own (over l terrain aim scale) value kept before s n →
    (r ≡ (call (over l terrain aim scale) s k).1)
    × Own (over l terrain aim scale) value kept after (call (over l terrain aim scale) s k).0 (calls_after k (call (over l terrain aim scale) s k).1 n)
