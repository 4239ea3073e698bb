-- When a think is refused, and what it does to the search.
use Rattle.std.specs.Prelude.{◌≡◌, ℕ, List, length, Some, None, Option}
use Rattle.model.specs.declared.Phase.{Phase}
use Rattle.model.specs.declared.Phase.TheVariants as phase
use Rattle.model.specs.Lattice.{Lattice, Guide}
use Rattle.model.specs.Ground.{Ground}
use Rattle.model.specs.Scale.{Scale}
use Rattle.model.specs.Plain.{State, thought}
use Rattle.model.specs.Promise.{Fit, Reached}
use Rattle.model.specs.Worlds.{over}
use Rattle.measure.specs.declared.queue.Entry.{Entry}
use Rattle.board.specs.declared.square.Square.{Square}
use Rattle.reconnect.specs.declared.state.Outcome.{Outcome}
use Rattle.reconnect.specs.declared.state.Outcome.TheVariants.{Joined, Shut}
use Rattle.reconnect.specs.Represents.{Memory, Represents}
use Rattle.drive.specs.declared.call.Call.TheVariants.{Think}
use Rattle.drive.specs.declared.drive.Drive.{Drive}
use Rattle.drive.specs.declared.refusal.Refusal.{Refusal}
use Rattle.drive.specs.Answers.{thought_answer}
use Rattle.drive.specs.Calls.{call_refusal}

-- the first refusal of a think, by the board, the queue, the steps and the guide's lattice
abbrev pub think_refusal : {G M : Type 0} → Drive G → List (Square M) → List (Entry M) → ℕ → Lattice → Option Refusal
think_refusal d board queue budget l = call_refusal d (Think budget) (record { records = length board; entries = Some (length queue); at = None }) l.size

-- the phase after a think
abbrev pub phase_after : Phase → Option Outcome → Phase
phase_after p None = p
phase_after p (Some (Joined x y)) = phase.Ready
phase_after p (Some Shut) = phase.Shut

-- in every state of a new drive that searches from a cell, and for which the memory stands: the steps come to what the plain drive's do,
-- and the memory stands for the state after them
abbrev pub ThinksAs : (l : Lattice) (aim : Guide) (scale : Scale) {M : Type 0} (value : M → scale.Value) (kept : M → ℕ → Type 0) → (home budget done : ℕ) → Option Outcome → (before after : Memory M) → Type 0
ThinksAs l aim scale value kept home budget done t before after =
    (terrain : Ground) (s : State (over l terrain aim scale)) (n : ℕ) →
    Fit (over l terrain aim scale) → Reached (over l terrain aim scale) s n → s.phase ≡ phase.Searching → s.cell ≡ home →
    Represents (over l terrain aim scale) value kept before s →
    (thought_answer done t ≡ (thought (over l terrain aim scale) budget 0 s).1)
    × Represents (over l terrain aim scale) value kept after (thought (over l terrain aim scale) budget 0 s).0
