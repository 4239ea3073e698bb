-- When go is refused, and what it leaves.
use Rattle.std.specs.Prelude.{◌≡◌, ℕ, ◌+◌, min, not, List, length, Some, None, Option}
use Rattle.std.specs.Option.{option_or}
use Rattle.model.specs.Lattice.{Lattice}
use Rattle.model.specs.Ground.{Ground, can_step, lands}
use Rattle.board.specs.declared.square.Square.{Square}
use Rattle.board.specs.Board.{pointer_at}
use Rattle.drive.specs.declared.call.Call.TheVariants.{Go}
use Rattle.drive.specs.declared.drive.Drive.{Drive}
use Rattle.drive.specs.declared.refusal.Refusal.{Refusal}
use Rattle.drive.specs.declared.refusal.Refusal.TheVariants.{StepRefused}
use Rattle.drive.specs.Calls.{refuse_if, call_refusal}
use Rattle.drive.specs.Beginning.{phase_at}

-- a count that stays where it would pass 32 bits
abbrev pub counted : ℕ → ℕ → ℕ
counted n k = min (n + k) 4294967295

module _ {G M : Type 0} (d : Drive G) (board : List (Square M)) where
  -- the direction in which go steps
  abbrev pub onward : ℕ
  onward = pointer_at board d.cell

  -- the first refusal of go, by the guide's lattice, and the carrier's lattice and ground
  abbrev pub go_refusal : Lattice → Lattice → Ground → Option Refusal
  go_refusal guide floor terrain =
      option_or (call_refusal d Go (record { records = length board; entries = None; at = Some terrain.at }) guide.size)
      (refuse_if (not (can_step floor terrain onward)) StepRefused)

  -- the carrier made that step, onto the cell
  pub record Stepped (floor : Lattice) (before after : Ground) (cell : ℕ) : Type 0 where
    pub landed : after ≡ lands floor before onward
    pub onto : cell ≡ after.at

-- a drive after a move onto a cell, at a cost
abbrev pub moved_to : {G : Type 0} → Drive G → (cell cost goal : ℕ) → Drive G
moved_to d cell cost goal = record {
  guide = d.guide;
  void = d.void;
  phase = phase_at cell goal;
  cell = cell;
  moves = counted d.moves 1;
  length = counted d.length cost;
  found = d.found;
  search = d.search;
}
