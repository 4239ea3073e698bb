-- What a look does to the records around a cell: neighbours are marked, and pointers to new rock are cut.
use Rattle.std.specs.Prelude.{◌≡◌, ℕ, ◌-◌, ◌/◌, ◌%◌, ◌^◌, Bool, cond, not, ◌&&◌, List, ◌==◌, bit_and}
use Rattle.std.specs.Option.{option_map}
use Rattle.std.specs.List.{slice_get}
use Rattle.model.specs.declared.Mark.{Mark}
use Rattle.model.specs.declared.Mark.TheVariants as mark
use Rattle.model.specs.Lattice.{Lattice, is, test_at, first_direction, rock_bits}
use Rattle.model.specs.Plain.{is_rock_mark}
use Rattle.board.specs.declared.square.Square.{Square}
use Rattle.board.specs.Board.{mark_at, with_mark, with_pointer}

-- whether the bit of a direction is set in a byte: bit d - 1 for direction d
abbrev pub direction_bit : ℕ → ℕ → Bool
direction_bit byte d = byte / 2 ^ (d - 1) % 2 == 1

-- the mark of a felt neighbour
abbrev pub felt_mark_of : Bool → Mark
felt_mark_of rock = cond rock mark.Rock mark.Passable

-- each record of a board is what a function makes of the cell and the record there before
abbrev pub Remade : {X : Type 0} → (ℕ → X → X) → List X → List X → Type 0
Remade f before after = (a : ℕ) → slice_get after a ≡ option_map (f a) (slice_get before a)

-- the first direction from 1 to n that leads from one cell to another, or 0
abbrev pub towards_by : Lattice → ℕ → ℕ → ℕ → ℕ
towards_by l here n a = first_direction n (λ d. is (l.beside here d) a)

module _ (l : Lattice) (here byte : ℕ) where
  -- a record after the neighbours in the directions from 1 to n were marked by the byte
  abbrev pub marked_by : {M : Type 0} → ℕ → ℕ → Square M → Square M
  marked_by n a x = cond (towards_by l here n a == 0) x (with_mark (felt_mark_of (direction_bit byte (towards_by l here n a))) x)

  -- whether a cell is a neighbour in one of the directions from 1 to n, with its bit set
  abbrev pub struck : ℕ → ℕ → Bool
  struck n a = not (towards_by l here n a == 0) && direction_bit byte (towards_by l here n a)

  -- a record after the pointers to such cells were cut
  abbrev pub cut_by : {M : Type 0} → ℕ → ℕ → Square M → Square M
  cut_by n a x = cond (test_at (l.beside a x.pointer) (struck n)) (with_pointer 0 x) x

-- a record after the pointers to one cell were cut
abbrev pub cut_towards : {M : Type 0} → Lattice → ℕ → ℕ → Square M → Square M
cut_towards l b a x = cond (is (l.beside a x.pointer) b) (with_pointer 0 x) x

-- the rock cells of a felt byte that are not yet marked as rock
abbrev pub new_bits_of : {M : Type 0} → Lattice → ℕ → ℕ → List (Square M) → ℕ
new_bits_of l here felt board = bit_and felt (rock_bits l (λ a. not (is_rock_mark (mark_at board a))) here)

-- a record after a look: neighbours are marked by the felt byte, and pointers to the new rock are cut
abbrev pub seen_square : {M : Type 0} → Lattice → (here felt new : ℕ) → ℕ → Square M → Square M
seen_square l here felt new a x = cut_by l here new 8 a (marked_by l here felt 8 a x)
