-- The records of a board, by cell.
use Rattle.std.specs.Prelude.{◌≡◌, ℕ, zero, suc, ◌<◌, cond, List, [], ◌∷◌, Some, None, Option, ◌==◌}
use Rattle.std.specs.List.{slice_get}
use Rattle.std.specs.Option.{option_map}
use Rattle.model.specs.declared.Mark.{Mark}
use Rattle.model.specs.declared.Mark.TheVariants as mark
use Rattle.model.specs.Plain as plain
use Rattle.board.specs.declared.square.Square.{Square}
use Rattle.board.specs.declared.square.Stage.{Stage}
use Rattle.board.specs.declared.square.Stage.TheVariants as stage

-- a list with one element changed
abbrev pub changed : {X : Type 0} → (X → X) → List X → ℕ → List X
changed f [] i = []
changed f (x ∷ xs) zero = f x ∷ xs
changed f (x ∷ xs) (suc i) = x ∷ changed f xs i

module _ {M : Type 0} where
  -- the mark and the pointer of a record; where there is none the cell is unseen and has no pointer
  abbrev pub mark_in : Option (Square M) → Mark
  mark_in None = mark.Unseen
  mark_in (Some x) = x.mark

  abbrev pub pointer_in : Option (Square M) → ℕ
  pointer_in None = 0
  pointer_in (Some x) = x.pointer

  abbrev pub mark_at : List (Square M) → ℕ → Mark
  mark_at board a = mark_in (slice_get board a)

  abbrev pub pointer_at : List (Square M) → ℕ → ℕ
  pointer_at board a = pointer_in (slice_get board a)

  -- the paint of a record, and its stage in the search of a number: idle where the record carries another
  abbrev pub paint_in : Option (Square M) → ℕ
  paint_in None = 0
  paint_in (Some x) = x.paint

  abbrev pub stage_in : ℕ → Option (Square M) → Stage M
  stage_in n None = stage.Idle
  stage_in n (Some x) = cond (x.search == n) x.stage stage.Idle

  abbrev pub paint_at : List (Square M) → ℕ → ℕ
  paint_at board a = paint_in (slice_get board a)

  abbrev pub stage_at : ℕ → List (Square M) → ℕ → Stage M
  stage_at n board a = stage_in n (slice_get board a)

  -- a record with another mark, pointer or paint, or with a stage in the search of a number
  abbrev pub with_mark : Mark → Square M → Square M
  with_mark m x = record { mark = m; pointer = x.pointer; paint = x.paint; search = x.search; stage = x.stage }

  abbrev pub with_pointer : ℕ → Square M → Square M
  with_pointer d x = record { mark = x.mark; pointer = d; paint = x.paint; search = x.search; stage = x.stage }

  abbrev pub with_paint : ℕ → Square M → Square M
  with_paint n x = record { mark = x.mark; pointer = x.pointer; paint = n; search = x.search; stage = x.stage }

  abbrev pub with_stage : ℕ → Stage M → Square M → Square M
  with_stage n t x = record { mark = x.mark; pointer = x.pointer; paint = x.paint; search = n; stage = t }

module _ {M V : Type 0} (value : M → V) where
  -- a stage as the plain drive has it
  abbrev pub stage_shown : Stage M → plain.Stage V
  stage_shown stage.Idle = plain.idle
  stage_shown (stage.Waiting m b) = plain.waiting (value m) b
  stage_shown (stage.Taken m b) = plain.taken (value m) b

  -- a record as a square of the plain drive, in the search of a number: a record that carries another number is idle
  abbrev pub shown_as : ℕ → Square M → plain.Square V
  shown_as n x = record { mark = x.mark; pointer = x.pointer; paint = x.paint; stage = cond (x.search == n) (stage_shown x.stage) plain.idle }

  -- each record below a size is that of a board of the plain drive, in the search of a number
  abbrev pub Shown : (size n : ℕ) → List (Square M) → (ℕ → plain.Square V) → Type 0
  Shown size n board q = (a : ℕ) → a < size → option_map (shown_as n) (slice_get board a) ≡ Some (q a)
