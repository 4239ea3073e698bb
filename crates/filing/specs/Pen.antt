-- The pen of records: the lines of a record, and what each call answers and writes.
use Rattle.std.specs.Prelude.{◌≡◌, ℕ, ◌+◌, ◌*◌, Bool, cond, ◌&&◌, List, [], ◌∷◌, ◌++◌, length, Ok, Err, codes, Result, nat_le, nat_lt}
use Rattle.texts.specs.declared.fault.HeadingFault.{HeadingFault}
use Rattle.filing.specs.declared.fault.PenFault.{PenFault}
use Rattle.filing.specs.declared.fault.PenFault.TheVariants as fault
use Rattle.texts.specs.declared.heading.Heading.{Heading}
use Rattle.filing.specs.declared.pen.Ending.{Ending}
use Rattle.filing.specs.declared.pen.Ending.TheVariants.{Done, Shut}
use Rattle.filing.specs.declared.pen.Row.{Row}
use Rattle.filing.specs.declared.pen.Pen.{Pen}
use Rattle.filing.specs.declared.pen.Unclosed.{Unclosed}
use Rattle.texts.specs.Headings.{heading_numbers, heading_check}
use Rattle.texts.specs.Fields.{written_line}
use Rattle.filing.specs.Written.{fits, overwritten}

-- ---- the lines of a record

abbrev pub path_line : Heading → List ℕ
path_line h = written_line (codes "PATH") (heading_numbers h)

-- row number, cell, length so far
abbrev pub row_line : ℕ → ℕ → ℕ → List ℕ
row_line number cell far = written_line [] (number ∷ cell ∷ far ∷ [])

abbrev pub ending_word : Ending → List ℕ
ending_word Done = codes "DONE"
ending_word Shut = codes "SHUT"

-- moves, length and rock found
abbrev pub closing_line : Ending → ℕ → ℕ → ℕ → List ℕ
closing_line ending moves far rock = written_line (ending_word ending) (moves ∷ far ∷ rock ∷ [])

-- ---- letting go

-- when a pen may be let go: if nothing was written. So never, for every pen that is handed out stands in an open record, behind its row 0;
-- closing and abandoning take it apart instead
abbrev pub LetGo : Pen → Type 0
LetGo pen = pen.at ≡ 0

-- ---- beginning: the heading as its reader checks it, then 131 bytes

-- the heading's fault, or else what comes after
abbrev pub checked : {X : Type 0} → Result (Unit {0}) HeadingFault → Result X PenFault → Result X PenFault
checked (Err f) next = Err (fault.Heading f)
checked (Ok _) next = next

abbrev pub begin_answer : Heading → List ℕ → Result Pen PenFault
begin_answer h buffer = checked (heading_check h) (cond (fits buffer 0 131) (Ok (record { at = 96; row = 0; length = 0 })) (Err fault.Full))

-- PATH and row 0, the start at length 0
abbrev pub begin_lines : Heading → List ℕ
begin_lines h = path_line h ++ row_line 0 h.start 0

-- ---- a row: there is a number for it, and 35 bytes remain after it

abbrev pub row_answer : Pen → List ℕ → Result (Unit {0}) PenFault
row_answer pen buffer = cond (nat_lt pen.row 4294967295 && fits buffer (pen.at + 31) 35) (Ok tt) (Err fault.Full)

abbrev pub next_line : Pen → ℕ → ℕ → List ℕ
next_line pen cell far = row_line (pen.row + 1) cell far

-- the pen behind its next row
abbrev pub after_row : Pen → ℕ → Pen
after_row pen far = record { at = pen.at + 31; row = pen.row + 1; length = far }

-- ---- closing: with the last row's number and length, in 35 bytes

abbrev pub close_answer : Pen → List ℕ → Result ℕ Unclosed
close_answer pen buffer = cond (fits buffer pen.at 35) (Ok (pen.at + 35)) (Err (record { pen = pen; fault = fault.Full }))

abbrev pub last_line : Ending → Pen → ℕ → List ℕ
last_line ending pen rock = closing_line ending pen.row pen.length rock

-- ---- a whole record

-- the rows that follow the one of this number
abbrev pub rows_text : ℕ → List Row → List ℕ
rows_text number [] = []
rows_text number (row ∷ rows) = row_line (number + 1) row.cell row.length ++ rows_text (number + 1) rows

-- the length at the last row, or this one where there is none
abbrev pub last_length : ℕ → List Row → ℕ
last_length far [] = far
last_length far (row ∷ rows) = last_length row.length rows

abbrev pub record_text : Heading → List Row → Ending → ℕ → List ℕ
record_text h rows ending rock = (begin_lines h ++ rows_text 0 rows) ++ closing_line ending (length rows) (last_length 0 rows) rock

-- the pen that has written row 0 and these rows
abbrev pub pen_behind : List Row → Pen
pen_behind rows = record { at = 96 + 31 * length rows; row = length rows; length = last_length 0 rows }

-- from a buffer as beginning left it, the pen has written these rows
pub record Penned (rows : List Row) (begun : List ℕ) (pen : Pen) (buffer : List ℕ) : Type 0 where
  pub stands : pen ≡ pen_behind rows
  pub bytes : buffer ≡ overwritten begun 96 (rows_text 0 rows)

-- so many rows after row 0 have numbers, and fit a buffer of so many bytes
abbrev pub rows_fit : ℕ → ℕ → Bool
rows_fit rows bytes = nat_le rows 4294967295 && nat_le (131 + 31 * rows) bytes

abbrev pub file_answer : Heading → List Row → List ℕ → Result ℕ PenFault
file_answer h rows buffer = checked (heading_check h) (cond (rows_fit (length rows) (length buffer)) (Ok (131 + 31 * length rows)) (Err fault.Full))
