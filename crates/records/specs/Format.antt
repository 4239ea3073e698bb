-- The format of records: which bytes a record is written as, and which records there are.
use Rattle.std.specs.Prelude.{◌≡◌, ℕ, List, [], ◌∷◌, length, Ok}
use Rattle.texts.specs.Fields.{Fit}
use Rattle.texts.specs.Headings.{heading_check}
use Rattle.filing.specs.declared.pen.Row.{Row}
use Rattle.filing.specs.Pen.{last_length, record_text}
use Rattle.records.specs.declared.whole.Record.{Record}
use Rattle.records.specs.Records.{RecordValue, record_of}

-- the numbers of a record's first and of its closing line, which repeats the last row's number and length
abbrev pub summary : RecordValue → Record
summary v = record { heading = v.heading; ending = v.ending; moves = length v.rows; length = last_length 0 v.rows; rock = v.rock }

-- the first line, row 0 at the start, the rows numbered on from there, and the closing line
abbrev pub text_of : RecordValue → List ℕ
text_of v = record_text v.heading v.rows v.ending v.rock

-- the numbers that rows are given
abbrev pub rows_numbers : List Row → List ℕ
rows_numbers [] = []
rows_numbers (row ∷ rows) = row.cell ∷ row.length ∷ rows_numbers rows

-- what a record keeps: its first line passes the check, and each number fits its field, the last row's too
pub record Kept (v : RecordValue) : Type 0 where
  pub known : heading_check v.heading ≡ Ok (tt {0})
  pub numbers : Fit (v.heading.start ∷ v.heading.goal ∷ v.rock ∷ length v.rows ∷ rows_numbers v.rows)

-- a text is accepted as a record exactly if it is the text of that record, and the record keeps these rules
abbrev pub RecordLaw : List ℕ → Type 0
RecordLaw t = (v : RecordValue) → (record_of t ≡ Ok v → (t ≡ text_of v) × Kept v) × (t ≡ text_of v → Kept v → record_of t ≡ Ok v)
