-- Reading a record from its first line to its closing line.
use Rattle.std.specs.Prelude.{ℕ, ◌+◌, List, [], ◌∷◌, ◌++◌, length, Ok, Err, Result}
use Rattle.texts.specs.declared.fault.TextFault.{TextFault}
use Rattle.texts.specs.declared.fault.TextFault.TheVariants.{Extent}
use Rattle.texts.specs.declared.heading.Heading.{Heading}
use Rattle.texts.specs.Lines.{TextLine, after_line, next_number, due_line, end_check, in_line, lines_of}
use Rattle.texts.specs.Steps.{◌>>=◌}
use Rattle.filing.specs.declared.pen.Ending.{Ending}
use Rattle.filing.specs.declared.pen.Row.{Row}
use Rattle.filing.specs.Pen.{last_length}
use Rattle.records.specs.declared.fault.RecordFault.{RecordFault}
use Rattle.records.specs.declared.fault.RecordFault.TheVariants.{Text}
use Rattle.records.specs.declared.line.Next.{Next}
use Rattle.records.specs.declared.line.Next.TheVariants as next
use Rattle.records.specs.declared.reader.Reader.{Reader}
use Rattle.records.specs.Reading.{in_text, record_heading, start_row, next_of}

-- ---- one line after another

-- where a reader stands: the first line's numbers, the text that is left with the number of its first line, and the last row's number and length
pub record Standing : Type 0 where
  pub heading : Heading
  pub rest : List ℕ
  pub line : ℕ
  pub row : ℕ
  pub length : ℕ

abbrev pub standing : Reader → Standing
standing r = record { heading = r.heading; rest = r.lines.rest.now; line = r.lines.number; row = r.last.number; length = r.last.length }

-- line 1, and line 2 as row 0
unfoldable pub opened : List ℕ → Result Standing RecordFault
opened t =
    in_text (due_line 1 t) >>= λ first.
    record_heading first >>= λ h.
    in_text (due_line 2 (after_line t)) >>= λ second.
    start_row h second >>= λ _.
    Ok (record { heading = h; rest = after_line (after_line t); line = 3; row = 0; length = 0 })

-- nothing may stand behind a closing line
abbrev pub ended : Next → ℕ → List ℕ → Result Next RecordFault
ended (next.Row row) n t = Ok (next.Row row)
ended (next.End c) n t = in_text (end_check n t) >>= λ _. Ok (next.End c)

-- the next row or the closing line
unfoldable pub item_of : Standing → Result Next RecordFault
item_of s =
    in_text (due_line s.line s.rest) >>= λ l.
    next_of s.row s.length l >>= λ x.
    ended x (next_number s.line) (after_line s.rest)

-- where the reader stands then
abbrev pub moved_on : Standing → Result Next RecordFault → Standing
moved_on s (Ok (next.Row row)) = record { heading = s.heading; rest = after_line s.rest; line = next_number s.line; row = s.row + 1; length = row.length }
moved_on s (Ok (next.End c)) = record { heading = s.heading; rest = after_line s.rest; line = next_number s.line; row = s.row; length = s.length }
moved_on s (Err f) = s

-- ---- a whole record

-- a record: its first line, the rows after row 0, how it ended, and the rock found
pub record RecordValue : Type 0 where
  pub heading : Heading
  pub rows : List Row
  pub ending : Ending
  pub rock : ℕ

-- no line is left
abbrev pub none_left : List TextLine → Result (Unit {0}) TextFault
none_left [] = Ok tt
none_left (l ∷ ls) = Err (Extent (in_line l 1))

-- the lines from line n on, behind row 0 and these rows: one more row each, and at last the closing line
abbrev pub below : Heading → List Row → ℕ → List TextLine → Result RecordValue RecordFault
below h rows n [] = Err (Text (Extent (record { line = n; column = 1 })))
below h rows n (l ∷ ls) =
    next_of (length rows) (last_length 0 rows) l >>= λ x. elim x [
      | next.Row row ↦ below h (rows ++ row ∷ []) (next_number n) ls
      | next.End c ↦ in_text (none_left ls) >>= λ _. Ok (record { heading = h; rows = rows; ending = c.ending; rock = c.rock })
    ]

-- line 1, row 0, and the lines below
unfoldable pub record_of : List ℕ → Result RecordValue RecordFault
record_of t = opened t >>= λ s. below s.heading [] s.line (lines_of s.line s.rest)
