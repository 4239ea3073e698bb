-- How the lines of a record are read, each on its own.
use Rattle.std.specs.Prelude.{ℕ, ◌+◌, cond, List, [], ◌∷◌, Some, None, Ok, Err, codes, Option, Result, ◌==◌}
use Rattle.std.specs.Result.{result_map_both}
use Rattle.texts.specs.declared.fault.TextFault.{TextFault}
use Rattle.texts.specs.declared.fault.HeadingFault.{HeadingFault}
use Rattle.texts.specs.declared.heading.Heading.{Heading}
use Rattle.texts.specs.FirstLines.{heading_of}
use Rattle.texts.specs.Headings.{heading_check}
use Rattle.texts.specs.Lines.{TextLine, in_line}
use Rattle.texts.specs.Numerals.{field_number}
use Rattle.texts.specs.Steps.{◌>>=◌}
use Rattle.texts.specs.Words.{length_check, word_check}
use Rattle.filing.specs.declared.pen.Ending.{Ending}
use Rattle.filing.specs.declared.pen.Ending.TheVariants.{Done, Shut}
use Rattle.filing.specs.declared.pen.Row.{Row}
use Rattle.filing.specs.Pen.{ending_word}
use Rattle.records.specs.declared.fault.RecordFault.{RecordFault}
use Rattle.records.specs.declared.fault.RecordFault.TheVariants as fault
use Rattle.records.specs.declared.line.Next.{Next}
use Rattle.records.specs.declared.line.Next.TheVariants as next

-- a fault of the text, or of its first line, as one of the record
abbrev pub in_text : {A : Type 0} → Result A TextFault → Result A RecordFault
in_text r = result_map_both (λ x. x) fault.Text r

abbrev pub in_heading : {A : Type 0} → Result A HeadingFault → Result A RecordFault
in_heading r = result_map_both (λ x. x) fault.Heading r

-- the first line: `PATH` and six fields that make a heading
unfoldable pub record_heading : TextLine → Result Heading RecordFault
record_heading l = in_text (heading_of l (codes "PATH")) >>= λ h. in_heading (heading_check h) >>= λ _. Ok h

-- three fields from column c on
unfoldable pub three_fields : TextLine → ℕ → Result (ℕ × ℕ × ℕ) TextFault
three_fields l c = field_number l c >>= λ a. field_number l (c + 10) >>= λ b. field_number l (c + 20) >>= λ d. Ok (a, b, d)

-- a row: number, cell and length on 30 characters
unfoldable pub row_fields_of : TextLine → Result (ℕ × ℕ × ℕ) TextFault
row_fields_of l = length_check l 30 >>= λ _. three_fields l 1

-- the number in column c has to be this one
abbrev pub equal_check : TextLine → ℕ → ℕ → ℕ → Result (Unit {0}) RecordFault
equal_check l c n right = cond (n == right) (Ok tt) (Err (fault.Unequal (in_line l c)))

-- row 0: number 0, the start, length 0
unfoldable pub start_row : Heading → TextLine → Result (Unit {0}) RecordFault
start_row h l =
    in_text (row_fields_of l) >>= λ row.
    equal_check l 1 row.0 0 >>= λ _.
    equal_check l 11 row.1 h.start >>= λ _.
    equal_check l 21 row.2 0

-- the row after the one of this number
unfoldable pub next_row : ℕ → TextLine → Result Row RecordFault
next_row number l = in_text (row_fields_of l) >>= λ row. equal_check l 1 row.0 (number + 1) >>= λ _. Ok (record { cell = row.1; length = row.2 })

-- a closing line repeats the last row's number and length, and adds the rock found
unfoldable pub closing_line_of : Ending → ℕ → ℕ → TextLine → Result ℕ RecordFault
closing_line_of ending number far l =
    in_text (word_check l (ending_word ending) 3 >>= λ _. three_fields l 5) >>= λ closing.
    equal_check l 5 closing.0 number >>= λ _.
    equal_check l 15 closing.1 far >>= λ _.
    Ok closing.2

-- the first byte alone decides: D announces DONE, S announces SHUT, and anything else is a row
abbrev pub announced : List ℕ → Option Ending
announced [] = None
announced (b ∷ bs) = cond (b == 68) (Some Done) (cond (b == 83) (Some Shut) None)

-- a line below row 0, behind the row of this number and length
abbrev pub as_announced : Option Ending → ℕ → ℕ → TextLine → Result Next RecordFault
as_announced None number far l = next_row number l >>= λ row. Ok (next.Row row)
as_announced (Some ending) number far l = closing_line_of ending number far l >>= λ rock. Ok (next.End (record { ending = ending; rock = rock }))

abbrev pub next_of : ℕ → ℕ → TextLine → Result Next RecordFault
next_of number far l = as_announced (announced l.bytes) number far l
