-- The lines of a text. Byte 10 ends a line; what stands behind the last one is a line too, an unended one.
use Rattle.std.specs.Prelude.{ℕ, zero, suc, ◌+◌, min, Bool, false, cond, ◌||◌, List, [], ◌∷◌, length, Some, None, Ok, Err, Option, Result, ◌==◌}
use Rattle.std.specs.Option.{ok_or}
use Rattle.texts.specs.declared.fault.Place.{Place}
use Rattle.texts.specs.declared.fault.TextFault.{TextFault}
use Rattle.texts.specs.declared.fault.TextFault.TheVariants.{Extent}
use Rattle.texts.specs.declared.lines.Line.{Line}

-- the bytes of the first line, without the byte 10
abbrev pub line_of : List ℕ → List ℕ
line_of [] = []
line_of (b ∷ bs) = cond (b == 10) [] (b ∷ line_of bs)

-- whether byte 10 ends it
abbrev pub line_ended : List ℕ → Bool
line_ended [] = false
line_ended (b ∷ bs) = b == 10 || line_ended bs

-- what comes after it
abbrev pub after_line : List ℕ → List ℕ
after_line [] = []
after_line (b ∷ bs) = cond (b == 10) bs (after_line bs)

-- the number of the next line; the last number there is stands for all lines from there on
abbrev pub next_number : ℕ → ℕ
next_number n = min (n + 1) 4294967295

-- a line: its number, its bytes, and whether byte 10 ends it
pub record TextLine : Type 0 where
  pub number : ℕ
  pub bytes : List ℕ
  pub ended : Bool

abbrev pub line_text : Line → TextLine
line_text l = record { number = l.number; bytes = l.bytes.now; ended = l.ended }

-- the first line of a text from line n on: none where no byte is left
abbrev pub first_line : ℕ → List ℕ → Option TextLine
first_line n [] = None
first_line n (b ∷ bs) = Some (record { number = n; bytes = line_of (b ∷ bs); ended = line_ended (b ∷ bs) })

-- a place in a line
abbrev pub in_line : TextLine → ℕ → Place
in_line l c = record { line = l.number; column = c }

-- the first line of a text from line n on, which is due: no text may end before it
abbrev pub due_line : ℕ → List ℕ → Result TextLine TextFault
due_line n t = ok_or (first_line n t) (Extent (record { line = n; column = 1 }))

-- a text that has to end before line n
abbrev pub end_check : ℕ → List ℕ → Result (Unit {0}) TextFault
end_check n [] = Ok tt
end_check n (b ∷ bs) = Err (Extent (record { line = n; column = 1 }))

-- the first lines of a text from line n on, so many at most
abbrev pub lines_up_to : ℕ → ℕ → List ℕ → List TextLine
lines_up_to zero n t = []
lines_up_to (suc k) n [] = []
lines_up_to (suc k) n (b ∷ bs) =
    record { number = n; bytes = line_of (b ∷ bs); ended = line_ended (b ∷ bs) } ∷ lines_up_to k (next_number n) (after_line (b ∷ bs))

-- all lines of a text from line n on; there are no more lines than bytes
abbrev pub lines_of : ℕ → List ℕ → List TextLine
lines_of n t = lines_up_to (length t) n t
