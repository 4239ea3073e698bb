-- How a field is read: ten columns, blanks and then a decimal number.
use Rattle.std.specs.Prelude.{◌≡◌, ℕ, ◌+◌, ◌-◌, ◌*◌, ◌^◌, ◌<◌, Bool, cond, ◌&&◌, List, [], ◌∷◌, length, take, drop, Some, None, Option, Result, ◌==◌, nat_le, nat_lt}
use Rattle.std.specs.Option.{ok_or}
use Rattle.texts.specs.declared.fault.TextFault.{TextFault}
use Rattle.texts.specs.declared.fault.TextFault.TheVariants.{Field}
use Rattle.texts.specs.Fields.{field_text}
use Rattle.texts.specs.Lines.{TextLine, in_line}

-- what stands behind the blanks
abbrev pub behind_blanks : List ℕ → List ℕ
behind_blanks [] = []
behind_blanks (b ∷ bs) = cond (b == 32) (behind_blanks bs) (b ∷ bs)

-- a digit, 0 to 9
abbrev pub is_digit : ℕ → Bool
is_digit b = nat_le 48 b && nat_le b 57

-- the number that digits give behind those of the number v; none where a byte is no digit
abbrev pub digits_from : ℕ → List ℕ → Option ℕ
digits_from v [] = Some v
digits_from v (b ∷ bs) = cond (is_digit b) (digits_from (v * 10 + (b - 48)) bs) None

-- at least one digit, and no leading zero but 0 itself
abbrev pub numeral : List ℕ → Option ℕ
numeral [] = None
numeral (b ∷ bs) = cond (b == 48 && nat_lt 0 (length bs)) None (digits_from 0 (b ∷ bs))

-- a number up to a limit
abbrev pub up_to : ℕ → Option ℕ → Option ℕ
up_to most None = None
up_to most (Some n) = cond (nat_le n most) (Some n) None

-- the number in a field
unfoldable pub number_of : List ℕ → Option ℕ
number_of f = cond (length f == 10) (up_to 4294967295 (numeral (behind_blanks f))) None

-- a field that is read as n is what is written for n, and what is written for n is read as n
abbrev pub Reads : List ℕ → Option ℕ → Type 0
Reads f r = (n : ℕ) → (r ≡ Some n → (f ≡ field_text n) × (n < 2 ^ 32)) × (f ≡ field_text n → n < 2 ^ 32 → r ≡ Some n)

-- the field of a line that begins in column c, and its number
abbrev pub field_at : TextLine → ℕ → List ℕ
field_at l c = take 10 (drop (c - 1) l.bytes)

abbrev pub field_number : TextLine → ℕ → Result ℕ TextFault
field_number l c = ok_or (number_of (field_at l c)) (Field (in_line l c))
