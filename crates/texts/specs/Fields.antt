-- A field: ten columns with a decimal number, right-justified after blanks; and lines of fields.
use Rattle.std.specs.Prelude.{ℕ, ◌+◌, ◌/◌, ◌%◌, ◌^◌, ◌<◌, cond, ◌||◌, List, [], ◌∷◌, ◌++◌, ◌==◌, nat_le}

-- the column of the digit that counts 10 ^ p: the digit, or a blank to the left of the number
abbrev pub column : ℕ → ℕ → ℕ
column n p = cond (nat_le (10 ^ p) n || p == 0) (48 + (n / 10 ^ p) % 10) 32

-- a number below 10 ^ 10 as its ten columns
unfoldable pub field_text : ℕ → List ℕ
field_text n =
    column n 9 ∷ column n 8 ∷ column n 7 ∷ column n 6 ∷ column n 5 ∷ column n 4 ∷ column n 3 ∷ column n 2 ∷ column n 1 ∷ column n 0 ∷ []

-- numbers as fields, one after the other
abbrev pub fields_text : List ℕ → List ℕ
fields_text [] = []
fields_text (n ∷ ns) = field_text n ++ fields_text ns

-- numbers that fields hold: up to 4,294,967,295
abbrev pub Fit : List ℕ → Type 0
Fit [] = Unit {0}
Fit (n ∷ ns) = (n < 2 ^ 32) × Fit ns

-- a line: a word, fields, and byte 10
unfoldable pub written_line : List ℕ → List ℕ → List ℕ
written_line word ns = word ++ (fields_text ns ++ 10 ∷ [])
