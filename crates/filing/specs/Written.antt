-- What a write leaves of a buffer.
use Rattle.std.specs.Prelude.{ℕ, ◌+◌, Bool, cond, List, ◌++◌, length, take, drop, Some, None, Option, nat_le}

-- whether so many bytes fit a buffer from a place on
abbrev pub fits : List ℕ → ℕ → ℕ → Bool
fits buffer at bytes = nat_le (at + bytes) (length buffer)

-- a buffer with these bytes from a place on; every other byte is as it was
unfoldable pub overwritten : List ℕ → ℕ → List ℕ → List ℕ
overwritten buffer at bytes = take at buffer ++ (bytes ++ drop (at + length bytes) buffer)

-- the place behind a line that fits from a place on
abbrev pub line_answer : List ℕ → ℕ → List ℕ → Option ℕ
line_answer buffer at bytes = cond (fits buffer at (length bytes)) (Some (at + length bytes)) None
