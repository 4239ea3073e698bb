-- Where a step can lead.
use Rattle.std.specs.Prelude.{ℕ, Bool, cond, Some, None, Option}

-- a neighbour, if there is one and it is not rock
abbrev pub is_free_beside : Option ℕ → (ℕ → Bool) → Option ℕ
is_free_beside None rock = None
is_free_beside (Some b) rock = cond (rock b) None (Some b)
