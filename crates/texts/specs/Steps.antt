-- Checks one after another: the first fault ends them.
use Rattle.std.specs.Prelude.{Ok, Err, Result}

infixr 10 ◌>>=◌
-- what a check gives goes to those after it
abbrev pub ◌>>=◌ : {A B E : Type 0} → Result A E → (A → Result B E) → Result B E
◌>>=◌ (Ok x) f = f x
◌>>=◌ (Err e) f = Err e
