-- The pointers along a way back.
use Rattle.std.specs.Prelude.{◌≡◌, ℕ, ◌<◌, true, List, ◌≢◌}
use Rattle.model.specs.Ground.{Ground}
use Rattle.model.specs.Lattice.{Lattice, Guide}
use Rattle.model.specs.Scale.{Scale}
use Rattle.model.specs.Plain.{World, Squares, from, is_taken, retraced}
use Rattle.model.specs.Worlds.{over}
use Rattle.board.specs.declared.square.Square.{Square}
use Rattle.board.specs.Board.{Shown}

-- the backs of taken cells, but for that of `home`, are taken, and taken cells are cells
pub record Homewards (w : World) (home : ℕ) (q : Squares w) : Type 0 where
  pub inside : (a : ℕ) → is_taken (q a).stage ≡ true → a < w.lattice.size
  pub back : (a : ℕ) → is_taken (q a).stage ≡ true → (a ≢ home) → is_taken (q (from w (q a).stage)).stage ≡ true

-- the pointers from `home` to a taken cell are set as the plain drive sets them
abbrev pub Retraces : (l : Lattice) (scale : Scale) {M : Type 0} (value : M → scale.Value) (home taken number : ℕ) (before after : List (Square M)) → Type 0
Retraces l scale value home a number before after =
    (terrain : Ground) (aim : Guide) (q : Squares (over l terrain aim scale)) →
    Homewards (over l terrain aim scale) home q → is_taken (q a).stage ≡ true →
    Shown value l.size number before q →
    Shown value l.size number after (retraced (over l terrain aim scale) l.size home a q)
