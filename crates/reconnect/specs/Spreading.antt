-- What spreading a taken cell comes to.
use Rattle.std.specs.Prelude.{◌≡◌, ℕ, ◌+◌, ◌<◌, ◌≤◌, true, List, length}
use Rattle.model.specs.Ground.{Ground}
use Rattle.model.specs.Lattice.{Lattice, Guide}
use Rattle.model.specs.Scale.{Scale}
use Rattle.model.specs.Plain.{Squares, is_taken, spread}
use Rattle.model.specs.Worlds.{over}
use Rattle.measure.specs.declared.queue.Entry.{Entry}
use Rattle.board.specs.declared.square.Square.{Square}
use Rattle.reconnect.specs.Frontier.{Frontier}

-- a taken cell spreads as the plain drive's does, and adds at most eight entries
abbrev pub Spreads : (l : Lattice) (scale : Scale) {M : Type 0} (value : M → scale.Value) (kept : M → ℕ → Type 0) (taken number : ℕ) → (board board' : List (Square M)) (queue queue' : List (Entry M)) (n n' : ℕ) → Type 0
Spreads l scale value kept a number board board' queue queue' n n' =
    (terrain : Ground) (aim : Guide) (q : Squares (over l terrain aim scale)) →
    a < l.size → is_taken (q a).stage ≡ true → n + 8 ≤ length queue →
    Frontier scale value kept l.size number board queue n q →
    Frontier scale value kept l.size number board' queue' n' (spread (over l terrain aim scale) q a) × (n' ≤ n + 8)
