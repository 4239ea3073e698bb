-- What the beginning of a search leaves.
use Rattle.std.specs.Prelude.{◌≡◌, ℕ, ◌+◌, min, None, Option}
use Rattle.std.specs.Option.{unwrap_or}
use Rattle.model.specs.Scale.{Scale}
use Rattle.measure.specs.Queue.{Pushed}
use Rattle.board.specs.declared.square.Stage.TheVariants as stage
use Rattle.board.specs.Board.{changed, with_stage}
use Rattle.reconnect.specs.declared.state.Search.{Search}
use Rattle.reconnect.specs.Represents.{Memory}

-- before the first search
abbrev pub unbegun : Search
unbegun = record { number = 0; waiting = 0; walk = None }

-- the number of the next search, which stays where it would pass 16 bits
abbrev pub next_number : ℕ → ℕ
next_number n = min (n + 1) 65535

-- the next search begins at a cell: it alone waits, at zero, with itself as its back, and is the queue's only entry, if the queue has room
pub record Begins {M : Type 0} (scale : Scale) (value : M → scale.Value) (kept : M → ℕ → Type 0) (cell : ℕ) (before after : Memory M) : Type 0 where
  pub zero : M
  pub nought : value zero ≡ scale.none
  pub exact : kept zero 0
  pub number : after.search.number ≡ next_number before.search.number
  pub rests : after.search.walk ≡ None
  pub waits : after.board ≡ changed (with_stage after.search.number (stage.Waiting zero cell)) before.board cell
  pub pushed : Option ℕ
  pub queued : Pushed scale value before.queue 0 (record { value = zero; cell = cell }) after.queue pushed
  pub counted : after.search.waiting ≡ unwrap_or pushed 0
