-- The cells of a search as board and queue hold them.
use Rattle.std.specs.Prelude.{◌≡◌, ℕ, ◌<◌, ◌≤◌, true, List, length, take, Some}
use Rattle.std.specs.List.{slice_get, ContainsAt as Has, AllByRecursion}
use Rattle.model.specs.Scale.{Scale}
use Rattle.model.specs.Plain as plain
use Rattle.model.specs.Promise.{count}
use Rattle.measure.specs.declared.queue.Entry.{Entry}
use Rattle.measure.specs.Queue.{Heap}
use Rattle.board.specs.declared.square.Square.{Square}
use Rattle.board.specs.declared.square.Stage.{Stage}
use Rattle.board.specs.declared.square.Stage.TheVariants as stage
use Rattle.board.specs.Board.{stage_at, Shown}

-- what a stage keeps of its measure is exact, for a chain of at most t steps, and fewer where the cell is taken
abbrev pub Exact : {M : Type 0} → (M → ℕ → Type 0) → ℕ → Stage M → Type 0
Exact kept t stage.Idle = Unit {0}
Exact kept t (stage.Waiting m b) = (k : ℕ) × (k ≤ t) × kept m k
Exact kept t (stage.Taken m b) = (k : ℕ) × (k < t) × kept m k

-- no record below a size carries a later number than that of the search
abbrev pub Numbered : {M : Type 0} → (size number : ℕ) → List (Square M) → Type 0
Numbered {M} size number board = (a : ℕ) (x : Square M) → a < size → slice_get board a ≡ Some x → x.search ≤ number

-- how many cells are taken
abbrev pub taken_cells : {V : Type 0} → ℕ → (ℕ → plain.Square V) → ℕ
taken_cells size q = count size (λ a. plain.is_taken (q a).stage)

module _ {M : Type 0} (scale : Scale) (value : M → scale.Value) where
  -- an entry of the queue: its cell waits, with at most the measure of the entry, or was taken, so that the entry is outdated
  abbrev pub Due : plain.Stage scale.Value → scale.Value → Type 0
  Due plain.idle v = ⊥
  Due (plain.waiting u b) v = scale.at_most u v ≡ true
  Due (plain.taken u b) v = Unit {0}

  abbrev pub DueAt : ℕ → (ℕ → plain.Stage scale.Value) → Entry M → Type 0
  DueAt size stages e = (e.cell < size) × Due (stages e.cell) (value e.value)

  -- the first entries of the queue are a heap of such entries, and each waiting cell is among them with its measure
  pub record Queued (size : ℕ) (stages : ℕ → plain.Stage scale.Value) (queue : List (Entry M)) (n : ℕ) : Type 0 where
    pub room : n ≤ length queue
    pub heap : Heap scale value queue n
    pub due : AllByRecursion (DueAt size stages) (take n queue)
    pub waiting :
        (a : ℕ) (v : scale.Value) (b : ℕ) → a < size → stages a ≡ plain.waiting v b →
        (e : Entry M) × Has (take n queue) e × (e.cell ≡ a) × (value e.value ≡ v)

  -- board and queue hold the cells of the search of a number: each record is that of its cell, and exact, and the queue has the waiting cells
  pub record Frontier (kept : M → ℕ → Type 0) (size number : ℕ) (board : List (Square M)) (queue : List (Entry M)) (n : ℕ) (q : ℕ → plain.Square scale.Value) : Type 0 where
    pub shown : Shown value size number board q
    pub exact : (a : ℕ) → a < size → Exact kept (taken_cells size q) (stage_at number board a)
    pub queued : Queued size (λ a. (q a).stage) queue n
