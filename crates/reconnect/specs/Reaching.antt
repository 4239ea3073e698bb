-- What choosing a waiting cell and reaching a neighbour come to.
use Rattle.std.specs.Prelude.{◌≡◌, ℕ, ◌+◌, ◌<◌, ◌≤◌, Bool, true, false, cond, not, List, length, Some, None, Option, ◌≢◌}
use Rattle.model.specs.Scale.{Scale}
use Rattle.model.specs.Plain as plain
use Rattle.model.specs.Plain.{World, Squares, put, is_rock_mark, is_unseen_mark}
use Rattle.measure.specs.declared.queue.Entry.{Entry}
use Rattle.board.specs.declared.square.Square.{Square}
use Rattle.board.specs.declared.square.Stage.{Stage}
use Rattle.board.specs.declared.square.Stage.TheVariants as stage
use Rattle.board.specs.Board.{stage_at, stage_shown}
use Rattle.reconnect.specs.declared.frontier.Chosen.{Chosen}
use Rattle.reconnect.specs.declared.frontier.Taken.{Taken}
use Rattle.reconnect.specs.declared.state.Search.{Search}
use Rattle.reconnect.specs.Frontier.{taken_cells, Queued, Frontier}

-- the back of a stage
abbrev pub back_in : {M : Type 0} → Stage M → ℕ
back_in stage.Idle = 0
back_in (stage.Waiting m b) = b
back_in (stage.Taken m b) = b

-- a search with so many entries in use
abbrev pub with_entries : Search → ℕ → Search
with_entries x n = record { number = x.number; waiting = n; walk = x.walk }

module _ {M : Type 0} (scale : Scale) (value : M → scale.Value) where
  -- whether a measure is earlier than that of a stage, or the cell is idle
  abbrev pub improves : plain.Stage scale.Value → scale.Value → Bool
  improves plain.idle v = true
  improves (plain.waiting u b) v = not (scale.at_most u v)
  improves (plain.taken u b) v = false

  -- the measure of a stage; that of an idle cell is zero
  abbrev pub IsMeasure : (M → ℕ → Type 0) → Stage M → M → Type 0
  IsMeasure kept stage.Idle r = (value r ≡ scale.none) × kept r 0
  IsMeasure kept (stage.Waiting m b) r = r ≡ m
  IsMeasure kept (stage.Taken m b) r = r ≡ m

  -- each stage below a size, in the search of a number, is one of the plain drive
  abbrev pub StagesAs : (size number : ℕ) → List (Square M) → (ℕ → plain.Stage scale.Value) → Type 0
  StagesAs size number board stages = (a : ℕ) → a < size → stage_shown value (stage_at number board a) ≡ stages a

  -- a chosen cell waits as it is said; no waiting cell measures less, and none of a lower number the same; and the queue is that of the others
  pub record Chooses (size number : ℕ) (board : List (Square M)) (stages : ℕ → plain.Stage scale.Value) (queue : List (Entry M)) (n : ℕ) (x : Chosen M) : Type 0 where
    pub inside : x.cell < size
    pub waits : stage_at number board x.cell ≡ stage.Waiting x.measure x.back
    pub least :
        (c : ℕ) (v : scale.Value) (b : ℕ) → c < size → stages c ≡ plain.waiting v b →
        (scale.at_most (value x.measure) v ≡ true) × (scale.at_most v (value x.measure) ≡ true → x.cell ≤ c)
    pub queued : Queued scale value size (put stages x.cell (plain.taken (value x.measure) x.back)) queue n

  -- where none is chosen none waits
  abbrev pub Choice : (size number : ℕ) → List (Square M) → (ℕ → plain.Stage scale.Value) → List (Entry M) → ℕ → Option (Chosen M) → Type 0
  Choice size number board stages queue n None = (a : ℕ) (v : scale.Value) (b : ℕ) → a < size → stages a ≢ plain.waiting v b
  Choice size number board stages queue n (Some x) = Chooses size number board stages queue n x

-- a square that is reached from a taken cell by a chain that measures v; rock is not
abbrev pub reached_square : (w : World) → plain.Square w.scale.Value → w.scale.Value → ℕ → plain.Square w.scale.Value
reached_square w x v a = cond (is_rock_mark x.mark) x (plain.with_stage w x (plain.reached w x.stage v a))

-- the board after a cell was reached from a taken one, by a step of some cost
abbrev pub reached_from : (w : World) {M : Type 0} (value : M → w.scale.Value) → Squares w → Taken M → (cost cell : ℕ) → Squares w
reached_from w value q t cost cell =
    put q cell (reached_square w (q cell) (w.scale.extend (value t.measure) cost (is_unseen_mark (q cell).mark)) t.cell)

-- reaching a cell from a taken one, whose measure is exact for k steps, keeps the cells of the search, and adds at most one entry
abbrev pub Reaches : (w : World) {M : Type 0} (value : M → w.scale.Value) (kept : M → ℕ → Type 0) → Taken M → (cost cell number : ℕ) → (board board' : List (Square M)) (queue queue' : List (Entry M)) (n n' : ℕ) → Type 0
Reaches w value kept t cost cell number board board' queue queue' n n' =
    (q : Squares w) (k : ℕ) → cell < w.lattice.size → w.lattice.size ≤ 4096 → 1 ≤ cost → cost ≤ 7 →
    kept t.measure k → k < taken_cells w.lattice.size q → n < length queue →
    Frontier w.scale value kept w.lattice.size number board queue n q →
    Frontier w.scale value kept w.lattice.size number board' queue' n' (reached_from w value q t cost cell)
    × (n' ≤ n + 1)
