-- What begin leaves is the memory of the fresh plain drive.
use Rattle.std.proofs.Common.{◌≡◌, ℕ, ◌+◌, ◌*◌, ◌<◌, ◌≤◌, List, length, Some, None, sym, refl, ap, ◌∙◌, subst, arith}
use Rattle.std.specs.Option.{option_map}
use Rattle.std.specs.List.{slice_get}
use Rattle.std.proofs.lemmas.Option.{same_Some}
use Rattle.model.specs.Plain.{World, fresh}
use Rattle.model.specs.Promise.{Fit}
use Rattle.model.proofs.Reachable.{reached_fresh}
use Rattle.measure.specs.declared.queue.Entry.{Entry}
use Rattle.board.specs.declared.square.Square.{Square}
use Rattle.board.specs.Board.{shown_as}
use Rattle.reconnect.specs.Represents.{Represents}
use Rattle.drive.specs.declared.drive.Drive.{Drive}
use Rattle.drive.specs.Beginning.{begun, Laid, Stands}
use Rattle.drive.specs.Owning.{Own}
use Rattle.drive.proofs.Owning.{not_searching}

module _ (w : World) {G M : Type 0} (value : M → w.scale.Value) (guide : G) {before board : List (Square M)} (laid : Laid w.lattice w.guide w.start w.lattice.size before board) where
  abbrev d : Drive G
  d = begun guide None w.start w.guide.goal

  shown : (a : ℕ) → a < w.lattice.size → option_map (shown_as value 0) (slice_get board a) ≡ Some ((fresh w).squares a)
  unfolding fresh
  shown a h = ap (option_map (shown_as value 0)) (laid.fresh a h)

  pub begun_stands : Stands w value d board (fresh w)
  unfolding fresh
  begun_stands = record { phase = refl; cell = refl; moves = refl; length = refl; found = refl; searches = refl; resting = refl; squares = shown }

  module _ (kept : M → ℕ → Type 0) {queue : List (Entry M)} (entries : 8 * w.lattice.size + 1 ≤ length queue) where
    memory : Represents w value kept (record { search = d.search; board = board; queue = queue }) (fresh w)
    unfolding fresh
    memory = record {
      number = refl;
      walk = refl;
      shown = shown;
      numbered = λ a x h e. subst (λ y. y.search ≤ 0) (same_Some _ _ (sym (laid.fresh a h) ∙ e)) (omega arith);
      room = entries;
      frontier = λ p. absurd (not_searching w.start w.guide.goal p);
      few = λ p. absurd (not_searching w.start w.guide.goal p);
    }

    pub begun_owns : Fit w → w.lattice.size ≤ length board → Own w value kept (record { drive = d; board = board; queue = queue; terrain = record { rock = w.rock; at = w.start } }) (fresh w) 0
    unfolding fresh
    begun_owns fit records = record {
      fit = fit;
      reached = reached_fresh w;
      rock = refl;
      at = refl;
      records = records;
      memory = memory;
      begun = refl;
      phase = refl;
      cell = refl;
      moves = refl;
      length = refl;
      found = refl;
    }
