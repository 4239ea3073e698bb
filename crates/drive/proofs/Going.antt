-- A go does what the plain drive's does.
use Rattle.std.proofs.Common.{◌≡◌, ℕ, true, false, length, Some, None, Option, sym, refl, ap, ◌∙◌, arith}
use Rattle.std.specs.List.{slice_get}
use Rattle.std.proofs.lemmas.Bool.{both_ways}
use Rattle.model.specs.declared.Phase.TheVariants as phase
use Rattle.model.specs.Lattice.{Lattice, Guide}
use Rattle.model.specs.Ground.{Ground, can_step, lands}
use Rattle.model.specs.Scale.{Scale}
use Rattle.model.specs.Plain.{World, State, Answer, refused, moved, go, call, answer, step_onto}
use Rattle.model.specs.Promise.{Reached}
use Rattle.model.specs.Worlds.{over}
use Rattle.model.proofs.Basics.Chains.{may}
use Rattle.model.proofs.Reachable.{Sound, reached_sound}
use Rattle.model.proofs.Run.ByGo.{gone_on}
use Rattle.board.specs.Board.{pointer_at}
use Rattle.board.proofs.Showing.{pointer_shown}
use Rattle.reconnect.specs.Represents.{Represents}
use Rattle.drive.specs.declared.call.Call.TheVariants.{Go}
use Rattle.drive.specs.declared.drive.Drive.{Drive}
use Rattle.drive.specs.declared.refusal.Refusal.{Refusal}
use Rattle.drive.specs.Refusals.{refusal_number}
use Rattle.drive.specs.Calls.{phase_refusal, call_refusal}
use Rattle.drive.specs.Beginning.{phase_at}
use Rattle.drive.specs.Going.{moved_to}
use Rattle.drive.specs.Owning.{DriveMemory, Own, calls_after, Agrees}
use Rattle.drive.proofs.Refusing.{go_phase}
use Rattle.drive.proofs.Owning.{not_searching, few, reached_then, agrees_then, own_sound, own_refusal, own_cell, refuses}

-- what go is refused with before the step
abbrev checks : {G M : Type 0} → DriveMemory G M → Lattice → Option Refusal
checks m l = call_refusal m.drive Go (record { records = length m.board; entries = None; at = Some m.terrain.at }) l.size

module _ {w : World} {G M : Type 0} {value : M → w.scale.Value} {kept : M → ℕ → Type 0} {m : DriveMemory G M} {s : State w} {n : ℕ} (own : Own w value kept m s n) where
  abbrev here : ℕ
  here = s.cell

  abbrev d : Drive G
  d = m.drive

  -- the direction in which a go steps
  abbrev onward : ℕ
  onward = (s.squares here).pointer

  sound : Sound w s
  sound = own_sound w value kept m s n own

  by_phase : checks m w.lattice ≡ phase_refusal s.phase Go
  by_phase =
      own_refusal w value kept m s n own Go (record { records = length m.board; entries = None; at = Some m.terrain.at })
      own.records refl (own_cell w value kept m s n own)

  points : pointer_at m.board d.cell ≡ onward
  points = ap (pointer_at m.board) own.cell ∙ pointer_shown value d.search.number (s.squares here) (slice_get m.board here) (own.memory.shown here sound.inside)

  module _ (ready : s.phase ≡ phase.Ready) where
    abbrev to : ℕ
    to = (sound.ready ready).0

    abbrev then : State w
    then = step_onto w s onward to

    -- the step succeeds
    can : can_step w.lattice m.terrain onward ≡ true
    can = rw (own.rock, own.at) (may w.lattice w.rock here onward to (sound.ready ready).1 (sound.ready ready).2)

    lands_at : (lands w.lattice m.terrain onward).at ≡ to
    lands_at = let ahead = (sound.ready ready).1 in grind (arith, can, own.at, ahead)

    go_call : call w s go ≡ (then, moved to)
    unfolding call answer
    go_call = ap (λ p. answer w s p go) ready ∙ gone_on w s to (sound.ready ready).1 (sound.ready ready).2

    memory : Represents w value kept (record { search = d.search; board = m.board; queue = m.queue }) then
    memory = record {
      number = own.memory.number;
      walk = own.memory.walk;
      shown = own.memory.shown;
      numbered = own.memory.numbered;
      room = own.memory.room;
      frontier = λ p. absurd (not_searching to w.guide.goal p);
      few = λ p. absurd (not_searching to w.guide.goal p);
    }

    reached : Reached w then (calls_after go (moved to) n)
    reached = reached_then s n go go_call own.reached

    module _ {direction cell : ℕ} {terrain : Ground} (along : direction ≡ pointer_at m.board d.cell) (landed : terrain ≡ lands w.lattice m.terrain direction) (onto : cell ≡ terrain.at) where
      abbrev left : DriveMemory G M
      left = record { drive = moved_to d cell (w.lattice.cost direction) w.guide.goal; board = m.board; queue = m.queue; terrain = terrain }

      as_pointed : direction ≡ onward
      as_pointed = along ∙ points

      there : terrain ≡ lands w.lattice m.terrain onward
      there = landed ∙ ap (lands w.lattice m.terrain) as_pointed

      on_cell : cell ≡ to
      on_cell = onto ∙ ap (λ g. g.at) there ∙ lands_at

      owned : Own w value kept left then (calls_after go (moved to) n)
      owned =
          let then-few = few w own.fit then (reached_sound w own.fit then (calls_after go (moved to) n) reached) in
          let priced : w.lattice.cost direction ≡ w.lattice.cost onward = ap w.lattice.cost as_pointed in
          record {
            fit = own.fit;
            reached = reached;
            rock = ap (λ g. g.rock) there ∙ own.rock;
            at = sym onto ∙ on_cell;
            records = own.records;
            memory = memory;
            begun = own.begun;
            phase = ap (λ c. phase_at c w.guide.goal) on_cell;
            cell = on_cell;
            moves = omega (arith, own.moves, then-few.moves);
            length = omega (arith, own.length, priced, then-few.length);
            found = own.found;
          }

      go_agrees : (moved cell ≡ (call w s go).1) × Own w value kept left (call w s go).0 (calls_after go (call w s go).1 n)
      go_agrees = agrees_then s n go go_call (ap moved on_cell) owned

-- the call of a go, as its contract has it
module _ {l : Lattice} {aim : Guide} {scale : Scale} {G M : Type 0} {value : M → scale.Value} {kept : M → ℕ → Type 0} {m : DriveMemory G M} where
  pub go_refused : {e : Refusal} → checks m l ≡ Some e → Agrees l aim scale value kept go (refused (refusal_number e)) m m
  go_refused {e} due start s n own = refuses (over l start aim scale) value kept m s n own Go e (sym (by_phase own) ∙ due)

  -- a step that the carrier refuses is not along an own drive's pointer
  pub go_unmoved : {floor : Lattice} {r : Answer} {after : DriveMemory G M} → l ≡ floor → checks m l ≡ None → can_step floor m.terrain (pointer_at m.board m.drive.cell) ≡ false → Agrees l aim scale value kept go r m after
  go_unmoved same ok stays start s n own =
      let ready = go_phase s.phase (sym (by_phase own) ∙ ok) in
      absurd (both_ways _ stays (rw (← same, points own) (can own ready)))

  pub go_accepted : {floor : Lattice} {direction cell cost : ℕ} {after : Ground} {d' : Drive G} →
      l ≡ floor → checks m l ≡ None → direction ≡ pointer_at m.board m.drive.cell → after ≡ lands floor m.terrain direction → cell ≡ after.at →
      cost ≡ l.cost direction → d' ≡ moved_to m.drive cell cost aim.goal →
      Agrees l aim scale value kept go (moved cell) m (record { drive = d'; board = m.board; queue = m.queue; terrain = after })
  go_accepted {direction} same ok along landed onto priced left start s n own =
      rw (left, priced) (go_agrees own (go_phase s.phase (sym (by_phase own) ∙ ok)) along (landed ∙ ap (λ k. lands k m.terrain direction) (sym same)) onto)
