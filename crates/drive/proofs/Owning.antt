-- What a drive that owns its memory knows, and the calls that it refuses.
use Rattle.std.proofs.Common.{◌≡◌, ℕ, suc, ◌+◌, ◌-◌, ◌*◌, ◌≤◌, false, cond, not, length, Some, sym, refl, ap, ◌∙◌, subst, mul-le-mul, arith, le-ltb, eq-eqb}
use mathlib.Core.Bool.{and-false}
use Rattle.model.specs.declared.Phase.TheVariants as phase
use Rattle.model.specs.Plain as plain
use Rattle.model.specs.Plain.{World, State, Answer, refused, call}
use Rattle.model.specs.Promise.{Fit, Reached, passable, acts}
use Rattle.model.proofs.Reachable.{Sound, reached_call, reached_sound, passable_few}
use Rattle.drive.specs.declared.call.Call.{Call}
use Rattle.drive.specs.declared.call.Lent.{Lent}
use Rattle.drive.specs.declared.refusal.Refusal.{Refusal}
use Rattle.drive.specs.Refusals.{refusal_number}
use Rattle.drive.specs.Calls.{asked, phase_refusal, queue_is_short, elsewhere, call_refusal}
use Rattle.drive.specs.Beginning.{phase_at}
use Rattle.drive.specs.Owning.{DriveMemory, Own, calls_after}
use Rattle.drive.proofs.Refusing.{by_phase_alone, plain_refuses}

-- a drive that has come onto a cell does not search
pub not_searching : (cell goal : ℕ) → phase_at cell goal ≡ phase.Searching → ⊥
not_searching cell goal p = grind arith

-- the counts of a drive are small: at most 4,096 rock cells are found, and at most 4,097 × 4,096 moves made, at a cost of up to 7
pub record Few (w : World) (s : State w) : Type 0 where
  pub found : s.found ≤ 4096
  pub searches : s.searches ≤ 4097
  pub moves : s.moves ≤ 16781312
  pub length : s.length ≤ 117469184

pub few : (w : World) → Fit w → (s : State w) → Sound w s → Few w s
few w fit s sound =
    let cells : s.found + 1 ≤ 4097 = omega (arith, sound.few_found, fit.lattice.small) in
    let open-cells : passable w - 1 ≤ 4096 = omega (arith, passable_few w, fit.lattice.small) in
    let most : (s.found + 1) * (passable w - 1) ≤ 4097 * 4096 = mul-le-mul cells open-cells in
    let moves : s.moves ≤ 16781312 = omega (arith, sound.few_moves) in
    record { found = omega arith; searches = omega (arith, sound.few_searches); moves = moves; length = omega (arith, sound.short) }

-- the plain drive's next state and answer, from what a call comes to
module _ {w : World} (s : State w) (n : ℕ) (k : plain.Call) {r : State w × Answer} (same : call w s k ≡ r) where
  pub reached_then : Reached w s n → Reached w r.0 (calls_after k r.1 n)
  reached_then h = rw (← same) (reached_call w s n h k)

  pub agrees_then : {G M : Type 0} {value : M → w.scale.Value} {kept : M → ℕ → Type 0} {after : DriveMemory G M} {a : Answer} → a ≡ r.1 → Own w value kept after r.0 (calls_after k r.1 n) →
      (a ≡ (call w s k).1) × Own w value kept after (call w s k).0 (calls_after k (call w s k).1 n)
  agrees_then answers own = rw same (answers, own)

module _ (w : World) {G M : Type 0} (value : M → w.scale.Value) (kept : M → ℕ → Type 0) (m : DriveMemory G M) (s : State w) (n : ℕ) (own : Own w value kept m s n) where
  pub own_sound : Sound w s
  own_sound = reached_sound w own.fit s n own.reached

  -- of an own drive, with its own memory lent, a call is refused by its phase alone
  pub own_refusal : (k : Call) (lent : Lent) → w.lattice.size ≤ lent.records → queue_is_short lent.entries w.lattice.size ≡ false → elsewhere lent.at m.drive.cell ≡ false →
      call_refusal m.drive k lent w.lattice.size ≡ phase_refusal s.phase k
  own_refusal k lent records entries here =
      by_phase_alone m.drive k lent w.lattice.size own.begun records entries here ∙ ap (λ p. phase_refusal p k) own.phase

  pub own_queue : queue_is_short (Some (length m.queue)) w.lattice.size ≡ false
  own_queue = le-ltb (length m.queue) (8 * w.lattice.size + 1) own.memory.room

  pub own_cell : elsewhere (Some m.terrain.at) m.drive.cell ≡ false
  own_cell = ap not (eq-eqb m.terrain.at m.drive.cell (own.at ∙ sym own.cell))

  -- then the plain drive refuses it too, and all stays as it is
  pub refuses : (k : Call) (e : Refusal) → phase_refusal s.phase k ≡ Some e →
      (refused (refusal_number e) ≡ (call w s (asked k)).1) × Own w value kept m (call w s (asked k)).0 (calls_after (asked k) (call w s (asked k)).1 n)
  refuses k e due =
      let count : calls_after (asked k) (refused (refusal_number e)) n ≡ n = ap (λ t. cond t (suc n) n) (and-false (acts (asked k))) in
      agrees_then s n (asked k) (plain_refuses w s k e own_sound.not_void due) refl (subst (Own w value kept m s) (sym count) own)
