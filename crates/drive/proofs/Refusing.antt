-- When a call is refused, and that the plain drive refuses it too.
use Rattle.std.proofs.Common.{◌≡◌, ℕ, zero, suc, ◌<◌, ◌≤◌, false, Some, None, Ok, Err, Option, refl, arith, le-ltb}
use Rattle.std.specs.Option.{option_or}
use Rattle.std.proofs.lemmas.Grind.{common_steps}
use Rattle.model.specs.declared.Phase.{Phase}
use Rattle.model.specs.declared.Phase.TheVariants as phase
use Rattle.model.specs.Plain as plain
use Rattle.model.specs.Plain.{World, State, call, answer}
use Rattle.drive.specs.declared.call.Call.{Call}
use Rattle.drive.specs.declared.call.Call.TheVariants.{Look, Think, Go}
use Rattle.drive.specs.declared.call.Lent.{Lent}
use Rattle.drive.specs.declared.drive.Drive.{Drive}
use Rattle.drive.specs.declared.refusal.Refusal.{Refusal}
use Rattle.drive.specs.Refusals.{refusal_number, allowed}
use Rattle.drive.specs.Calls.{asked, phase_refusal, queue_is_short, elsewhere, call_refusal}

-- an answer without a value tells whether there is a refusal, and which
pub refused_is : (o : Option Refusal) (e : Refusal) → Err e ≡ allowed o → o ≡ Some e
refused_is o e q = grind arith

pub allowed_is : (o : Option Refusal) → Ok tt ≡ allowed o → o ≡ None
allowed_is o q = grind arith

or_none : (o : Option Refusal) → option_or o None ≡ o
or_none o = grind arith

module _ {G : Type 0} (d : Drive G) (k : Call) (lent : Lent) (size : ℕ) where
  -- with enough lent and a carrier where the drive left it, the phase alone decides
  pub by_phase_alone : d.void ≡ None → size ≤ lent.records → queue_is_short lent.entries size ≡ false → elsewhere lent.at d.cell ≡ false → call_refusal d k lent size ≡ phase_refusal d.phase k
  by_phase_alone begun records entries here = rw (begun, le-ltb lent.records size records, entries, here) (or_none (phase_refusal d.phase k))

  -- an accepted call has a record for each cell
  pub enough : (cells : ℕ) → cells ≡ size → Ok tt ≡ allowed (call_refusal d k lent size) → cells ≤ lent.records
  enough cells e ok = grind (arith, common_steps)

  -- a call that is lent a queue is accepted only if the queue has room
  pub has_room : (entries : ℕ) → lent.entries ≡ Some entries → Ok tt ≡ allowed (call_refusal d k lent size) → 0 < entries
  has_room entries e ok = grind (arith, common_steps)

-- a call that is not of its phase, or a think of no steps: the plain drive refuses it with the same number, and stays as it is
module _ (w : World) (s : State w) where
  abbrev Refused : plain.State w × plain.Answer → Refusal → Type 0
  Refused r e = r ≡ (s, plain.refused (refusal_number e))

  pub plain_refuses : (k : Call) (e : Refusal) → (s.phase ≡ phase.Void → ⊥) → phase_refusal s.phase k ≡ Some e → Refused (call w s (asked k)) e
  unfolding call answer
  plain_refuses k e v q = grind arith

-- the phase of an accepted look, go and think
pub look_phase : (p : Phase) → phase_refusal p Look ≡ None → p ≡ phase.Unseen
look_phase p q = grind arith

pub go_phase : (p : Phase) → phase_refusal p Go ≡ None → p ≡ phase.Ready
go_phase p q = grind arith

pub think_phase : (p : Phase) (n : ℕ) → phase_refusal p (Think n) ≡ None → p ≡ phase.Searching
think_phase p n q = grind arith

-- it has one or more steps
pub some_steps : (p : Phase) (n : ℕ) → phase_refusal p (Think n) ≡ None → (m : ℕ) × (n ≡ suc m)
some_steps p zero q = grind arith
some_steps p (suc m) q = (m, refl)
