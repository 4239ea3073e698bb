-- The calls of a drive as the plain drive has them, and when a call is refused, and with what.
use Rattle.std.specs.Prelude.{ℕ, ◌+◌, ◌*◌, Bool, false, cond, not, Some, None, Option, ◌==◌, nat_lt}
use Rattle.std.specs.Option.{option_or}
use Rattle.model.specs.declared.Phase.{Phase}
use Rattle.model.specs.declared.Phase.TheVariants as phase
use Rattle.model.specs.Plain as plain
use Rattle.model.specs.Plain.{phase_number}
use Rattle.drive.specs.declared.call.Call.{Call}
use Rattle.drive.specs.declared.call.Call.TheVariants.{Look, Think, Go, Tell}
use Rattle.drive.specs.declared.call.Lent.{Lent}
use Rattle.drive.specs.declared.drive.Drive.{Drive}
use Rattle.drive.specs.declared.refusal.Refusal.{Refusal}
use Rattle.drive.specs.declared.refusal.Refusal.TheVariants.{ShortBoard, ShortQueue, WrongPhase, NoSteps, WrongCell}

-- a call of the plain drive
abbrev pub asked : Call → plain.Call
asked Look = plain.look
asked (Think steps) = plain.think steps
asked Go = plain.go
asked Tell = plain.tell

-- a refusal if a test passes
abbrev pub refuse_if : Bool → Refusal → Option Refusal
refuse_if t e = cond t (Some e) None

-- a call of one phase is refused in another
abbrev pub unless_in : Phase → Phase → Option Refusal
unless_in due p = refuse_if (not (phase_number p == phase_number due)) WrongPhase

-- look, think and go have a phase each, and a think has one or more steps
abbrev pub phase_refusal : Phase → Call → Option Refusal
phase_refusal p Look = unless_in phase.Unseen p
phase_refusal p (Think steps) = option_or (unless_in phase.Searching p) (refuse_if (steps == 0) NoSteps)
phase_refusal p Go = unless_in phase.Ready p
phase_refusal p Tell = None

-- whether a queue of some entries is too short; a call that is lent none needs none
abbrev pub queue_is_short : Option ℕ → ℕ → Bool
queue_is_short None size = false
queue_is_short (Some entries) size = nat_lt entries (8 * size + 1)

-- why what is lent is too small: the board has too few records, or else the queue too few entries
abbrev pub lent_refusal : Lent → ℕ → Option Refusal
lent_refusal lent size = cond (nat_lt lent.records size) (Some ShortBoard) (refuse_if (queue_is_short lent.entries size) ShortQueue)

-- whether a carrier stands on another cell; a call that is lent none needs none
abbrev pub elsewhere : Option ℕ → ℕ → Bool
elsewhere None cell = false
elsewhere (Some at) cell = not (at == cell)

-- the first refusal of a call: that of a void drive, the board's, the queue's, the phase's and the steps', the carrier's cell
abbrev pub call_refusal : {G : Type 0} → Drive G → Call → Lent → ℕ → Option Refusal
call_refusal d k lent size =
    option_or d.void
    (option_or (lent_refusal lent size)
    (option_or (phase_refusal d.phase k)
    (refuse_if (elsewhere lent.at d.cell) WrongCell)))
