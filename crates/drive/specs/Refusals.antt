-- The refusals of a drive's calls: their numbers, and answers without a value.
use Rattle.std.specs.Prelude.{ℕ, Some, None, Ok, Err, Option, Result}
use Rattle.drive.specs.declared.refusal.Refusal.{Refusal}
use Rattle.drive.specs.declared.refusal.Refusal.TheVariants.{GoalOffFloor, ShortBoard, ShortQueue, WrongPhase, NoSteps, WrongCell, StepRefused}

abbrev pub refusal_number : Refusal → ℕ
refusal_number GoalOffFloor = 8
refusal_number ShortBoard = 9
refusal_number ShortQueue = 10
refusal_number WrongPhase = 11
refusal_number NoSteps = 12
refusal_number WrongCell = 13
refusal_number StepRefused = 14

-- an answer without a value: accepted unless there is a refusal
abbrev pub allowed : Option Refusal → Result (Unit {0}) Refusal
allowed None = Ok tt
allowed (Some e) = Err e
