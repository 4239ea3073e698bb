use Rattle.std.proofs.Common.{◌≡◌, ◌^◌, ◌<◌, drop}
use Rattle.texts.specs.Numerals.{digits_from}
use Rattle.texts.proofs.field.value.Given as goal

abbrev pub invariant-loop-digit : goal.invariant-loop-digit
invariant-loop-digit l = (digits_from l.value (drop l.digit-index l.digits) ≡ digits_from 0 l.digits) × (l.value < 10 ^ l.digit-index)
