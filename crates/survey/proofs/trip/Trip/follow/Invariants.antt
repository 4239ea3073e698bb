use Rattle.std.proofs.Common.{◌≡◌, length}
use Rattle.survey.specs.Surveying.{Course}
use Rattle.survey.proofs.trip.Trip.follow.Given as goal

abbrev pub invariant-loop : goal.invariant-loop
invariant-loop g l = (length l.buffer ≡ length l.initial.buffer) × Course l.initial.buffer l.pen l.buffer
