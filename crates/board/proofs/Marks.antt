-- What a test of a mark says.
use Rattle.std.proofs.Common.{◌≡◌, refl}
use denote.Enum.Bare.{sameb}
use Rattle.model.specs.contracts.Mark.{the_type}
use Rattle.model.specs.declared.Mark.{Mark}
use Rattle.model.specs.declared.Mark.TheVariants as mark
use Rattle.model.specs.Plain.{is_rock_mark, is_unseen_mark}

pub rock_tested : (m : Mark) → sameb the_type m mark.Rock ≡ is_rock_mark m
rock_tested mark.Unseen = refl
rock_tested mark.Passable = refl
rock_tested mark.Rock = refl

pub unseen_tested : (m : Mark) → sameb the_type m mark.Unseen ≡ is_unseen_mark m
unseen_tested mark.Unseen = refl
unseen_tested mark.Passable = refl
unseen_tested mark.Rock = refl
