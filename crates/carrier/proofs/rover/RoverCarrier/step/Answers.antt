use Rattle.std.proofs.Common.{◌≡◌, ◌<◌, false}
use mathlib.Core.Bool.{Bool-set}
use native.Mathlib.Bridge.{le_prop}
use native.Mathlib.Nat.{ℕ_set}
use Rattle.carrier.specs.declared.rover.Rover.{Rover}
use Rattle.carrier.proofs.rover.RoverCarrier.step.Goals as goal

-- each ghost field has one proof at most
same : {L R : Type 0} {l : _} {m : _} {r : _} (s : Rover L R l m r) (sized : m.cells s.rocks ≡ (l.grid s.floor).size) (inside : s.at < (l.grid s.floor).size) («open» : r.rock s.rocks s.at ≡ false) →
    ◌≡◌ {A = Rover L R l m r} (record { floor = s.floor; rocks = s.rocks; at = s.at; sized = sized; inside = inside; «open» = «open» }) s
same s sized inside «open» i = record {
  floor = s.floor;
  rocks = s.rocks;
  at = s.at;
  sized = ℕ_set _ _ sized s.sized i;
  inside = le_prop inside s.inside i;
  «open» = Bool-set _ _ «open» s.«open» i;
}

pub returns-in-None-clause-unmoved : goal.returns-in-None-clause-unmoved
returns-in-None-clause-unmoved g c = λ _. same c.args.self.now _ _ _
