use Rattle.std.proofs.Common.{◌≡◌, drop}
use Rattle.carrier.specs.Pillars.{any_pillar_covers}
use Rattle.carrier.proofs.pillars.any_covers.Given as goal

abbrev pub invariant-loop-i : goal.invariant-loop-i
invariant-loop-i l = any_pillar_covers l.pillars l.column l.row ≡ any_pillar_covers (drop l.i l.pillars) l.column l.row
