use Rattle.std.proofs.Common.{◌≡◌, ◌^◌, ◌<◌}
use Rattle.model.specs.Lattice.{bits, test_at}
use Rattle.carrier.proofs.rocks.felt_at.Given as goal

abbrev pub invariant-loop-bit : goal.invariant-loop-bit
invariant-loop-bit g l =
    (l.felt ≡ bits l.bit (λ d. test_at ((g.L.Lattice.grid l.lattice).beside l.cell d) (g.R.Rocks.rock l.rocks)))
    × (l.felt < 2 ^ l.bit)
