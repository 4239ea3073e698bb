use Rattle.std.proofs.Common.{refl, arith}
use Rattle.carrier.specs.Parting.{whole}
use Rattle.carrier.proofs.part.Part.whole.Goals as goal

pub returns : goal.returns
returns g c = (refl, c.size-size.ensures, whole (g.L.Lattice.grid c.args.lattice) (g.met.L.Lattice.lawful c.args.lattice) _ (omega arith))
