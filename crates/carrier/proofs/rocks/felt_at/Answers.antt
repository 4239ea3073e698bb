use Rattle.std.proofs.Common.{◌≡◌, ℕ, ◌+◌, ◌^◌, ◌<◌, Bool, sym, subst, arith}
use Rattle.model.specs.Lattice.{bits, test_at}
use Rattle.carrier.proofs.Feeling.{set_bit, leave_bit}
use Rattle.carrier.proofs.rocks.felt_at.Goals as goal
use Rattle.carrier.proofs.rocks.felt_at.Goals.{then-rock_beside, else-rock_beside}

pub loop-bit-preserved : goal.loop-bit-preserved
loop-bit-preserved g c =
    let p : ℕ → Bool = λ d. test_at ((g.L.Lattice.grid c.args.lattice.now).beside c.args.cell d) (g.R.Rocks.rock c.args.rocks.now) in
    let l = c.loop-bit in
    let Built : ℕ → Type 0 = λ felt. (felt ≡ bits (l.bit + 1) p) × (felt < 2 ^ (l.bit + 1)) in
    elim c.if-rock_beside.branch [
      | then-rock_beside w ↦ subst Built (sym w.felt-is) (set_bit p l.bit l.felt (omega arith) l.invariant.0 l.invariant.1 w.if-rock_beside.ensures)
      | else-rock_beside w ↦ subst Built (sym w.felt-is) (leave_bit p l.bit l.felt l.invariant.0 l.invariant.1 w.if-rock_beside.ensures)
    ]
