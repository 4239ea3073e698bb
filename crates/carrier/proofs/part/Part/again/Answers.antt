use Rattle.std.proofs.Common.{◌≡◌, ℕ, ◌≤◌, sym, subst, arith}
use native.Mathlib.Bridge.{le_prop}
use Rattle.carrier.specs.declared.part.Part.{Part}
use Rattle.carrier.proofs.part.Part.again.Goals as goal

-- that the size is small has one proof at most
same : {L : Type 0} (p : Part L) (n : ℕ) (small : n ≤ 4096) → n ≡ p.size → record { lattice = p.lattice; size = n; small = small } ≡ p
same {L} p n small e =
    let Same : ℕ → Type 0 = λ k. (few : k ≤ 4096) → ◌≡◌ {A = Part L} (record { lattice = p.lattice; size = k; small = few }) p in
    subst Same (sym e) (λ few i. record { lattice = p.lattice; size = p.size; small = le_prop few p.small i }) small

pub returns : goal.returns
returns g c = same c.args.self.now _ _ (omega arith)
