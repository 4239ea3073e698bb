use Rattle.std.proofs.Common.{◌≡◌, ℕ, suc, ◌+◌, ◌-◌, List, Some, sym, ap, ◌∙◌, subst, arith}
use mathlib.Core.Path.{subst₂}
use Rattle.board.specs.declared.square.Square.{Square}
use Rattle.board.specs.Around.{Remade}
use Rattle.board.proofs.Cutting.{cut_upto, cut_none, cut_hit, cut_miss, cut_end}
use Rattle.board.proofs.around.cut_to.Goals as goal
use Rattle.board.proofs.around.cut_to.Goals.{in-Some+then-points_to, in-Some+else-points_to, in_default}

pub loop-direction-preserved : goal.loop-direction-preserved
loop-direction-preserved g c =
    let l = g.L.Lattice.grid c.args.lattice.now in
    let lawful = g.met.L.Lattice.lawful c.args.lattice.now in
    let rock = c.args.rock in
    let d = c.loop-direction.direction in
    let k = d - 1 in
    let up : suc k ≡ d = omega arith in
    let on : suc k ≡ d + 1 - 1 = omega arith in
    let old = c.loop-direction.board in
    let first = c.args.board.now in
    let inv = c.loop-direction.invariant in
    let By : ℕ → List (Square g.row.M.Denot) → Type 0 = λ n ys. Remade (cut_upto l rock n) first ys in
    elim c.match-beside.branch [
      | in-Some+then-points_to w ↦
          let e : l.beside rock (suc k) ≡ Some w.in-Some.cell = ap (l.beside rock) up ∙ sym w.in-Some.ensures in
          subst₂ By on (sym (w.board-is ∙ w.set_pointer.ensures)) (cut_hit l lawful rock k w.in-Some.cell first old e inv (sym w.if-points_to.ensures))
      | in-Some+else-points_to w ↦
          let e : l.beside rock (suc k) ≡ Some w.in-Some.cell = ap (l.beside rock) up ∙ sym w.in-Some.ensures in
          subst₂ By on (sym w.board-is) (cut_miss l lawful rock k w.in-Some.cell first old e inv (sym w.if-points_to.ensures))
      | in_default w ↦ subst₂ By on (sym w.board-is) (cut_none l lawful rock k first old (ap (l.beside rock) up ∙ sym w.in_default.ensures) inv)
    ]

pub returns : goal.returns
returns g c =
    let l = g.L.Lattice.grid c.args.lattice.now in
    let By : ℕ → Type 0 = λ n. Remade (cut_upto l c.args.rock n) c.args.board.now c.loop-direction.board in
    cut_end l (g.met.L.Lattice.lawful c.args.lattice.now) c.args.rock c.args.board.now c.loop-direction.board (subst By (let e : c.loop-direction.direction - 1 ≡ 8 = omega arith in e) c.loop-direction.invariant)
