use Rattle.std.proofs.Common.{◌≡◌, ℕ, suc, ◌+◌, ◌-◌, List, sym, ap, ◌∙◌, arith}
use mathlib.Core.Path.{subst₂}
use Rattle.board.specs.declared.square.Square.{Square}
use Rattle.board.specs.Around.{direction_bit, Remade, cut_by}
use Rattle.board.proofs.Cutting.{strike_clear, strike_none, strike_more}
use Rattle.board.proofs.around.cut_around.Goals as goal
use Rattle.board.proofs.around.cut_around.Goals.{then-has_bit+in-Some, then-has_bit+in_default, else-has_bit}

pub loop-direction-preserved : goal.loop-direction-preserved
loop-direction-preserved g c =
    let l = g.L.Lattice.grid c.args.lattice.now in
    let lawful = g.met.L.Lattice.lawful c.args.lattice.now in
    let here = c.args.here in
    let rocks = c.args.rocks in
    let d = c.loop-direction.direction in
    let k = d - 1 in
    let up : suc k ≡ d = omega arith in
    let on : suc k ≡ d + 1 - 1 = omega arith in
    let old = c.loop-direction.board in
    let first = c.args.board.now in
    let inv = c.loop-direction.invariant in
    let By : ℕ → List (Square g.row.M.Denot) → Type 0 = λ n ys. Remade (cut_by l here rocks n) first ys in
    elim c.if-has_bit.branch [
      | then-has_bit+in-Some w ↦
          subst₂ By on (sym w.board-is)
          (strike_more l lawful here rocks k w.in-Some.rock first old w.cut_to.new.board
          (ap (l.beside here) up ∙ sym w.in-Some.ensures) (ap (direction_bit rocks) up ∙ sym w.if-has_bit.ensures) inv w.cut_to.ensures)
      | then-has_bit+in_default w ↦ subst₂ By on (sym w.board-is) (strike_none l lawful here rocks k first old (ap (l.beside here) up ∙ sym w.in_default.ensures) inv)
      | else-has_bit w ↦ subst₂ By on (sym w.board-is) (strike_clear l lawful here rocks k first old (ap (direction_bit rocks) up ∙ sym w.if-has_bit.ensures) inv)
    ]
