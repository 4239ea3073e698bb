use Rattle.std.proofs.Common.{◌≡◌, ℕ, suc, ◌+◌, ◌-◌, List, Some, sym, ap, ◌∙◌, subst, arith}
use mathlib.Core.Path.{subst₂}
use Rattle.board.specs.declared.square.Square.{Square}
use Rattle.board.specs.Board.{changed, with_mark}
use Rattle.board.specs.Around.{direction_bit, felt_mark_of, Remade, marked_by}
use Rattle.board.proofs.Marking.{marks_none, marks_more}
use Rattle.board.proofs.around.mark_around.Goals as goal
use Rattle.board.proofs.around.mark_around.Goals.{in-Some, in_default}

pub loop-direction-preserved : goal.loop-direction-preserved
loop-direction-preserved g c =
    let l = g.L.Lattice.grid c.args.lattice.now in
    let lawful = g.met.L.Lattice.lawful c.args.lattice.now in
    let here = c.args.here in
    let felt = c.args.felt in
    let d = c.loop-direction.direction in
    let k = d - 1 in
    let up : suc k ≡ d = omega arith in
    let on : suc k ≡ d + 1 - 1 = omega arith in
    let old = c.loop-direction.board in
    let first = c.args.board.now in
    let inv = c.loop-direction.invariant in
    let By : ℕ → List (Square g.row.M.Denot) → Type 0 = λ n ys. Remade (marked_by l here felt n) first ys in
    elim c.match-beside.branch [
      | in-Some w ↦
          let e : l.beside here (suc k) ≡ Some w.in-Some.next = ap (l.beside here) up ∙ sym w.in-Some.ensures in
          let written : w.set_mark.new.board ≡ changed (with_mark (felt_mark_of (direction_bit felt (suc k)))) old w.in-Some.next =
          w.set_mark.ensures ∙ ap (λ m. changed (with_mark m) old w.in-Some.next) (w.felt_mark.ensures ∙ ap (λ n. felt_mark_of (direction_bit felt n)) (sym up)) in
          subst₂ By on (sym (w.board-is ∙ written)) (marks_more l lawful here felt k w.in-Some.next first old e inv)
      | in_default w ↦ subst₂ By on (sym w.board-is) (marks_none l lawful here felt k first old (ap (l.beside here) up ∙ sym w.in_default.ensures) inv)
    ]

pub returns : goal.returns
returns g c =
    let l = g.L.Lattice.grid c.args.lattice.now in
    let By : ℕ → Type 0 = λ n. Remade (marked_by l c.args.here c.args.felt n) c.args.board.now c.loop-direction.board in
    subst By (let e : c.loop-direction.direction - 1 ≡ 8 = omega arith in e) c.loop-direction.invariant
