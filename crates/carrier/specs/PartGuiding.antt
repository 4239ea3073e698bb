-- The distances on a part of a lattice guide over it.
use Rattle.std.specs.Prelude.{◌≡◌, ℕ, ◌<◌, Bool, true, false, cond, Some, ◌==◌, refl}
use Rattle.std.proofs.Common.{sym, subst, arith, eqb-true}
use Rattle.std.proofs.lemmas.Bool.Decides.{nat_tests}
use Rattle.model.specs.Lattice.{Lattice, Lawful, Guide, Guiding}
use Rattle.carrier.specs.Parts.{part_of, goal_alone, part_guide}
use Rattle.carrier.specs.Parting.{whole}

pub part_goal : (size : ℕ) (g : Guide) (n goal : ℕ) → g.goal ≡ goal → (part_guide size g n goal).goal ≡ goal
part_goal size g n goal e = by (n == size)
  where
    by : (t : Bool) → (cond t g (goal_alone n goal)).goal ≡ goal
    by true = e
    by false = refl

-- only the goal has a distance, and it is 0
alone_at : (n goal a m : ℕ) → (goal_alone n goal).distance a ≡ Some m → (a ≡ goal) × (a < n)
alone_at n goal a m e = grind (arith, nat_tests)

alone_guiding : (l : Lattice) (n goal : ℕ) → Guiding (part_of l n) (goal_alone n goal)
alone_guiding l n goal = record {
  at_goal = λ h. grind (arith, nat_tests);
  nowhere_else = λ a e. (alone_at n goal a 0 e).0;
  of_cells = λ a m e. (alone_at n goal a m e).1;
  leads_on = λ a m e off. absurd (off (alone_at n goal a m e).0);
}

pub part_guiding : (l : Lattice) (g : Guide) (n goal : ℕ) → Lawful l → Guiding l g → Guiding (part_of l n) (part_guide l.size g n goal)
part_guiding l g n goal lawful guiding = by (n == l.size) refl
  where
    by : (t : Bool) → (n == l.size) ≡ t → Guiding (part_of l n) (cond t g (goal_alone n goal))
    by true e = subst (λ k. Guiding k g) (sym (whole l lawful n (eqb-true n l.size e))) guiding
    by false e = alone_guiding l n goal
