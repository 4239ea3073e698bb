-- The direction that `find` answers of 1 to 8.
use Rattle.std.specs.Prelude.{◌≡◌, ℕ, suc, ◌+◌, ◌<◌, ◌≤◌, Bool, true, false, Some, None, Option, IfSome, IsSomeAnd, MatchOption}
use Rattle.std.proofs.Common.{sym, ◌∙◌, ap, subst, arith}
use Rattle.std.specs.Option.{option_map, unwrap_or}
use Rattle.std.specs.Fn.{CalledAt}
use Rattle.std.specs.Iterator.Runs.{Run, SomeRun, CallKeepsClosure, NoItemPasses, EndsAtFirstPassing}
use Rattle.std.specs.declared.ops.Range.{Range}
use Rattle.std.proofs.iter.Yields.{nat_range_steps}
use Rattle.std.proofs.iter.runs.Sources.{range_runs}
use denote.Param.Members.{Mut}
use denote.Ref.{Bor}
use Rattle.model.specs.Lattice.{first_direction}
use Rattle.model.proofs.Basics.Tests.{same_some}
use Rattle.floor.specs.Leads.{none_first, found_first}

itself : (o : Option ℕ) {d : ℕ} → option_map (λ y. y) o ≡ Some d → o ≡ Some d
itself None e = e
itself (Some x) e = e

-- a run over 1..9 gives the numbers from 1
counted : (u : Run nat_range_steps) → u.from.start ≡ 1 → u.from.end ≡ 9 → (u.len ≤ 8) × (u.whole ≡ true → u.len ≡ 8) × ((i : ℕ) → i < u.len → u.at i ≡ Some (suc i))
counted u start end =
    let counts = range_runs u u.seen in
    let most = counts.0 in (
      omega arith,
      (λ w. let all = counts.1 w in omega arith),
      (λ i n. let number : u.from.start + i ≡ suc i = omega arith in itself (u.at i) (counts.3 i n) ∙ ap Some number),
    )

module _ {F : Type 0} (g : Mut F (Bor ℕ × Unit {0}) Bool) (f : F) (p : ℕ → Bool) (tests : (d : ℕ) (b : Bool) → CalledAt g f d b f → b ≡ p d) where
  fails : (i : ℕ) → CalledAt g f (suc i) false f → p (suc i) ≡ false
  fails i h = sym (tests (suc i) false h)

  pub found : (r : Option ℕ) {s : Range ℕ} → s.start ≡ 1 → s.end ≡ 9 → CallKeepsClosure g f → SomeRun nat_range_steps s (λ u. MatchOption r ((u.whole ≡ true) × NoItemPasses u g f) (EndsAtFirstPassing u g f)) → unwrap_or r 0 ≡ first_direction 8 p
  found None start end keeps (u, from, none) =
      let counts = counted u (ap (λ k. k.start) from ∙ start) (ap (λ k. k.end) from ∙ end) in
      let all = counts.1 none.0 in
      sym (none_first 8 p (λ i l. fails i (subst (λ o. IfSome o (λ y. CalledAt g f y false f)) (counts.2 i (omega arith)) (none.1 keeps i))))
  found (Some d) start end keeps (u, from, some) =
      let counts = counted u (ap (λ k. k.start) from ∙ start) (ap (λ k. k.end) from ∙ end) in
      let i = some.0 in
      let most = counts.0 in
      let long = some.1 in
      let calls = some.3 keeps in
      let is : d ≡ suc i = same_some (sym some.2 ∙ counts.2 i (omega arith)) in
      let none = none_first i p (λ k l. fails k (subst (λ o. IsSomeAnd o (λ y. CalledAt g f y false f)) (counts.2 k (omega arith)) (calls.1 k l))) in
      is ∙ sym (found_first i 8 p none (sym (tests d true calls.0 ∙ ap p is)) (omega arith))
