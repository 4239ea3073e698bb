use Rattle.std.proofs.Common.{◌≡◌, eqb, drop, sym, refl, ap, ◌∙◌, arith, rules}
use borrow.Author.Tests.{tests}
use Rattle.std.specs.List.{prefix_len}
use Rattle.std.proofs.lemmas.Bool.{eq-eqb, ne_eqb}
use Rattle.std.proofs.lemmas.Iterator.{YieldsList-from_slice, IsFirst-from_position, index_from_first}
use Rattle.texts.proofs.Numerals.{blanks_stop}
use Rattle.texts.proofs.field.blanks.Goals as goal

pub returns-clause-behind : goal.returns-clause-behind
returns-clause-behind c =
    let columns = c.args.columns.now in
    let first = IsFirst-from_position _ _ _ (λ b. b ≡ 32 → ⊥) (λ b. b ≡ 32) c.position.ensures.ran (YieldsList-from_slice columns cc) (λ b q k. search (rules, tests)) (λ b q k. search (rules, tests)) in
    let count = index_from_first (prefix_len (λ b. eqb b 32)) (λ b. b ≡ 32 → ⊥) (λ b. b ≡ 32) refl (λ b bs n. rw (ne_eqb b 32 n) refl) (λ b bs e. rw (eq-eqb b 32 e) (omega arith)) columns c.position.result first in
    ap (λ k. drop k columns) (c.unwrap_or.ensures ∙ sym count) ∙ blanks_stop columns
