use Rattle.std.proofs.Common.{◌≡◌, length, sym, refl, ◌∙◌, arith, rules}
use borrow.Author.Tests.{tests}
use Rattle.std.proofs.lemmas.Bool.{eq-eqb, ne_eqb}
use Rattle.std.proofs.lemmas.Iterator.{YieldsList-from_slice, IsFirst-from_position, index_from_first}
use Rattle.texts.specs.Lines.{line_of}
use Rattle.texts.proofs.lines.line_length.Goals as goal

pub returns : goal.returns
returns c =
    let text = c.args.text.now in
    let first = IsFirst-from_position _ _ _ (λ b. b ≡ 10) (λ b. b ≡ 10 → ⊥) c.position.ensures.ran (YieldsList-from_slice text cc) (λ b q k. search (rules, tests)) (λ b q k. search (rules, tests)) in
    let count = index_from_first (λ t. length (line_of t)) (λ b. b ≡ 10) (λ b. b ≡ 10 → ⊥) refl (λ b bs e. rw (eq-eqb b 10 e) refl) (λ b bs n. rw (ne_eqb b 10 n) (omega arith)) text c.position.result first in
    c.unwrap_or.ensures ∙ sym count
