use Rattle.std.proofs.Common.{◌≡◌, not, ltb, length, sym, ◌∙◌, ap, arith}
use Rattle.std.proofs.lemmas.Bool.Decides.{nat_tests}
use Rattle.texts.proofs.Cuts.{line_within, cut_line, cut_rest, past_first}
use Rattle.texts.proofs.lines.LinesIterator.next.Goals as goal

pub returns-clause-steps : goal.returns-clause-steps
returns-clause-steps c =
    let t = c.args.self.now.rest.now in
    let k = c.line_length.result in
    let e = c.line_length.ensures in
    let within = line_within t in
    let parts = c.split_at.ensures in
    let ended : not c.is_empty-2.result ≡ ltb k (length t) = grind (arith, nat_tests) in (
      cut_line c.args.self.now.number k t _ _ (sym c.if-is_empty.ensures) e parts.front ended,
      ap (λ x. x.now) c.unwrap_or-self.ensures ∙ past_first c.get.result c.split_at.result.1 c.get.ensures.lookup.0 ∙ cut_rest k t _ e parts.back,
      omega arith,
    )
