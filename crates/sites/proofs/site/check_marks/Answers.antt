use Rattle.std.proofs.Common.{◌≡◌, ◌+◌, true, false, Err, sym, ap, ◌∙◌, arith, rules, tests}
use Rattle.std.proofs.lemmas.Iterator.{YieldsList-from_slice, IsFirst-from_position}
use Rattle.std.proofs.lemmas.Option.{MatchOption-at_some, MatchOption-at_none}
use Rattle.texts.specs.Lines.{line_text, in_line}
use Rattle.sites.specs.declared.fault.SiteFault.TheVariants.{Foreign}
use Rattle.sites.specs.Site.{is_mark}
use Rattle.sites.proofs.Marks.{marks_pass, marks_stop}
use Rattle.sites.proofs.site.check_marks.Goals as goal

pub returns-in-Some : goal.returns-in-Some
returns-in-Some c =
    let l = line_text c.args.line.now in
    let i = c.in-Some.i in
    let found = IsFirst-from_position _ _ _ (λ b. is_mark b ≡ false) (λ b. is_mark b ≡ true) c.position-foreign.ensures.ran (YieldsList-from_slice l.bytes cc) (λ b q k. search (rules, tests)) (λ b q k. search (rules, tests)) in
    let first = MatchOption-at_some _ _ _ c.in-Some.is found in
    let column : c.place.result ≡ in_line l (1 + i) = c.place.ensures ∙ ap (λ k. in_line l k) (omega arith) in
    ap (λ p. Err (Foreign p)) column ∙ sym (marks_stop l 1 l.bytes i first.0 (first.1 0) (λ k h. first.2 k 0 (omega arith) h))

pub returns-in-None : goal.returns-in-None
returns-in-None c =
    let l = line_text c.args.line.now in
    let found = IsFirst-from_position _ _ _ (λ b. is_mark b ≡ false) (λ b. is_mark b ≡ true) c.position-foreign.ensures.ran (YieldsList-from_slice l.bytes cc) (λ b q k. search (rules, tests)) (λ b q k. search (rules, tests)) in
    let all = MatchOption-at_none _ _ c.in-None.is found in
    sym (marks_pass l 1 l.bytes (λ k h. all k 0 (omega arith) h))
