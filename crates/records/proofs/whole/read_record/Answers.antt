use Rattle.std.proofs.Common.{◌≡◌, Ok, sym, ap, ◌∙◌}
use Rattle.std.specs.Result.{result_map_both}
use Rattle.records.specs.declared.line.Next.{Next}
use Rattle.records.specs.declared.line.Next.TheVariants.{End}
use Rattle.records.specs.Format.{summary}
use Rattle.records.specs.Records.{Standing, standing, moved_on}
use Rattle.records.proofs.Below.{reads_end}
use Rattle.records.proofs.Laid.{record_law}
use Rattle.records.proofs.whole.read_record.Goals as goal

pub returns-in_err-reader-clause-law : goal.returns-in_err-reader-clause-law
returns-in_err-reader-clause-law c = record_law c.args.text.now

pub returns-in_err-closing-clause-law : goal.returns-in_err-closing-clause-law
returns-in_err-closing-clause-law c = record_law c.args.text.now

pub returns-clause-value : goal.returns-clause-value
returns-clause-value c =
    let t = c.args.text.now in
    let s = standing c.loop-closing.reader in
    let r = c.loop-closing.invariant in
    let got = c.in_ok-closing.ensures in
    let closing = c.in-End.closing in
    let gone : standing c.next.new.self ≡ moved_on s (Ok (End closing)) = got.reader ∙ ap (λ (x : Next). moved_on s (Ok x)) c.in-End.is in
    let there = gone ∙ ap (λ (x : Standing). moved_on x (Ok (End closing))) r.stands in
    let heading = c.heading.ensures ∙ ap (λ (x : Standing). x.heading) gone in
    let moves = c.row.ensures ∙ ap (λ (x : Standing). x.row) there in
    let far = c.length.ensures ∙ ap (λ (x : Standing). x.length) there in
    (λ i. Ok (record { heading = heading i; ending = closing.ending; moves = moves i; length = far i; rock = closing.rock }))
    ∙ ap (result_map_both summary (λ e. e)) (sym (reads_end t s r closing (ap Ok (sym c.in-End.is) ∙ got.value)))

pub returns-clause-law : goal.returns-clause-law
returns-clause-law c = record_law c.args.text.now
