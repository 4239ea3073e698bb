use Rattle.std.proofs.Common.{◌≡◌, ℕ, List, [], ◌∷◌, ◌++◌, length, get_or, take, sym, ap, ◌∙◌, append_assoc, arith, length-append}
use Rattle.std.proofs.lemmas.List.{length-take-le, take_all}
use Rattle.texts.specs.Fields.{fields_text, written_line}
use Rattle.texts.proofs.Fielded.{length_field_text, length_fields_text}
use Rattle.filing.specs.Written.{overwritten}
use Rattle.filing.proofs.Writing.{overwritten_none, overwritten_more, fields_text_more}
use Rattle.filing.proofs.write.put_line.Goals as goal

pub loop-n-init : goal.loop-n-init
loop-n-init c = (omega arith, overwritten_none c.put-end.new.buffer c.put-end.result)

pub loop-n-preserved : goal.loop-n-preserved
loop-n-preserved c =
    let old = c.put-end.new.buffer in
    let start = c.put-end.result in
    let ns = c.args.fields.now in
    let i = c.loop-n.n-index in
    let width = ap length c.field.ensures ∙ length_field_text (get_or ns i 0) in
    let so_far = length_fields_text (take i ns) in
    let many : length (take i ns) ≡ i = length-take-le i ns (omega arith) in (
      omega arith,
      overwritten_more old c.loop-n.buffer c.put-end-in-loop-n.new.buffer start c.loop-n.end (fields_text (take i ns)) c.field.result c.loop-n.invariant.1 c.put-end-in-loop-n.ensures.bytes (omega arith) (omega arith)
          ∙ ap (λ (t : List ℕ). overwritten old start (fields_text (take i ns) ++ t)) c.field.ensures
          ∙ ap (overwritten old start) (sym (fields_text_more ns i (omega arith))),
    )

pub returns : goal.returns
unfolding written_line
returns c =
    let old = c.args.buffer.now in
    let at = c.args.at in
    let word = c.args.word.now in
    let ns = c.args.fields.now in
    let i = c.loop-n.n-index in
    let so_far = length_fields_text (take i ns) in
    let all : take i ns ≡ ns = take_all i ns (omega arith) in
    let many = ap length all in
    let joined = length-append word (fields_text (take i ns)) in
    let fields =
    overwritten_more old c.put-end.new.buffer c.loop-n.buffer at c.put-end.result word (fields_text (take i ns)) c.put-end.ensures.bytes c.loop-n.invariant.1 (omega arith) (omega arith)
    in
    record {
      place = omega arith;
      bytes =
          overwritten_more old c.loop-n.buffer c.put.new.buffer at c.loop-n.end (word ++ fields_text (take i ns)) (10 ∷ []) fields c.put.ensures.bytes (omega arith) (omega arith)
          ∙ ap (overwritten old at) (append_assoc word (fields_text (take i ns)) (10 ∷ []) ∙ ap (written_line word) all);
    }
