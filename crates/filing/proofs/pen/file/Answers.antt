use Rattle.std.proofs.Common.{◌≡◌, ◌+◌, ◌*◌, true, List, [], length, get_or, take, Ok, Err, sym, ap, ◌∙◌, arith}
use Rattle.std.proofs.lemmas.Bool.{le-leb, cond-true}
use Rattle.std.proofs.lemmas.List.{take_more, take_all}
use Rattle.filing.specs.declared.fault.PenFault.TheVariants.{Full}
use Rattle.filing.specs.declared.pen.Pen.{Pen}
use Rattle.filing.specs.declared.pen.Row.{Row}
use Rattle.texts.specs.Headings.{heading_check}
use Rattle.filing.specs.Pen.{pen_behind, rows_fit, record_text}
use Rattle.filing.specs.Written.{fits, overwritten}
use Rattle.filing.proofs.Filed.{room_for_rows, accepted, begun_pen, penned_none, penned_more, penned_closed}
use Rattle.filing.proofs.pen.file.Goals as goal

abbrev none : Row
none = record { cell = 0; length = 0 }

pub loop-row-init : goal.loop-row-init
loop-row-init c =
    let h = c.args.heading.now in
    penned_none c.in_ok-pen.pen c.begin.new.buffer (begun_pen (heading_check h) (fits c.args.buffer.now 0 131) c.in_ok-pen.pen (pen_behind []) c.in_ok-pen.ensures.answer)

pub loop-row-preserved : goal.loop-row-preserved
loop-row-preserved c =
    let rows = c.args.rows.now in
    let i = c.loop-row.row-index in
    let room = room_for_rows (length rows) (length c.args.buffer.now) c.if-not-rows_fit.ensures in
    penned_more (take i rows) c.begin.new.buffer c.loop-row.pen c.loop-row.buffer (get_or rows i none) (take (i + 1) rows) c.row.new.self c.row.new.buffer
    c.loop-row.invariant (omega arith) (take_more rows i none (omega arith)) c.in_default.ensures.pen c.in_default.ensures.bytes

pub returns : goal.returns
returns c =
    let h = c.args.heading.now in
    let rows = c.args.rows.now in
    let old = c.args.buffer.now in
    let i = c.loop-row.row-index in
    let pen = c.loop-row.pen in
    let all : take i rows ≡ rows = take_all i rows (omega arith) in
    let count = ap length all in
    let stands : pen.at ≡ 96 + 31 * length (take i rows) = ap (λ (q : Pen). q.at) c.loop-row.invariant.stands in
    let room = room_for_rows (length rows) (length old) c.if-not-rows_fit.ensures in
    let fit : fits c.loop-row.buffer pen.at 35 ≡ true = le-leb (pen.at + 35) (length c.loop-row.buffer) (omega arith) in
    let closed : c.close.result ≡ Ok (pen.at + 35) = c.close.ensures.answer ∙ cond-true (fits c.loop-row.buffer pen.at 35) (Ok (pen.at + 35)) (Err (record { pen = pen; fault = Full })) fit in
    let given : c.map_err.result ≡ Ok (pen.at + 35) = rw closed at c.map_err.ensures.cases in
    record {
      answer =
          given
          ∙ accepted (heading_check h) (rows_fit (length rows) (length old)) (pen.at + 35) (131 + 31 * length rows)
          (sym c.check.ensures ∙ c.in_ok-check.was) (sym c.if-not-rows_fit.ensures) (omega arith);
      bytes =
          rw given (
          penned_closed (take i rows) c.begin.new.buffer pen c.loop-row.buffer h old c.args.ending c.args.rock c.close.new.buffer c.loop-row.invariant c.in_ok-pen.ensures.bytes (rw closed at c.close.ensures.bytes)
          ∙ ap (λ (rs : List Row). overwritten old 0 (record_text h rs c.args.ending c.args.rock)) all
          );
    }
