use Rattle.std.proofs.Common.{◌+◌, length, arith, leb-true}
use Rattle.filing.specs.declared.pen.Pen.{Pen}
use Rattle.texts.specs.Headings.{heading_check}
use Rattle.filing.specs.Written.{fits}
use Rattle.filing.proofs.Filed.{begun_pen, begun_checks}
use Rattle.survey.proofs.Surveying.{closed_course}
use Rattle.survey.proofs.course.file.Goals as goal

pub follow-requires : goal.follow-requires
follow-requires g c =
    let h = c.args.site.now.heading in
    let buffer = c.args.buffer.now in
    let first : Pen = record { at = 96; row = 0; length = 0 } in
    let room = (begun_checks (heading_check h) (fits buffer 0 131) c.in_ok-pen.pen first c.in_ok-pen.ensures.answer).1 in
    (begun_pen (heading_check h) (fits buffer 0 131) c.in_ok-pen.pen first c.in_ok-pen.ensures.answer, omega (arith, leb-true (0 + 131) (length buffer) room))

pub returns-in-Ok : goal.returns-in-Ok
returns-in-Ok g c =
    closed_course c.args.site.now.heading c.args.buffer.now c.begin.new.buffer c.follow.new.buffer c.close.new.buffer c.follow.new.pen c.rock_found.result c.close.result
    c.in_ok-pen.ensures.bytes (omega arith) c.in-Ok.ensures c.close.ensures
