use Rattle.std.proofs.Common.{arith}
use Rattle.filing.specs.Pen.{path_line, row_line}
use Rattle.filing.proofs.Writing.{overwritten_more, length_path_line}
use Rattle.filing.proofs.pen.put_start.Goals as goal

pub returns-clause-bytes : goal.returns-clause-bytes
returns-clause-bytes c =
    let h = c.args.heading.now in
    let first = length_path_line h in
    overwritten_more c.args.buffer.now c.put_path-end.new.buffer c.put_row.new.buffer 0 c.put_path-end.result (path_line h) (row_line 0 h.start 0)
    c.put_path-end.ensures.bytes c.put_row.ensures.bytes (omega arith) (omega arith)
