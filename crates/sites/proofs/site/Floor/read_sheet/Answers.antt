use Rattle.std.proofs.Common.{length, sym, ap, arith}
use Rattle.sites.proofs.Rows.{rows_long}
use Rattle.sites.proofs.site.Floor.read_sheet.Goals as goal

pub slice_bounds-sheet-end : goal.slice_bounds-sheet-end
slice_bounds-sheet-end c =
    let h = c.args.self.now.heading in
    let rows = c.check_word_alone.new.lines.rest.now in
    let long = rows_long h.height h.width 3 rows (sym c.in_ok-check_rows.ensures.checked) in
    let same = ap length c.rest-rows.ensures in
    omega arith
