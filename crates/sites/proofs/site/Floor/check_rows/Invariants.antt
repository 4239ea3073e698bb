use Rattle.std.proofs.Common.{◌≡◌, ◌+◌, ◌-◌}
use Rattle.sites.specs.Site.{rows_check, after_lines}
use Rattle.sites.proofs.site.Floor.check_rows.Given as goal

abbrev pub invariant-loop-row : goal.invariant-loop-row
invariant-loop-row l =
    (l.lines.number ≡ l._row + 3)
    × (rows_check (l.self.heading.height - l._row) l.self.heading.width l.lines.number l.lines.rest.now ≡ rows_check l.self.heading.height l.self.heading.width 3 l.initial.lines.rest.now)
    × (after_lines (l.self.heading.height - l._row) l.lines.rest.now ≡ after_lines l.self.heading.height l.initial.lines.rest.now)
