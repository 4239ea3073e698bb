use Rattle.std.proofs.Common.{◌≡◌, suc, ◌+◌, ◌-◌, arith}
use Rattle.std.proofs.lemmas.Grind.{common_steps}
use Rattle.sites.proofs.site.Floor.check_rows.Goals as goal

pub loop-row-preserved : goal.loop-row-preserved
loop-row-preserved c =
    let rows = c.args.self.now.heading.height in
    let i = c.loop-row._row in
    let sized = c.args.self.now.sized in
    let next : suc (rows - (i + 1)) ≡ rows - i = omega arith in (
      omega (arith, c.in_ok-due.ensures.number),
      grind (arith, common_steps),
      grind (arith, common_steps),
    )
