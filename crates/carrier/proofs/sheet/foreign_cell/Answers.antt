use Rattle.std.proofs.Common.{◌≡◌, ◌∙◌, rules, tests}
use Rattle.std.specs.List.{position}
use Rattle.std.proofs.lemmas.Iterator.{YieldsList-from_slice}
use Rattle.std.proofs.lemmas.Iterator.Search.{position_from_yields_List}
use Rattle.carrier.specs.Sheets.{foreign}
use Rattle.carrier.specs.SheetsLemmas.{foreign_position}
use Rattle.carrier.proofs.sheet.foreign_cell.Goals as goal

pub returns : goal.returns
returns c =
    let found : c.position.result ≡ position foreign c.args.sheet.now = position_from_yields_List _ _ _ _ c.position.ensures.ran (YieldsList-from_slice c.args.sheet.now cc) (λ x b q k. search (rules, tests)) in
    let same : c.map.result ≡ c.position.result = search rules in
    same ∙ found ∙ foreign_position c.args.sheet.now
