use Rattle.std.proofs.Common.{◌∙◌, rules, tests}
use Rattle.model.specs.Lattice.{lead}
use Rattle.floor.proofs.Finding.{found}
use Rattle.floor.specs.Leads.{nearer}
use Rattle.floor.proofs.Guide.lead.Goals as goal

pub returns : goal.returns
unfolding lead
returns g c =
    let leads = nearer (g.Self.Lattice.grid c.args.self.now) (g.Self.Guide.aim c.args.self.now) c.args.cell in
    c.unwrap_or.ensures
    ∙ found _ _ leads (λ d b k. search (rules, tests)) c.find.result (search rules) (search rules) (λ a r q k. search rules) c.find.ensures.runs
