use Rattle.std.proofs.Common.{ℕ, Bool, ◌∙◌, rules, tests}
use Rattle.model.specs.Lattice.{is}
use Rattle.floor.proofs.Finding.{found}
use Rattle.reconnect.proofs.backs.towards.Goals as goal

pub returns : goal.returns
returns g c =
    let leads : ℕ → Bool = λ d. is ((g.L.Lattice.grid c.args.lattice.now).beside c.args.from d) c.args.to in
    c.unwrap_or.ensures
    ∙ found _ _ leads (λ d b k. search (rules, tests)) c.find.result (search rules) (search rules) (λ a r q k. search rules) c.find.ensures.runs
