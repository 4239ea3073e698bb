use Rattle.std.proofs.Common.{◌≤◌, length, sym, ap, arith}
use Rattle.model.proofs.Promised.{new_drive_keeps}
use Rattle.model.proofs.Voided.{vetted_fits}
use Rattle.drive.proofs.Beginning.{begun_stands, begun_owns}
use Rattle.drive.proofs.begin.begin.Goals as goal

pub returns-clause-fresh : goal.returns-clause-fresh
returns-clause-fresh g c = λ _. rw (c.at.ensures, c.cell-start.ensures) (begun_stands _ _ _ (rw c.cell-start.ensures at c.lay_out.ensures))

pub returns-clause-own : goal.returns-clause-own
returns-clause-own g c = λ _ same.
    let l = g.G.Lattice.grid c.args.guide in
    let fits = vetted_fits l.size (g.G.Guide.aim c.args.guide).goal (length c.args.board.now) (length c.args.queue.now) (sym c.in_default.ensures.number) in
    let stands = g.met.C.Carrier.stands c.args.carrier.now in
    let records : l.size ≤ length c.lay_out.new.board = rw c.lay_out.auto.board fits.1 in
    rw (c.at.ensures, c.cell-start.ensures) (
    begun_owns _ _ _ (rw c.cell-start.ensures at c.lay_out.ensures) _ fits.2 (record {
      lattice = g.met.G.Lattice.lawful c.args.guide;
      guide = g.met.G.Guide.guiding c.args.guide;
      scale = g.met.M.Measure.ordered;
      start_inside = omega (arith, ap (λ k. k.size) same, stands.0);
      start_open = stands.1;
      goal_inside = fits.0;
    }) records
    )

-- an own drive is in a fit world
pub returns-clause-promise : goal.returns-clause-promise
returns-clause-promise g c = λ begun same. new_drive_keeps _ (returns-clause-own g c begun same).fit
