use Rattle.std.proofs.Common.{[], ◌∷◌, ◌++◌, refl, arith}
use Rattle.filing.specs.declared.pen.Row.{Row}
use Rattle.filing.proofs.Filed.{penned_none, penned_more}
use Rattle.survey.proofs.trip.Trip.follow.Goals as goal

pub loop-init : goal.loop-init
loop-init g c = (refl, record { rows = []; penned = penned_none c.args.pen.now c.args.buffer.now c.requires.0 })

pub loop-preserved : goal.loop-preserved
loop-preserved g c =
    let rows = c.loop.invariant.1.rows in
    let row : Row = record { cell = c.in_ok-cell.cell; length = c.tell-in-loop.result.length } in (
      omega arith,
      record {
        rows = rows ++ row ∷ [];
        penned = penned_more rows c.args.buffer.now c.loop.pen c.loop.buffer row (rows ++ row ∷ []) c.row.new.self c.row.new.buffer c.loop.invariant.1.penned c.requires.1 refl c.in_ok-row.ensures.pen c.in_ok-row.ensures.bytes;
      },
    )
