use Rattle.std.proofs.Common.{◌≡◌, ◌+◌, ◌++◌, vec_items}
use Rattle.std.specs.Iterator.Adapters.{take_source, take_count}
use Rattle.std.specs.Slice.Iter.{chunks_rest, chunks_size}
use Rattle.sites.specs.Site.{cells_of}
use Rattle.sites.proofs.site.Site.cells.Given as goal

abbrev pub invariant-loop-row : goal.invariant-loop-row
invariant-loop-row l =
    (chunks_size (take_source l.row-iterator) ≡ l.width + 1)
    × (vec_items l.cells ++ cells_of l.width (take_count l.row-iterator) (chunks_rest (take_source l.row-iterator))
    ≡ cells_of l.self.heading.width l.self.heading.height l.self.sheet.now)
