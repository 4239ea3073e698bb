use Rattle.std.proofs.Common.{◌≡◌, ◌++◌, min, List, ℕ, length, take, vec_items, sym, ap, ◌∙◌, append-nil, arith}
use Rattle.std.proofs.lemmas.List.{append_assoc, take_min}
use Rattle.std.specs.Iterator.Adapters.{take_source, take_count}
use Rattle.std.specs.Slice.Iter.{chunks_rest}
use Rattle.sites.specs.Site.{cells_of}
use Rattle.sites.proofs.Sheets.{row_first, no_cells}
use Rattle.sites.proofs.site.Site.cells.Goals as goal

pub loop-row-preserved : goal.loop-row-preserved
loop-row-preserved c =
    let w = c.args.self.now.heading.width in
    let steps = c.in-Some.ensures.steps in
    let row = c.in-Some.row.now in
    let rest = chunks_rest (take_source c.loop-row.row-iterator) in
    let left = cells_of w (take_count c.next.new.self) (chunks_rest (take_source c.next.new.self)) in
    let size = c.loop-row.invariant.0 in
    let front = row_first w _ _ rest row _ steps.1 steps.0.1.0 (steps.0.1.1 ∙ ap (λ n. min n (length rest)) size) in
    let piece : take c.min.result row ≡ take w row = ap (λ n. take n row) (omega arith) ∙ take_min w row in (
      steps.0.0 ∙ size,
      ap (λ (x : List ℕ). x ++ left) (c.in_ok-extend_from_slice.ensures.items ∙ ap (λ (x : List ℕ). vec_items c.loop-row.cells ++ x) piece)
          ∙ append_assoc (vec_items c.loop-row.cells) (take w row) left
          ∙ ap (λ (x : List ℕ). vec_items c.loop-row.cells ++ x) (sym front)
          ∙ c.loop-row.invariant.1,
    )

pub returns : goal.returns
returns c =
    let cells = vec_items c.loop-row.cells in
    let none = no_cells c.args.self.now.heading.width (take_count c.loop-row.row-iterator) (chunks_rest (take_source c.loop-row.row-iterator)) (λ some. (c.in-None.ensures.steps some).1.0) in
    sym (append-nil cells) ∙ ap (λ (x : List ℕ). cells ++ x) (sym none) ∙ c.loop-row.invariant.1
