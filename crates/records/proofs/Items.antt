-- What the next line of a record was read as.
use Rattle.std.proofs.Common.{◌≡◌, ℕ, ◌+◌, ◌^◌, ◌<◌, [], Some, None, Ok, Option, sym, refl, ap, ◌∙◌, subst}
use Rattle.texts.specs.Lines.{TextLine, after_line, next_number, due_line, end_check}
use Rattle.texts.proofs.Cuts.{nothing_behind}
use Rattle.texts.proofs.Steps.{passed, lifted}
use Rattle.filing.specs.declared.pen.Ending.{Ending}
use Rattle.filing.specs.declared.pen.Row.{Row}
use Rattle.records.specs.declared.fault.RecordFault.TheVariants.{Text}
use Rattle.records.specs.declared.line.Closing.{Closing}
use Rattle.records.specs.declared.line.Next.{Next}
use Rattle.records.specs.declared.line.Next.TheVariants as next
use Rattle.records.specs.Reading.{in_text, next_row, closing_line_of, announced, as_announced, next_of}
use Rattle.records.specs.Records.{Standing, ended, item_of}
use Rattle.records.proofs.Rows.{next_read}

-- ---- what a line below row 0 was read as

pub row_was : (number far : ℕ) (l : TextLine) (row : Row) → next_of number far l ≡ Ok (next.Row row) → (announced l.bytes ≡ None) × (next_row number l ≡ Ok row)
row_was number far l row e = by (announced l.bytes) refl e
  where
    by : (o : Option Ending) → announced l.bytes ≡ o → as_announced o number far l ≡ Ok (next.Row row) → (announced l.bytes ≡ None) × (next_row number l ≡ Ok row)
    by None p h = let q = passed (next_row number l) _ h in let same : q.0 ≡ row = cc (q.2) in (p, q.1 ∙ ap Ok same)
    by (Some ending) p h = let q = passed (closing_line_of ending number far l) _ h in absurd (cc (q.2))

pub end_was : (number far : ℕ) (l : TextLine) (c : Closing) → next_of number far l ≡ Ok (next.End c) → (announced l.bytes ≡ Some c.ending) × (closing_line_of c.ending number far l ≡ Ok c.rock)
end_was number far l c e = by (announced l.bytes) refl e
  where
    by : (o : Option Ending) → announced l.bytes ≡ o → as_announced o number far l ≡ Ok (next.End c) → (announced l.bytes ≡ Some c.ending) × (closing_line_of c.ending number far l ≡ Ok c.rock)
    by None p h = let q = passed (next_row number l) _ h in absurd (cc (q.2))
    by (Some ending) p h =
        let q = passed (closing_line_of ending number far l) _ h in
        let same : record { ending = ending; rock = q.0 } ≡ c = cc (q.2) in
        (p ∙ ap (λ (x : Closing). Some x.ending) same, subst (λ (x : Closing). closing_line_of x.ending number far l ≡ Ok x.rock) same q.1)

-- a row that was read has a number that fits
pub row_counts : (number far : ℕ) (l : TextLine) (row : Row) → next_of number far l ≡ Ok (next.Row row) → number + 1 < 2 ^ 32
row_counts number far l row e = (next_read l number row (row_was number far l row e).1).1.0

-- ---- what the next line was read as

item_was : (s : Standing) (x : Next) → item_of s ≡ Ok x → (l : TextLine) × (due_line s.line s.rest ≡ Ok l) × (next_of s.row s.length l ≡ Ok x) × (ended x (next_number s.line) (after_line s.rest) ≡ Ok x)
unfolding item_of
item_was s x e =
    let d = passed (in_text (due_line s.line s.rest)) _ e in
    let p = passed (next_of s.row s.length d.0) _ d.2 in
    let same = kept p.0 p.2 in
    (d.0, sym (lifted Text (due_line s.line s.rest) d.1), p.1 ∙ ap Ok same, subst (λ (y : Next). ended y (next_number s.line) (after_line s.rest) ≡ Ok x) same p.2)
  where
    kept : (y : Next) → ended y (next_number s.line) (after_line s.rest) ≡ Ok x → y ≡ x
    kept (next.Row row) h = cc
    kept (next.End c) h = let q = passed (in_text (end_check (next_number s.line) (after_line s.rest))) _ h in cc (q.2)

pub item_row : (s : Standing) (row : Row) → item_of s ≡ Ok (next.Row row) → (l : TextLine) × (due_line s.line s.rest ≡ Ok l) × (next_row s.row l ≡ Ok row)
item_row s row e = let w = item_was s (next.Row row) e in (w.0, w.1, (row_was s.row s.length w.0 row w.2).1)

pub item_end : (s : Standing) (c : Closing) → item_of s ≡ Ok (next.End c) → (l : TextLine) × (due_line s.line s.rest ≡ Ok l) × (closing_line_of c.ending s.row s.length l ≡ Ok c.rock) × (after_line s.rest ≡ [])
item_end s c e =
    let w = item_was s (next.End c) e in
    let q = passed (in_text (end_check (next_number s.line) (after_line s.rest))) _ w.3 in
    (w.0, w.1, (end_was s.row s.length w.0 c w.2).1, nothing_behind (next_number s.line) (after_line s.rest) (sym (lifted Text (end_check (next_number s.line) (after_line s.rest)) q.1)))
