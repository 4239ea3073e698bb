-- Whole records: what a pen has written, from its beginning to its closing.
use Rattle.std.proofs.Common.{◌≡◌, ℕ, ◌+◌, ◌*◌, ◌≤◌, Bool, true, false, cond, leb, List, [], ◌∷◌, ◌++◌, length, Ok, Err, Result, sym, refl, ap, ◌∙◌, append_assoc, arith, length-append}
use Rattle.std.proofs.lemmas.List.{append-nil, length_push}
use Rattle.std.proofs.lemmas.Bool.{leb-true, and_parts, cond-true}
use Rattle.texts.specs.declared.fault.HeadingFault.{HeadingFault}
use Rattle.filing.specs.declared.fault.PenFault.TheVariants.{Full}
use Rattle.texts.specs.declared.heading.Heading.{Heading}
use Rattle.filing.specs.declared.pen.Ending.{Ending}
use Rattle.filing.specs.declared.pen.Pen.{Pen}
use Rattle.filing.specs.declared.pen.Row.{Row}
use Rattle.filing.specs.Pen.{row_line, begin_lines, checked, next_line, after_row, last_line, closing_line, rows_text, last_length, record_text, pen_behind, Penned, rows_fit}
use Rattle.filing.specs.Written.{overwritten}
use Rattle.filing.proofs.Writing.{length_path_line, length_row_line, overwritten_none, overwritten_more}

-- ---- rows one after the other

pub length_rows_text : (number : ℕ) (rows : List Row) → length (rows_text number rows) ≡ 31 * length rows
length_rows_text number [] = refl
length_rows_text number (row ∷ rows) =
    let here = length_row_line (number + 1) row.cell row.length in
    let rest = length_rows_text (number + 1) rows in
    simp length-append (omega arith)

pub rows_text_push : (number : ℕ) (rows : List Row) (row : Row) (n : ℕ) → n ≡ number + length rows + 1 → rows_text number (rows ++ row ∷ []) ≡ rows_text number rows ++ row_line n row.cell row.length
rows_text_push number [] row n e =
    let k : number + 1 ≡ n = omega arith in
    append-nil (row_line (number + 1) row.cell row.length) ∙ ap (λ (m : ℕ). row_line m row.cell row.length) k
rows_text_push number (first ∷ rows) row n e =
    let here = row_line (number + 1) first.cell first.length in
    ap (λ (t : List ℕ). here ++ t) (rows_text_push (number + 1) rows row n (omega arith))
    ∙ sym (append_assoc here (rows_text (number + 1) rows) (row_line n row.cell row.length))

pub last_length_push : (far : ℕ) (rows : List Row) (row : Row) → last_length far (rows ++ row ∷ []) ≡ row.length
last_length_push far [] row = refl
last_length_push far (first ∷ rows) row = last_length_push first.length rows row

pub length_begin_lines : (h : Heading) → length (begin_lines h) ≡ 96
length_begin_lines h =
    let path = length_path_line h in
    let row = length_row_line 0 h.start 0 in
    simp length-append (omega arith)

-- rows that fit leave room for the first line, row 0 and the closing line
pub room_for_rows : (rows bytes : ℕ) → true ≡ rows_fit rows bytes → 131 + 31 * rows ≤ bytes
room_for_rows rows bytes e = leb-true (131 + 31 * rows) bytes (and_parts (leb rows 4294967295) (leb (131 + 31 * rows) bytes) (sym e)).1

-- ---- from the beginning to the closing

-- a call that passes its checks
pub accepted : {X : Type 0} (check : Result (Unit {0}) HeadingFault) (room : Bool) (x y : X) → check ≡ Ok tt → room ≡ true → x ≡ y → Ok x ≡ checked check (cond room (Ok y) (Err Full))
accepted {X = X} check room x y good fits e =
    ap (λ (z : X). Ok z) e ∙ sym (cond-true room (Ok y) (Err Full) fits) ∙ ap (λ (t : Result (Unit {0}) HeadingFault). checked t (cond room (Ok y) (Err Full))) (sym good)

-- what an accepted beginning gives
closed_bytes : {X Y : Type 0} (room : Bool) (x y : X) (u : Y) → Ok x ≡ cond room (Ok y) (Err u) → x ≡ y
closed_bytes true x y u e = cc
closed_bytes false x y u e = cc

pub begun_pen : {X : Type 0} (check : Result (Unit {0}) HeadingFault) (room : Bool) (x y : X) → Ok x ≡ checked check (cond room (Ok y) (Err Full)) → x ≡ y
begun_pen (Ok _) room x y e = closed_bytes room x y Full e
begun_pen (Err f) room x y e = cc

-- what it was accepted for
pub begun_checks : {X : Type 0} (check : Result (Unit {0}) HeadingFault) (room : Bool) (x y : X) → Ok x ≡ checked check (cond room (Ok y) (Err Full)) → (check ≡ Ok tt) × (room ≡ true)
begun_checks (Ok _) true x y e = (refl, refl)
begun_checks (Ok _) false x y e = absurd cc
begun_checks (Err f) room x y e = absurd cc

pub penned_none : (pen : Pen) (begun : List ℕ) → pen ≡ pen_behind [] → Penned [] begun pen begun
penned_none pen begun e = record { stands = e; bytes = overwritten_none begun 96 }

-- an accepted row
pub penned_more : (rows : List Row) (begun : List ℕ) (pen : Pen) (buffer : List ℕ) (row : Row) (rows' : List Row) (pen' : Pen) (buffer' : List ℕ) → Penned rows begun pen buffer → 96 ≤ length begun → rows' ≡ rows ++ row ∷ [] → pen' ≡ after_row pen row.length → buffer' ≡ overwritten buffer pen.at (next_line pen row.cell row.length) → Penned rows' begun pen' buffer'
penned_more rows begun pen buffer row rows' pen' buffer' p within one_more moved written =
    let count = length_push rows row in
    let so_far = length_rows_text 0 rows in
    let at : pen.at ≡ 96 + 31 * length rows = ap (λ (q : Pen). q.at) p.stands in
    let number : pen.row ≡ length rows = ap (λ (q : Pen). q.row) p.stands in
    let at_next : pen.at + 31 ≡ 96 + 31 * length (rows ++ row ∷ []) = omega arith in
    let number-next : pen.row + 1 ≡ length (rows ++ row ∷ []) = omega arith in
    let stands : after_row pen row.length ≡ pen_behind (rows ++ row ∷ []) = λ i. record { at = at_next i; row = number-next i; length = sym (last_length_push 0 rows row) i } in
    record {
      stands = moved ∙ stands ∙ ap pen_behind (sym one_more);
      bytes =
          overwritten_more begun buffer buffer' 96 pen.at (rows_text 0 rows) (next_line pen row.cell row.length) p.bytes written (omega arith) within
          ∙ ap (overwritten begun 96) (sym (rows_text_push 0 rows row (pen.row + 1) (omega arith)) ∙ ap (rows_text 0) (sym one_more));
    }

-- an accepted closing
pub penned_closed : (rows : List Row) (begun : List ℕ) (pen : Pen) (buffer : List ℕ) (h : Heading) (start : List ℕ) (ending : Ending) (rock : ℕ) (last : List ℕ) → Penned rows begun pen buffer → begun ≡ overwritten start 0 (begin_lines h) → last ≡ overwritten buffer pen.at (last_line ending pen rock) → last ≡ overwritten start 0 (record_text h rows ending rock)
penned_closed rows begun pen buffer h start ending rock last p b e =
    let so_far = length_rows_text 0 rows in
    let first = length_begin_lines h in
    let both = length-append (begin_lines h) (rows_text 0 rows) in
    let at : pen.at ≡ 96 + 31 * length rows = ap (λ (q : Pen). q.at) p.stands in
    let front = overwritten_more start begun buffer 0 96 (begin_lines h) (rows_text 0 rows) b p.bytes (omega arith) (omega arith) in
    overwritten_more start buffer last 0 pen.at (begin_lines h ++ rows_text 0 rows) (last_line ending pen rock) front e (omega arith) (omega arith)
    ∙ ap (λ (q : Pen). overwritten start 0 ((begin_lines h ++ rows_text 0 rows) ++ closing_line ending q.row q.length rock)) p.stands
