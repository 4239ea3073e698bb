-- A text is accepted as a record exactly if it is the text of that record: both ways, line by line.
use Rattle.std.proofs.Common.{◌≡◌, ℕ, zero, suc, ◌+◌, ◌^◌, ◌<◌, eqb, List, [], ◌∷◌, ◌++◌, length, Some, None, Ok, codes, Option, sym, refl, ap, ◌∙◌, subst, inr, arith}
use Rattle.std.proofs.lemmas.List.{append-nil, append_assoc, length-append, length_push}
use Rattle.std.proofs.lemmas.Bool.{cond-false}
use Rattle.texts.specs.declared.heading.Heading.{Heading}
use Rattle.texts.specs.Fields.{column, field_text, fields_text, Fit, written_line}
use Rattle.texts.specs.FirstLines.{heading_of}
use Rattle.texts.specs.Headings.{heading_numbers, heading_check}
use Rattle.texts.specs.Lines.{after_line, next_number, due_line, end_check, lines_of}
use Rattle.texts.specs.Steps.{◌>>=◌}
use Rattle.texts.proofs.Cuts.{Unbroken, full_line, due_shorter}
use Rattle.texts.proofs.Fielded.{other_column, full_written, heading_there, heading_read, line_whole, written_due, written_after}
use Rattle.texts.proofs.Headings.{known_small}
use Rattle.texts.proofs.Steps.{on, passed, lifted}
use Rattle.filing.specs.declared.pen.Ending.{Ending}
use Rattle.filing.specs.declared.pen.Ending.TheVariants.{Done, Shut}
use Rattle.filing.specs.declared.pen.Row.{Row}
use Rattle.filing.specs.Pen.{path_line, row_line, ending_word, closing_line, rows_text, last_length, record_text}
use Rattle.records.specs.declared.fault.RecordFault.TheVariants as fault
use Rattle.records.specs.declared.line.Next.{Next}
use Rattle.records.specs.declared.line.Next.TheVariants as next
use Rattle.records.specs.Format.{text_of, rows_numbers, Kept, RecordLaw}
use Rattle.records.specs.Reading.{in_text, in_heading, record_heading, start_row, announced, as_announced, next_of}
use Rattle.records.specs.Records.{Standing, opened, item_of, RecordValue, below, record_of}
use Rattle.records.proofs.Below.{behind, gone_on, below_next}
use Rattle.records.proofs.Items.{item_row, item_end}
use Rattle.records.proofs.Rows.{start_there, start_read, next_there, next_read, closing_there, closing_read}

-- the text of a record, line after line
grouped : (h : Heading) (rows : List Row) (ending : Ending) (rock : ℕ) → record_text h rows ending rock ≡ path_line h ++ (row_line 0 h.start 0 ++ (rows_text 0 rows ++ closing_line ending (length rows) (last_length 0 rows) rock))
grouped h rows ending rock = simp append_assoc

-- ---- what is accepted is laid out so

-- the lines below row 0 and these rows are more rows and the closing line
record Tail (h : Heading) (rows : List Row) (u : List ℕ) (v : RecordValue) : Type 0 where
  heading : v.heading ≡ h
  more : List Row
  all : v.rows ≡ rows ++ more
  text : u ≡ rows_text (length rows) more ++ closing_line v.ending (length v.rows) (last_length 0 v.rows) v.rock
  fit : Fit (v.rock ∷ length v.rows ∷ rows_numbers more)

tail_row : (h : Heading) (rows : List Row) (row : Row) (u after : List ℕ) (v : RecordValue) → u ≡ row_line (length rows + 1) row.cell row.length ++ after → row.cell < 2 ^ 32 → row.length < 2 ^ 32 → Tail h (rows ++ row ∷ []) after v → Tail h rows u v
tail_row h rows row u after v e cell far t =
    let line = row_line (length rows + 1) row.cell row.length in
    let last = closing_line v.ending (length v.rows) (last_length 0 v.rows) v.rock in
    record {
      heading = t.heading;
      more = row ∷ t.more;
      all = t.all ∙ append_assoc rows (row ∷ []) t.more;
      text =
          e
          ∙ ap (λ (x : List ℕ). line ++ x) (t.text ∙ ap (λ k. rows_text k t.more ++ last) (length_push rows row))
          ∙ sym (append_assoc line (rows_text (length rows + 1) t.more) last);
      fit = (t.fit.0, (t.fit.1.0, (cell, (far, t.fit.1.1))));
    }

tail_read : (k : ℕ) (h : Heading) (rows : List Row) (n : ℕ) (u : List ℕ) (v : RecordValue) → length u < k → below h rows n (lines_of n u) ≡ Ok v → Tail h rows u v
tail_read zero h rows n u v short e = absurd (omega arith)
tail_read (suc k) h rows n u v short e =
    let p = passed (item_of (behind h rows n u)) _ (sym (below_next h rows n u) ∙ e) in
    by p.0 p.1 p.2 (λ row. tail_read k h (rows ++ row ∷ []) (next_number n) (after_line u) v)
  where
    by : (x : Next) → item_of (behind h rows n u) ≡ Ok x → gone_on h rows n u x ≡ Ok v → ((row : Row) → length (after_line u) < k → below h (rows ++ row ∷ []) (next_number n) (lines_of (next_number n) (after_line u)) ≡ Ok v → Tail h (rows ++ row ∷ []) (after_line u) v) → Tail h rows u v
    by (next.Row row) i g rest =
        let a = item_row (behind h rows n u) row i in
        let w = next_read a.0 (length rows) row a.2 in
        let less = due_shorter n u a.0 a.1 in
        tail_row h rows row u (after_line u) v (line_whole n u a.0 [] _ a.1 w.0) w.1.1.0 w.1.1.1.0 (rest row (omega arith) g)
    by (next.End c) i g rest =
        let a = item_end (behind h rows n u) c i in
        let w = closing_read a.0 c.ending (length rows) (last_length 0 rows) c.rock a.2 in
        let last = closing_line c.ending (length rows) (last_length 0 rows) c.rock in
        let here : u ≡ last = line_whole n u a.0 (ending_word c.ending) _ a.1 w.0 ∙ ap (λ (x : List ℕ). last ++ x) a.3 ∙ append-nil last in
        let same : record { heading = h; rows = rows; ending = c.ending; rock = c.rock } ≡ v = cc in
        subst (Tail h rows u) same (record { heading = refl; more = []; all = sym (append-nil rows); text = here; fit = (w.1.1.1.0, (w.1.0, tt)) })

-- line 1 and row 0
record Opening (t : List ℕ) (s : Standing) : Type 0 where
  known : heading_check s.heading ≡ Ok (tt {0})
  fit : Fit (heading_numbers s.heading)
  text : t ≡ path_line s.heading ++ (row_line 0 s.heading.start 0 ++ s.rest)

opening_read : (t : List ℕ) (s : Standing) → opened t ≡ Ok s → Opening t s
unfolding opened record_heading
opening_read t s e =
    let first = passed (in_text (due_line 1 t)) _ e in
    let a = passed (in_text (heading_of first.0 (codes "PATH")) >>= λ x. in_heading (heading_check x) >>= λ _. Ok x) _ first.2 in
    let b = passed (in_text (heading_of first.0 (codes "PATH"))) _ a.1 in
    let c = passed (in_heading (heading_check b.0)) _ b.2 in
    let second = passed (in_text (due_line 2 (after_line t))) _ a.2 in
    let start = passed (start_row a.0 second.0) _ second.2 in
    let same : b.0 ≡ a.0 = cc (c.2) in
    let read : heading_of first.0 (codes "PATH") ≡ Ok a.0 = sym (lifted fault.Text (heading_of first.0 (codes "PATH")) b.1) ∙ ap Ok same in
    let w = heading_read first.0 (codes "PATH") refl a.0 read in
    let whole = line_whole 1 t first.0 (codes "PATH") (heading_numbers a.0) (sym (lifted fault.Text (due_line 1 t) first.1)) w.0 in
    let next_line = line_whole 2 (after_line t) second.0 [] _ (sym (lifted fault.Text (due_line 2 (after_line t)) second.1)) (start_read second.0 a.0 start.1) in
    let there : record { heading = a.0; rest = after_line (after_line t); line = 3; row = 0; length = 0 } ≡ s = cc (start.2) in
    subst (Opening t) there (record {
      known = ap heading_check (sym same) ∙ sym (lifted fault.Heading (heading_check b.0) c.1);
      fit = w.1;
      text = whole ∙ ap (λ (x : List ℕ). path_line a.0 ++ x) next_line;
    })

laid : (t : List ℕ) (v : RecordValue) → record_of t ≡ Ok v → (t ≡ text_of v) × Kept v
unfolding record_of
laid t v e =
    let p = passed (opened t) _ e in
    let s = p.0 in
    let o = opening_read t s p.1 in
    let tail = tail_read (suc (length s.rest)) s.heading [] s.line s.rest v (omega arith) p.2 in
    let last = closing_line v.ending (length v.rows) (last_length 0 v.rows) v.rock in
    let front : Heading → List ℕ → List ℕ = λ x y. path_line x ++ (row_line 0 x.start 0 ++ y) in
    let rows : s.rest ≡ rows_text 0 v.rows ++ last = tail.text ∙ ap (λ (x : List Row). rows_text 0 x ++ last) (sym tail.all) in
    let head = tail.heading in (
      o.text ∙ ap (front s.heading) rows ∙ ap (λ (x : Heading). front x (rows_text 0 v.rows ++ last)) (sym head) ∙ sym (grouped v.heading v.rows v.ending v.rock),
      record {
        known = ap heading_check head ∙ o.known;
        numbers = subst (λ (x : Heading). Fit (x.start ∷ x.goal ∷ v.rock ∷ length v.rows ∷ rows_numbers v.rows)) (sym head) (
          o.fit.1.1.0,
          (o.fit.1.1.1.0, (tail.fit.0, (tail.fit.1.0, subst (λ (x : List Row). Fit (rows_numbers x)) (sym tail.all) tail.fit.1.1))),
        );
      },
    )

-- ---- what is laid out so is accepted

-- no row begins like a closing line
row_announced : (n : ℕ) (ns : List ℕ) → announced (fields_text (n ∷ ns)) ≡ None
unfolding field_text
row_announced n ns =
    cond-false (eqb (column n 9) 68) _ _ (other_column n 9 68 (inr (omega arith)))
    ∙ cond-false (eqb (column n 9) 83) _ _ (other_column n 9 83 (inr (omega arith)))

ending_announced : (ending : Ending) (ns : List ℕ) → announced (ending_word ending ++ fields_text ns) ≡ Some ending
ending_announced Done ns = refl
ending_announced Shut ns = refl

ending_unbroken : (ending : Ending) → Unbroken (ending_word ending)
ending_unbroken Done = (refl, (refl, (refl, (refl, tt))))
ending_unbroken Shut = (refl, (refl, (refl, (refl, tt))))

module _ (h : Heading) (rows : List Row) (n : ℕ) where
  row_item : (row : Row) (after : List ℕ) → Fit ((length rows + 1) ∷ row.cell ∷ row.length ∷ []) → item_of (behind h rows n (row_line (length rows + 1) row.cell row.length ++ after)) ≡ Ok (next.Row row)
  unfolding item_of
  row_item row after fit =
      let ns : List ℕ = (length rows + 1) ∷ row.cell ∷ row.length ∷ [] in
      let l = full_line n ([] ++ fields_text ns) in
      let read : next_of (length rows) (last_length 0 rows) l ≡ Ok (next.Row row) =
      ap (λ (o : Option Ending). as_announced o (length rows) (last_length 0 rows) l) (row_announced (length rows + 1) (row.cell ∷ row.length ∷ []))
      ∙ on _ (next_there l (length rows) row (full_written n [] ns) fit) in
      on _ (ap in_text (written_due [] ns after tt n)) ∙ on _ read

  end_item : (ending : Ending) (rock : ℕ) → Fit (length rows ∷ last_length 0 rows ∷ rock ∷ []) → item_of (behind h rows n (closing_line ending (length rows) (last_length 0 rows) rock)) ≡ Ok (next.End (record { ending = ending; rock = rock }))
  unfolding item_of
  end_item ending rock fit =
      let ns : List ℕ = length rows ∷ last_length 0 rows ∷ rock ∷ [] in
      let word = ending_word ending in
      let l = full_line n (word ++ fields_text ns) in
      let last = written_line word ns in
      let read : next_of (length rows) (last_length 0 rows) l ≡ Ok (next.End (record { ending = ending; rock = rock })) =
      ap (λ (o : Option Ending). as_announced o (length rows) (last_length 0 rows) l) (ending_announced ending ns)
      ∙ on _ (closing_there l ending (length rows) (last_length 0 rows) rock (full_written n word ns) fit) in
      ap (λ (x : List ℕ). item_of (behind h rows n x)) (sym (append-nil last))
      ∙ on _ (ap in_text (written_due word ns [] (ending_unbroken ending) n))
      ∙ on _ read
      ∙ on _ (ap in_text (ap (end_check (next_number n)) (written_after word ns [] (ending_unbroken ending))))

tail_there : (h : Heading) (ending : Ending) (rock : ℕ) → rock < 2 ^ 32 → (more rows : List Row) (n : ℕ) → length (rows ++ more) < 2 ^ 32 → last_length 0 (rows ++ more) < 2 ^ 32 → Fit (rows_numbers more) → below h rows n (lines_of n (rows_text (length rows) more ++ closing_line ending (length (rows ++ more)) (last_length 0 (rows ++ more)) rock)) ≡ Ok (record { heading = h; rows = rows ++ more; ending = ending; rock = rock })
tail_there h ending rock small [] rows n count far fit =
    let none : rows ++ [] ≡ rows = append-nil rows in
    subst (λ (x : List Row). length x < 2 ^ 32 → last_length 0 x < 2 ^ 32 → below h rows n (lines_of n (closing_line ending (length x) (last_length 0 x) rock)) ≡ Ok (record { heading = h; rows = x; ending = ending; rock = rock })) (sym none)
    (λ c f. below_next h rows n (closing_line ending (length rows) (last_length 0 rows) rock) ∙ on _ (end_item h rows n ending rock (c, (f, (small, tt))))) count far
tail_there h ending rock small (row ∷ more) rows n count far fit =
    let joined : (rows ++ row ∷ []) ++ more ≡ rows ++ row ∷ more = append_assoc rows (row ∷ []) more in
    let all = rows ++ row ∷ more in
    let size = length-append rows (row ∷ more) in
    let line = row_line (length rows + 1) row.cell row.length in
    let last : List Row → List ℕ = λ x. closing_line ending (length x) (last_length 0 x) rock in
    let after = rows_text (length rows + 1) more ++ last all in
    let text : (line ++ rows_text (length rows + 1) more) ++ last all ≡ line ++ after = append_assoc line (rows_text (length rows + 1) more) (last all) in
    let cut : after_line (line ++ after) ≡ after = written_after [] _ after tt in
    let rest = tail_there h ending rock small more (rows ++ row ∷ []) (next_number n) (subst (λ (x : List Row). length x < 2 ^ 32) (sym joined) count) (subst (λ (x : List Row). last_length 0 x < 2 ^ 32) (sym joined) far) fit.1.1 in
    let there : below h (rows ++ row ∷ []) (next_number n) (lines_of (next_number n) after) ≡ Ok (record { heading = h; rows = all; ending = ending; rock = rock }) =
    ap (λ k. below h (rows ++ row ∷ []) (next_number n) (lines_of (next_number n) (rows_text k more ++ last all))) (sym (length_push rows row))
    ∙ subst (λ (x : List Row). below h (rows ++ row ∷ []) (next_number n) (lines_of (next_number n) (rows_text (length (rows ++ row ∷ [])) more ++ last x)) ≡ Ok (record { heading = h; rows = x; ending = ending; rock = rock })) joined rest in
    ap (λ (x : List ℕ). below h rows n (lines_of n x)) text
    ∙ below_next h rows n (line ++ after)
    ∙ on _ (row_item h rows n row after (omega arith, (fit.0, (fit.1.0, tt))))
    ∙ ap (λ (x : List ℕ). below h (rows ++ row ∷ []) (next_number n) (lines_of (next_number n) x)) cut
    ∙ there

-- the last length is one of the rows'
last_fits : (far : ℕ) (rows : List Row) → far < 2 ^ 32 → Fit (rows_numbers rows) → last_length far rows < 2 ^ 32
last_fits far [] small fit = small
last_fits far (row ∷ rows) small fit = last_fits row.length rows fit.1.0 fit.1.1

opening_there : (h : Heading) (rest : List ℕ) → heading_check h ≡ Ok (tt {0}) → h.start < 2 ^ 32 → h.goal < 2 ^ 32 → opened (path_line h ++ (row_line 0 h.start 0 ++ rest)) ≡ Ok (behind h [] 3 rest)
unfolding opened record_heading
opening_there h rest known start goal =
    let word = codes "PATH" in
    let ns = heading_numbers h in
    let zero_row : List ℕ = 0 ∷ h.start ∷ 0 ∷ [] in
    let below_first = row_line 0 h.start 0 ++ rest in
    let whole : Unbroken word = (refl, (refl, (refl, (refl, tt)))) in
    let first = full_line 1 (word ++ fields_text ns) in
    let second = full_line 2 ([] ++ fields_text zero_row) in
    let head : record_heading first ≡ Ok h = on _ (ap in_text (heading_there first word refl h (full_written 1 word ns) (known_small h known start goal))) ∙ on _ (ap in_heading known) in
    let cut = written_after word ns below_first whole in
    let left = ap after_line cut ∙ written_after [] zero_row rest tt in
    on _ (ap in_text (written_due word ns below_first whole 1))
    ∙ on _ head
    ∙ on _ (ap in_text (ap (due_line 2) cut ∙ written_due [] zero_row rest tt 2))
    ∙ on _ (start_there second h (full_written 2 [] zero_row) start)
    ∙ (λ i. Ok (record { heading = h; rest = left i; line = 3; row = 0; length = 0 }))

pub record_there : (v : RecordValue) → Kept v → record_of (text_of v) ≡ Ok v
unfolding record_of
record_there v k =
    let h = v.heading in
    let fit = k.numbers in
    let numbers = fit.1.1.1.1 in
    ap record_of (grouped h v.rows v.ending v.rock)
    ∙ on _ (opening_there h (rows_text 0 v.rows ++ closing_line v.ending (length v.rows) (last_length 0 v.rows) v.rock) k.known fit.0 fit.1.0)
    ∙ tail_there h v.ending v.rock fit.1.1.0 v.rows [] 3 fit.1.1.1.0 (last_fits 0 v.rows (omega arith) numbers) numbers

pub record_law : (t : List ℕ) → RecordLaw t
record_law t v = (laid t v, λ e k. ap record_of e ∙ record_there v k)
