-- Whole records: the lines below row 0 one by one, and the law of the format.
use Rattle.std.proofs.Common.{◌≡◌, ℕ, ◌+◌, ◌<◌, List, [], ◌∷◌, ◌++◌, length, Ok, Err, Result, sym, refl, ap, ◌∙◌, subst, arith}
use Rattle.texts.specs.declared.fault.TextFault.{TextFault}
use Rattle.texts.specs.declared.heading.Heading.{Heading}
use Rattle.texts.specs.Lines.{TextLine, line_of, line_ended, after_line, next_number, due_line, end_check, lines_of}
use Rattle.texts.specs.Steps.{◌>>=◌}
use Rattle.texts.proofs.Cuts.{lines_more, due_shorter}
use Rattle.texts.proofs.Steps.{on, passed, lifted}
use Rattle.filing.specs.declared.pen.Row.{Row}
use Rattle.filing.specs.Pen.{last_length}
use Rattle.filing.proofs.Filed.{last_length_push}
use Rattle.std.proofs.lemmas.List.{length_push}
use Rattle.records.specs.declared.fault.RecordFault.{RecordFault}
use Rattle.records.specs.declared.fault.RecordFault.TheVariants.{Text}
use Rattle.records.specs.declared.line.Closing.{Closing}
use Rattle.records.specs.declared.line.Next.{Next}
use Rattle.records.specs.declared.line.Next.TheVariants as next
use Rattle.records.specs.Reading.{in_text, record_heading, start_row, next_of}
use Rattle.records.specs.Records.{Standing, opened, ended, item_of, moved_on, RecordValue, none_left, below, record_of}

-- where a reader stands behind row 0 and these rows
abbrev pub behind : Heading → List Row → ℕ → List ℕ → Standing
behind h rows n t = record { heading = h; rest = t; line = n; row = length rows; length = last_length 0 rows }

-- what comes of the next line
abbrev pub gone_on : Heading → List Row → ℕ → List ℕ → Next → Result RecordValue RecordFault
gone_on h rows n t (next.Row row) = below h (rows ++ row ∷ []) (next_number n) (lines_of (next_number n) (after_line t))
gone_on h rows n t (next.End c) = Ok (record { heading = h; rows = rows; ending = c.ending; rock = c.rock })

left_is : (n : ℕ) (t : List ℕ) → none_left (lines_of n t) ≡ end_check n t
left_is n [] = refl
left_is n (b ∷ bs) = refl

-- one line more is one item more
pub below_next : (h : Heading) (rows : List Row) (n : ℕ) (t : List ℕ) → below h rows n (lines_of n t) ≡ (item_of (behind h rows n t) >>= gone_on h rows n t)
unfolding item_of
below_next h rows n [] = refl
below_next h rows n (b ∷ bs) =
    let t : List ℕ = b ∷ bs in
    let l : TextLine = record { number = n; bytes = line_of t; ended = line_ended t } in
    ap (below h rows n) (lines_more n t l refl) ∙ by (next_of (length rows) (last_length 0 rows) l)
  where
    by : (r : Result Next RecordFault) → (r >>= λ x. elim x [
      | next.Row row ↦ below h (rows ++ row ∷ []) (next_number n) (lines_of (next_number n) (after_line (b ∷ bs)))
      | next.End c ↦ in_text (none_left (lines_of (next_number n) (after_line (b ∷ bs)))) >>= λ _. Ok (record { heading = h; rows = rows; ending = c.ending; rock = c.rock })
    ]) ≡ ((r >>= λ x. ended x (next_number n) (after_line (b ∷ bs))) >>= gone_on h rows n (b ∷ bs))
    by (Err f) = refl
    by (Ok (next.Row row)) = refl
    by (Ok (next.End c)) =
        on _ (ap in_text (left_is (next_number n) (after_line (b ∷ bs))))
        ∙ closing (end_check (next_number n) (after_line (b ∷ bs)))
      where
        closing : (e : Result (Unit {0}) TextFault) → (in_text e >>= λ _. Ok (record { heading = h; rows = rows; ending = c.ending; rock = c.rock })) ≡ ((in_text e >>= λ _. Ok (next.End c)) >>= gone_on h rows n (b ∷ bs))
        closing (Ok u) = refl
        closing (Err f) = refl

-- ---- a reader of a text

-- a reader stands behind some rows of a text, and what is left of the text gives the record
pub record Reads (t : List ℕ) (s : Standing) : Type 0 where
  pub rows : List Row
  pub stands : s ≡ behind s.heading rows s.line s.rest
  pub same : record_of t ≡ below s.heading rows s.line (lines_of s.line s.rest)

pub reads_opened : (t : List ℕ) (s : Standing) → Ok s ≡ opened t → Reads t s
unfolding record_of opened
reads_opened t s e =
    let first = passed (in_text (due_line 1 t)) _ (sym e) in
    let h = passed (record_heading first.0) _ first.2 in
    let second = passed (in_text (due_line 2 (after_line t))) _ h.2 in
    let start = passed (start_row h.0 second.0) _ second.2 in
    let there : record { heading = h.0; rest = after_line (after_line t); line = 3; row = 0; length = 0 } ≡ s = cc (start.2) in
    record { rows = []; stands = subst (λ (x : Standing). x ≡ behind x.heading [] x.line x.rest) there refl; same = sym (on _ e) }

-- the next line
module _ (t : List ℕ) (s : Standing) (r : Reads t s) where
  next_is : (x : Result Next RecordFault) → x ≡ item_of s → record_of t ≡ (x >>= gone_on s.heading r.rows s.line s.rest)
  next_is x e = r.same ∙ below_next s.heading r.rows s.line s.rest ∙ on _ (ap item_of (sym r.stands) ∙ sym e)

  pub reads_row : (row : Row) (s' : Standing) → Ok (next.Row row) ≡ item_of s → s' ≡ moved_on s (Ok (next.Row row)) → Reads t s'
  reads_row row s' e f =
      let count = length_push r.rows row in
      let number : s.row + 1 ≡ length (r.rows ++ row ∷ []) = omega (arith, ap (λ (x : Standing). x.row) r.stands) in
      let far : row.length ≡ last_length 0 (r.rows ++ row ∷ []) = sym (last_length_push 0 r.rows row) in
      let moved : moved_on s (Ok (next.Row row)) ≡ behind s.heading (r.rows ++ row ∷ []) (next_number s.line) (after_line s.rest) = λ i. record { heading = s.heading; rest = after_line s.rest; line = next_number s.line; row = number i; length = far i } in
      subst (Reads t) (sym f) (record { rows = r.rows ++ row ∷ []; stands = moved; same = next_is _ e })

  pub reads_end : (c : Closing) → Ok (next.End c) ≡ item_of s → record_of t ≡ Ok (record { heading = s.heading; rows = r.rows; ending = c.ending; rock = c.rock })
  reads_end c e = next_is _ e

  pub reads_wrong : (f : RecordFault) → Err f ≡ item_of s → record_of t ≡ Err f
  reads_wrong f e = next_is _ e

-- a record that is not even opened
pub unopened : (t : List ℕ) (f : RecordFault) → Err f ≡ opened t → record_of t ≡ Err f
unfolding record_of
unopened t f e = sym (on _ e)

-- there is less to read behind a line
pub less_left : (s : Standing) (x : Next) → Ok x ≡ item_of s → length (after_line s.rest) < length s.rest
unfolding item_of
less_left s x e =
    let d = passed (in_text (due_line s.line s.rest)) _ (sym e) in
    due_shorter s.line s.rest d.0 (sym (lifted Text (due_line s.line s.rest) d.1))

-- the reading of a whole record, from its opening to its closing line
pub ruleset reading = (unopened, reads_opened, reads_row, reads_wrong, less_left)
