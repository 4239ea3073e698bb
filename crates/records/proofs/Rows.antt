-- Rows and closing lines: what is written is read, and what is read was written.
use Rattle.std.proofs.Common.{◌≡◌, ℕ, ◌+◌, ◌-◌, ◌^◌, ◌<◌, ◌≤◌, Bool, true, false, cond, eqb, List, [], ◌∷◌, length, Ok, Err, Result, sym, refl, ap, ◌∙◌, subst, arith}
use Rattle.std.proofs.lemmas.Bool.{cond-true, eq-eqb, eqb-true}
use Rattle.texts.specs.declared.fault.TextFault.{TextFault}
use Rattle.texts.specs.declared.heading.Heading.{Heading}
use Rattle.texts.specs.Fields.{Fit}
use Rattle.texts.specs.Lines.{TextLine, in_line}
use Rattle.texts.specs.Numerals.{field_number}
use Rattle.texts.specs.Steps.{◌>>=◌}
use Rattle.texts.specs.Words.{length_check, word_check}
use Rattle.texts.proofs.Fielded.{Holds, field_there, fields_behind, field_small, field_back, Written, written_length, written_word, written_holds, word_read, word_back, none_behind}
use Rattle.texts.proofs.Steps.{on, passed, lifted}
use Rattle.texts.proofs.Words.{right_length}
use Rattle.filing.specs.declared.pen.Ending.{Ending}
use Rattle.filing.specs.declared.pen.Ending.TheVariants.{Done, Shut}
use Rattle.filing.specs.declared.pen.Row.{Row}
use Rattle.filing.specs.Pen.{ending_word}
use Rattle.records.specs.declared.fault.RecordFault.TheVariants as fault
use Rattle.records.specs.Reading.{in_text, three_fields, row_fields_of, equal_check, start_row, next_row, closing_line_of}

-- ---- three fields

module _ (l : TextLine) (c : ℕ) (first : 1 ≤ c) where
  three_there : (a b d : ℕ) → Holds l c (a ∷ b ∷ d ∷ []) → Fit (a ∷ b ∷ d ∷ []) → three_fields l c ≡ Ok (a, b, d)
  unfolding three_fields
  three_there a b d h fit =
      let second = fields_behind h first in
      let twenty : c + 10 + 10 ≡ c + 20 = omega arith in
      let third = subst (λ (k : ℕ). Holds l k (d ∷ [])) twenty (fields_behind second (omega arith)) in
      on _ (field_there h fit.0) ∙ on _ (field_there second fit.1.0) ∙ on _ (field_there third fit.1.1.0)

  three_read : (x : ℕ × ℕ × ℕ) → three_fields l c ≡ Ok x → length l.bytes ≤ c + 29 → Holds l c (x.0 ∷ x.1 ∷ x.2 ∷ []) × Fit (x.0 ∷ x.1 ∷ x.2 ∷ [])
  unfolding three_fields
  three_read x e short =
      let a = passed (field_number l c) _ e in
      let b = passed (field_number l (c + 10)) _ a.2 in
      let d = passed (field_number l (c + 20)) _ b.2 in
      by a.0 b.0 d.0 a.1 b.1 d.1 d.2
    where
      by : (p q r : ℕ) → field_number l c ≡ Ok p → field_number l (c + 10) ≡ Ok q → field_number l (c + 20) ≡ Ok r → ◌≡◌ {A = Result (ℕ × ℕ × ℕ) TextFault} (Ok (p, q, r)) (Ok x) → Holds l c (x.0 ∷ x.1 ∷ x.2 ∷ []) × Fit (x.0 ∷ x.1 ∷ x.2 ∷ [])
      by p q r a b d same =
          let there : (p, q, r) ≡ x = cc in
          let last = field_back l (c + 20) r d (omega arith) (none_behind l (c + 20 + 10) (omega arith)) in
          let twenty : c + 20 ≡ c + 10 + 10 = omega arith in
          let second = field_back l (c + 10) q b (omega arith) (subst (λ (k : ℕ). Holds l k (r ∷ [])) twenty last) in
          let holds = field_back l c p a first second in
          let fit : Fit (p ∷ q ∷ r ∷ []) = (field_small l c p a, (field_small l (c + 10) q b, (field_small l (c + 20) r d, tt))) in
          subst (λ (y : ℕ × ℕ × ℕ). Holds l c (y.0 ∷ y.1 ∷ y.2 ∷ []) × Fit (y.0 ∷ y.1 ∷ y.2 ∷ [])) there (holds, fit)

-- ---- a row

module _ (l : TextLine) where
  row_there : (a b d : ℕ) → Written l [] (a ∷ b ∷ d ∷ []) → Fit (a ∷ b ∷ d ∷ []) → row_fields_of l ≡ Ok (a, b, d)
  unfolding row_fields_of
  row_there a b d w fit = on _ (written_length l [] _ w 30 refl) ∙ three_there l 1 (omega arith) a b d (written_holds l [] _ w 1 refl) fit

  row_read : (x : ℕ × ℕ × ℕ) → row_fields_of l ≡ Ok x → Written l [] (x.0 ∷ x.1 ∷ x.2 ∷ []) × Fit (x.0 ∷ x.1 ∷ x.2 ∷ [])
  unfolding row_fields_of
  row_read x e =
      let p = passed (length_check l 30) _ e in
      let right = right_length l 30 (sym p.1) in
      let three = three_read l 1 (omega arith) x p.2 (omega (arith, right.0)) in
      (record { bytes = three.0.same; ended = right.1 }, three.1)

  -- a number that passed is the one it has to be
  equal_there : (c n right : ℕ) → n ≡ right → equal_check l c n right ≡ Ok (tt {0})
  equal_there c n right e = cond-true _ _ _ (eq-eqb n right e)

  equal_read : (c n right : ℕ) {u : Unit {0}} → equal_check l c n right ≡ Ok u → n ≡ right
  equal_read c n right {u} e = by (eqb n right) refl e
    where
      by : {u : Unit {0}} (t : Bool) → eqb n right ≡ t → cond t (Ok (tt {0})) (Err (fault.Unequal (in_line l c))) ≡ Ok u → n ≡ right
      by true p h = eqb-true n right p
      by {u} false p h = cc

  pub start_there : (h : Heading) → Written l [] (0 ∷ h.start ∷ 0 ∷ []) → h.start < 2 ^ 32 → start_row h l ≡ Ok (tt {0})
  unfolding start_row
  start_there h w small =
      on _ (ap in_text (row_there 0 h.start 0 w (omega arith, (small, (omega arith, tt)))))
      ∙ on (λ _. equal_check l 21 0 0) (equal_there 11 h.start h.start refl)

  pub start_read : (h : Heading) {u : Unit {0}} → start_row h l ≡ Ok u → Written l [] (0 ∷ h.start ∷ 0 ∷ [])
  unfolding start_row
  start_read h e =
      let p = passed (in_text (row_fields_of l)) _ e in
      let x = p.0 in
      let a = passed (equal_check l 1 x.0 0) _ p.2 in
      let b = passed (equal_check l 11 x.1 h.start) _ a.2 in
      let one = equal_read 1 x.0 0 a.1 in
      let two = equal_read 11 x.1 h.start b.1 in
      let three = equal_read 21 x.2 0 b.2 in
      let w = (row_read x (sym (lifted fault.Text (row_fields_of l) p.1))).0 in
      let there : ◌≡◌ {A = List ℕ} (x.0 ∷ x.1 ∷ x.2 ∷ []) (0 ∷ h.start ∷ 0 ∷ []) = λ i. one i ∷ two i ∷ three i ∷ [] in
      subst (λ (ns : List ℕ). Written l [] ns) there w

  -- the row behind the one of this number
  pub next_there : (number : ℕ) (row : Row) → Written l [] ((number + 1) ∷ row.cell ∷ row.length ∷ []) → Fit ((number + 1) ∷ row.cell ∷ row.length ∷ []) → next_row number l ≡ Ok row
  unfolding next_row
  next_there number row w fit =
      on _ (ap in_text (row_there (number + 1) row.cell row.length w fit))
      ∙ on _ (equal_there 1 (number + 1) (number + 1) refl)

  pub next_read : (number : ℕ) (row : Row) → next_row number l ≡ Ok row → Written l [] ((number + 1) ∷ row.cell ∷ row.length ∷ []) × Fit ((number + 1) ∷ row.cell ∷ row.length ∷ [])
  unfolding next_row
  next_read number row e =
      let p = passed (in_text (row_fields_of l)) _ e in
      let x = p.0 in
      let a = passed (equal_check l 1 x.0 (number + 1)) _ p.2 in
      let one = equal_read 1 x.0 (number + 1) a.1 in
      let same : record { cell = x.1; length = x.2 } ≡ row = cc (a.2) in
      let there : ◌≡◌ {A = List ℕ} (x.0 ∷ x.1 ∷ x.2 ∷ []) ((number + 1) ∷ row.cell ∷ row.length ∷ []) = λ i. one i ∷ (same i).cell ∷ (same i).length ∷ [] in
      subst (λ (ns : List ℕ). Written l [] ns × Fit ns) there (row_read x (sym (lifted fault.Text (row_fields_of l) p.1)))

  -- ---- the closing line

  module _ (ending : Ending) (number far rock : ℕ) where
    pub closing_there : Written l (ending_word ending) (number ∷ far ∷ rock ∷ []) → Fit (number ∷ far ∷ rock ∷ []) → closing_line_of ending number far l ≡ Ok rock
    unfolding closing_line_of
    closing_there w fit =
        on _ (ap in_text (on _ (written_word l (ending_word ending) _ w 3 refl) ∙ three_there l 5 (omega arith) number far rock (written_holds l (ending_word ending) _ w 5 (four ending)) fit))
        ∙ on _ (equal_there 5 number number refl)
        ∙ on _ (equal_there 15 far far refl)
      where
        four : (x : Ending) → length (ending_word x) ≡ 5 - 1
        four Done = refl
        four Shut = refl

    pub closing_read : closing_line_of ending number far l ≡ Ok rock → Written l (ending_word ending) (number ∷ far ∷ rock ∷ []) × Fit (number ∷ far ∷ rock ∷ [])
    unfolding closing_line_of
    closing_read e =
        let p = passed (in_text (word_check l (ending_word ending) 3 >>= λ _. three_fields l 5)) _ e in
        let x = p.0 in
        let a = passed (equal_check l 5 x.0 number) _ p.2 in
        let b = passed (equal_check l 15 x.1 far) _ a.2 in
        let q = passed (word_check l (ending_word ending) 3) _ (sym (lifted fault.Text (word_check l (ending_word ending) 3 >>= λ _. three_fields l 5) p.1)) in
        let w = word_read l (ending_word ending) 3 q.1 in
        let long = four ending in
        let three = three_read l 5 (omega arith) x q.2 (omega (arith, w.size)) in
        let one = equal_read 5 x.0 number a.1 in
        let two = equal_read 15 x.1 far b.1 in
        let last : x.2 ≡ rock = cc (b.2) in
        let column : 5 ≡ length (ending_word ending) + 1 = omega arith in
        let there : ◌≡◌ {A = List ℕ} (x.0 ∷ x.1 ∷ x.2 ∷ []) (number ∷ far ∷ rock ∷ []) = λ i. one i ∷ two i ∷ last i ∷ [] in
        let holds = subst (λ (k : ℕ). Holds l k (x.0 ∷ x.1 ∷ x.2 ∷ [])) column three.0 in
        subst (λ (ns : List ℕ). Written l (ending_word ending) ns × Fit ns) there (word_back l (ending_word ending) _ 3 w holds, three.1)
      where
        four : (x : Ending) → length (ending_word x) ≡ 4
        four Done = refl
        four Shut = refl
