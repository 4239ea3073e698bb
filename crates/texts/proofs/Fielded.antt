-- Lines of a word and fields: what is written is read, and what is read was written.
use Rattle.std.proofs.Common.{◌≡◌, ℕ, ◌+◌, ◌-◌, ◌*◌, ◌/◌, ◌%◌, ◌^◌, ◌<◌, ◌≤◌, Bool, true, false, cond, not, ◌||◌, eqb, ltb, leb, ◌⊎◌, List, [], ◌∷◌, ◌++◌, length, take, drop, Some, None, Ok, Err, Decides, Option, Result, sym, refl, ap, ◌∙◌, subst, inl, inr, arith}
use Rattle.std.specs.Option.{ok_or}
use Rattle.std.specs.Str.{bytes_eq}
use Rattle.std.proofs.lemmas.Slice.Eq.{bytes_eq-Decides}
use Rattle.std.proofs.lemmas.List.{append_assoc, length-append, take-append-drop, take_at, drop_at, drop-drop, drop_all}
use Rattle.std.proofs.lemmas.Bool.{cond_both, ne_eqb, eq-eqb, le-ltb, and_from, cond-true, cond-false, not_from_true}
use Rattle.texts.specs.declared.fault.TextFault.{TextFault}
use Rattle.texts.specs.declared.fault.TextFault.TheVariants.{Length, Word, Field}
use Rattle.texts.specs.declared.heading.Heading.{Heading}
use Rattle.texts.specs.Fields.{column, field_text, fields_text, Fit, written_line}
use Rattle.texts.specs.FirstLines.{heading_of}
use Rattle.texts.specs.Headings.{heading_numbers}
use Rattle.texts.specs.Lines.{TextLine, after_line, in_line, due_line}
use Rattle.texts.specs.Numerals.{number_of, field_number}
use Rattle.texts.specs.Words.{length_check, word_check}
use Rattle.texts.proofs.Cuts.{Unbroken, unbroken_append, full_line, after_before, due_before, due_whole}
use Rattle.texts.proofs.Steps.{on, passed}
use Rattle.texts.proofs.Words.{right_length}
use Rattle.texts.proofs.Written.{reads_as}

-- ---- lengths

pub length_field_text : (n : ℕ) → length (field_text n) ≡ 10
unfolding field_text
length_field_text n = refl

pub length_fields_text : (ns : List ℕ) → length (fields_text ns) ≡ 10 * length ns
length_fields_text [] = refl
length_fields_text (n ∷ ns) =
    let here = length_field_text n in
    let rest = length_fields_text ns in
    simp length-append (omega arith)

pub length_written_line : (word ns : List ℕ) → length (written_line word ns) ≡ length word + 10 * length ns + 1
unfolding written_line
length_written_line word ns = let fields = length_fields_text ns in simp length-append (omega arith)

-- ---- no byte 10 but the last of a line

-- a column is a digit or a blank, and no other byte
pub other_column : (n p b : ℕ) → (b < 32) ⊎ (57 < b) → eqb (column n p) b ≡ false
other_column n p b o =
    let digit = 48 + (n / 10 ^ p) % 10 in
    cond_both (leb (10 ^ p) n || eqb p 0) digit 32 (λ x. eqb x b ≡ false) (λ _. ne_eqb digit b (no_digit o)) (λ _. ne_eqb 32 b (no_blank o))
  where
    no_digit : (b < 32) ⊎ (57 < b) → 48 + (n / 10 ^ p) % 10 ≡ b → ⊥
    no_digit (inl l) e = omega arith
    no_digit (inr l) e = omega arith

    no_blank : (b < 32) ⊎ (57 < b) → 32 ≡ b → ⊥
    no_blank (inl l) e = omega arith
    no_blank (inr l) e = omega arith

unbroken_field : (n : ℕ) → Unbroken (field_text n)
unfolding field_text
unbroken_field n =
    let at : (p : ℕ) → eqb (column n p) 10 ≡ false = λ p. other_column n p 10 (inl (omega arith)) in
    (at 9, (at 8, (at 7, (at 6, (at 5, (at 4, (at 3, (at 2, (at 1, (at 0, tt))))))))))

pub unbroken_fields : (ns : List ℕ) → Unbroken (fields_text ns)
unbroken_fields [] = tt
unbroken_fields (n ∷ ns) = unbroken_append (field_text n) (fields_text ns) (unbroken_field n) (unbroken_fields ns)

-- a line is its characters and byte 10
pub written_line_is : (word ns rest : List ℕ) → written_line word ns ++ rest ≡ (word ++ fields_text ns) ++ 10 ∷ rest
unfolding written_line
written_line_is word ns rest = simp append_assoc

pub unbroken_line : (word ns : List ℕ) → Unbroken word → Unbroken (word ++ fields_text ns)
unbroken_line word ns w = unbroken_append word (fields_text ns) w (unbroken_fields ns)

-- ---- fields

-- from column c on, a line has these fields and nothing more
pub record Holds (l : TextLine) (c : ℕ) (ns : List ℕ) : Type 0 where
  pub same : drop (c - 1) l.bytes ≡ fields_text ns

pub field_there : {l : TextLine} {c n : ℕ} {ns : List ℕ} → Holds l c (n ∷ ns) → n < 2 ^ 32 → field_number l c ≡ Ok n
field_there {l} {c} {n} {ns} h small =
    let f = take 10 (drop (c - 1) l.bytes) in
    let same : f ≡ field_text n = ap (λ (x : List ℕ). take 10 x) h.same ∙ take_at (field_text n) (fields_text ns) 10 (length_field_text n) in
    ap (λ o. ok_or o (Field (in_line l c))) ((reads_as f (number_of f) refl n).1 same small)

pub fields_behind : {l : TextLine} {c n : ℕ} {ns : List ℕ} → Holds l c (n ∷ ns) → 1 ≤ c → Holds l (c + 10) ns
fields_behind {l} {c} {n} {ns} h first =
    let next : c + 10 - 1 ≡ (c - 1) + 10 = omega arith in
    record { same = ap (λ k. drop k l.bytes) next ∙ sym (drop-drop 10 (c - 1) l.bytes) ∙ ap (λ (x : List ℕ). drop 10 x) h.same ∙ drop_at (field_text n) (fields_text ns) 10 (length_field_text n) }

module _ (l : TextLine) (c n : ℕ) (e : field_number l c ≡ Ok n) where
  field_read : (take 10 (drop (c - 1) l.bytes) ≡ field_text n) × (n < 2 ^ 32)
  field_read = let f = take 10 (drop (c - 1) l.bytes) in (reads_as f (number_of f) refl n).0 (some (number_of f) e)
    where
      some : (o : Option ℕ) → ok_or o (Field (in_line l c)) ≡ Ok n → o ≡ Some n
      some (Some m) h = cc
      some None h = absurd cc

  pub field_small : n < 2 ^ 32
  field_small = field_read.1

  pub field_back : {ns : List ℕ} → 1 ≤ c → Holds l (c + 10) ns → Holds l c (n ∷ ns)
  field_back {ns} first rest =
      let next : (c - 1) + 10 ≡ c + 10 - 1 = omega arith in
      let here = drop (c - 1) l.bytes in
      record {
        same = sym (take-append-drop 10 here)
            ∙ ap (λ (x : List ℕ). x ++ drop 10 here) field_read.0
            ∙ ap (λ (x : List ℕ). field_text n ++ x) (drop-drop 10 (c - 1) l.bytes ∙ ap (λ k. drop k l.bytes) next ∙ rest.same);
      }

-- ---- a word and fields

-- a line has this word and these fields, and its end
pub record Written (l : TextLine) (word ns : List ℕ) : Type 0 where
  pub bytes : l.bytes ≡ word ++ fields_text ns
  pub ended : l.ended ≡ true

module _ (l : TextLine) (word ns : List ℕ) (w : Written l word ns) where
  pub written_length : (k : ℕ) → length word + 10 * length ns ≡ k → length_check l k ≡ Ok (tt {0})
  written_length k e =
      let size : length l.bytes ≡ k = ap length w.bytes ∙ length-append word (fields_text ns) ∙ omega (arith, length_fields_text ns) in
      cond-true _ _ _ (and_from (eqb (length l.bytes) k) l.ended (eq-eqb (length l.bytes) k size) w.ended)

  pub written_word : (k : ℕ) → length ns ≡ k → word_check l word k ≡ Ok (tt {0})
  unfolding word_check
  written_word k e =
      let size : length l.bytes ≡ length word + length (fields_text ns) = ap length w.bytes ∙ length-append word (fields_text ns) in
      let front : take (length word) l.bytes ≡ word = ap (λ (x : List ℕ). take (length word) x) w.bytes ∙ take_at word (fields_text ns) (length word) refl in
      cond-false _ _ _ (le-ltb (length l.bytes) (length word) (omega arith))
      ∙ cond-false _ _ _ (not_from_true (bytes_eq (take (length word) l.bytes) word) ((bytes_eq-Decides (take (length word) l.bytes) word).1 front))
      ∙ written_length (length word + 10 * k) (ap (λ j. length word + 10 * j) e)

  pub written_holds : (c : ℕ) → length word ≡ c - 1 → Holds l c ns
  written_holds c e = record { same = ap (λ (x : List ℕ). drop (c - 1) x) w.bytes ∙ drop_at word (fields_text ns) (c - 1) e }

-- a line that passed the check of its word
pub record Worded (l : TextLine) (word : List ℕ) (k : ℕ) : Type 0 where
  pub front : take (length word) l.bytes ≡ word
  pub size : length l.bytes ≡ length word + 10 * k
  pub ended : l.ended ≡ true

pub word_read : (l : TextLine) (word : List ℕ) (k : ℕ) {u : Unit {0}} → word_check l word k ≡ Ok u → Worded l word k
unfolding word_check
word_read l word k e = by (ltb (length l.bytes) (length word)) (bytes_eq (take (length word) l.bytes) word) (bytes_eq-Decides (take (length word) l.bytes) word) e
  where
    by : {u : Unit {0}} (a b : Bool) → Decides b (take (length word) l.bytes ≡ word) → cond a (Err (Length (in_line l (length l.bytes + 1)))) (cond (not b) (Err (Word (in_line l 1))) (length_check l (length word + 10 * k))) ≡ Ok u → Worded l word k
    by true b d h = absurd cc
    by false false d h = absurd cc
    by {u} false true d h = let right = right_length l (length word + 10 * k) (sym h) in record { front = d.0 refl; size = right.0; ended = right.1 }

pub word_back : (l : TextLine) (word ns : List ℕ) (k : ℕ) → Worded l word k → Holds l (length word + 1) ns → Written l word ns
word_back l word ns k w h =
    let here : length word + 1 - 1 ≡ length word = omega arith in
    record {
      bytes = sym (take-append-drop (length word) l.bytes) ∙ ap (λ (x : List ℕ). x ++ drop (length word) l.bytes) w.front ∙ ap (λ (x : List ℕ). word ++ x) (ap (λ j. drop j l.bytes) (sym here) ∙ h.same);
      ended = w.ended;
    }

-- behind the last field
pub none_behind : (l : TextLine) (c : ℕ) → length l.bytes ≤ c - 1 → Holds l c []
none_behind l c h = record { same = drop_all (c - 1) l.bytes h }

-- ---- a text that begins with such a line

pub line_whole : (n : ℕ) (t : List ℕ) (l : TextLine) (word ns : List ℕ) → due_line n t ≡ Ok l → Written l word ns → t ≡ written_line word ns ++ after_line t
line_whole n t l word ns d w =
    due_whole n t l d w.ended ∙ ap (λ (x : List ℕ). x ++ 10 ∷ after_line t) w.bytes ∙ sym (written_line_is word ns (after_line t))

module _ (word ns rest : List ℕ) (u : Unbroken word) where
  pub written_due : (n : ℕ) → due_line n (written_line word ns ++ rest) ≡ Ok (full_line n (word ++ fields_text ns))
  written_due n = ap (due_line n) (written_line_is word ns rest) ∙ due_before n (word ++ fields_text ns) rest (unbroken_line word ns u)

  pub written_after : after_line (written_line word ns ++ rest) ≡ rest
  written_after = ap after_line (written_line_is word ns rest) ∙ after_before (word ++ fields_text ns) rest (unbroken_line word ns u)

pub full_written : (n : ℕ) (word ns : List ℕ) → Written (full_line n (word ++ fields_text ns)) word ns
full_written n word ns = record { bytes = refl; ended = refl }

-- ---- a first line, behind a word of four letters

module _ (l : TextLine) (word : List ℕ) (four : length word ≡ 4) (h : Heading) where
  pub heading_there : Written l word (heading_numbers h) → Fit (heading_numbers h) → heading_of l word ≡ Ok h
  unfolding heading_of
  heading_there w fit =
      let a = written_holds l word (heading_numbers h) w 5 four in
      let b = fields_behind a (omega arith) in
      let c = fields_behind b (omega arith) in
      let d = fields_behind c (omega arith) in
      let e = fields_behind d (omega arith) in
      let f = fields_behind e (omega arith) in
      on _ (written_word l word (heading_numbers h) w 6 refl)
      ∙ on _ (field_there a fit.0)
      ∙ on _ (field_there b fit.1.0)
      ∙ on _ (field_there c fit.1.1.0)
      ∙ on _ (field_there d fit.1.1.1.0)
      ∙ on _ (field_there e fit.1.1.1.1.0)
      ∙ on _ (field_there f fit.1.1.1.1.1.0)

  pub heading_read : heading_of l word ≡ Ok h → Written l word (heading_numbers h) × Fit (heading_numbers h)
  unfolding heading_of
  heading_read e =
      let w = passed (word_check l word 6) _ e in
      let a = passed (field_number l 5) _ w.2 in
      let b = passed (field_number l 15) _ a.2 in
      let c = passed (field_number l 25) _ b.2 in
      let d = passed (field_number l 35) _ c.2 in
      let f = passed (field_number l 45) _ d.2 in
      let g = passed (field_number l 55) _ f.2 in
      by a.0 b.0 c.0 d.0 f.0 g.0 (word_read l word 6 w.1) a.1 b.1 c.1 d.1 f.1 g.1 g.2
    where
      by : (p q r s t u : ℕ) → Worded l word 6 → field_number l 5 ≡ Ok p → field_number l 15 ≡ Ok q → field_number l 25 ≡ Ok r → field_number l 35 ≡ Ok s → field_number l 45 ≡ Ok t → field_number l 55 ≡ Ok u → ◌≡◌ {A = Result Heading TextFault} (Ok (record { width = p; height = q; start = r; goal = s; neighbours = t; measure = u })) (Ok h) → Written l word (heading_numbers h) × Fit (heading_numbers h)
      by p q r s t u w a b c d f g same =
          let there : record { width = p; height = q; start = r; goal = s; neighbours = t; measure = u } ≡ h = cc in
          let six = field_back l 55 u g (omega arith) (none_behind l 65 (omega (arith, w.size))) in
          let five = field_back l 45 t f (omega arith) six in
          let after-three = field_back l 35 s d (omega arith) five in
          let three = field_back l 25 r c (omega arith) after-three in
          let two = field_back l 15 q b (omega arith) three in
          let one = field_back l 5 p a (omega arith) two in
          let fields : List ℕ = p ∷ q ∷ r ∷ s ∷ t ∷ u ∷ [] in
          let column : 5 ≡ length word + 1 = omega arith in
          let written = word_back l word fields 6 w (subst (λ (k : ℕ). Holds l k fields) column one) in
          let fit : Fit fields = (field_small l 5 p a, (field_small l 15 q b, (field_small l 25 r c, (field_small l 35 s d, (field_small l 45 t f, (field_small l 55 u g, tt)))))) in
          subst (λ (x : Heading). Written l word (heading_numbers x) × Fit (heading_numbers x)) there (written, fit)
