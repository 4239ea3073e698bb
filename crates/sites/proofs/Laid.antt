-- A text is accepted as a site exactly if it is the text of that site: both ways, line by line.
use Rattle.std.proofs.Common.{◌≡◌, ℕ, zero, suc, ◌+◌, ◌*◌, ◌<◌, ◌≤◌, true, false, eqb, ltb, List, [], ◌∷◌, ◌++◌, length, get_or, take, drop, Ok, Err, codes, Result, sym, refl, ap, ◌∙◌, subst, suc-mul, mul_comm, zero-mul, mul-one, mul-add, arith}
use Rattle.std.specs.Result.{result_map_both}
use Rattle.std.proofs.lemmas.List.{append-nil, append_assoc, length-append, length-take-le, length-drop, take_at, drop_at, take-append-drop, get_or-take, get_or-drop, nil_from_length}
use Rattle.std.proofs.lemmas.Bool.Decides.{nat_tests}
use Rattle.std.proofs.lemmas.Bool.{cond-true, cond-false, ne_eqb, eq-eqb, le-ltb, lt-leb, and_from}
use Rattle.texts.specs.declared.heading.Heading.{Heading}
use Rattle.texts.specs.Fields.{fields_text, written_line}
use Rattle.texts.specs.Headings.{heading_numbers}
use Rattle.texts.specs.Lines.{TextLine, after_line, due_line, end_check}
use Rattle.texts.specs.Steps.{◌>>=◌}
use Rattle.texts.specs.Words.{length_check, word_check}
use Rattle.texts.proofs.Cuts.{Unbroken, full_line, due_before, after_before, due_whole, nothing_behind}
use Rattle.texts.proofs.Fielded.{length_written_line, Written, heading_there, heading_read, word_read, word_back, none_behind, line_whole, written_due, written_after, written_word, full_written}
use Rattle.texts.proofs.Headings.{sides, known_small}
use Rattle.texts.proofs.Steps.{on, passed, lifted}
use Rattle.texts.proofs.Words.{right_length}
use Rattle.sites.specs.declared.fault.SiteFault.{SiteFault}
use Rattle.sites.specs.declared.fault.SiteFault.TheVariants as fault
use Rattle.sites.specs.Format.{Plan, plan_of, rows_text, site_text, Bounded, SiteLaw}
use Rattle.sites.specs.Site.{in_text, in_heading, site_heading, is_mark, row_check, rows_check, word_alone, after_lines, cells_of, ends_check, SiteValue, site_value, site_under, site_of}
use Rattle.sites.specs.declared.site.Site.{Site}
use Rattle.sites.proofs.Accepting.{headed, accepted, bounded, cells_front, refuses}
use Rattle.sites.proofs.Marks.{marks_pass}
use Rattle.sites.proofs.Rows.{row_long}

-- ---- what is accepted is laid out so

-- a line with a word alone
word_laid : (n : ℕ) (word t : List ℕ) {u : Unit {0}} → word_alone n word t ≡ Ok u → t ≡ written_line word [] ++ after_line t
unfolding word_alone
word_laid n word t e =
    let p = passed (due_line n t) _ (sym (lifted fault.Text (due_line n t >>= λ l. word_check l word 0) e)) in
    let w = word_read p.0 word 0 p.2 in
    line_whole n t p.0 word [] p.1 (word_back p.0 word [] 0 w (none_behind p.0 (length word + 1) (omega (arith, w.size))))

-- a row that is accepted has its end
row_ended : (w : ℕ) (l : TextLine) {u : Unit {0}} → row_check w l ≡ Ok u → l.ended ≡ true
unfolding row_check
row_ended w l e = let p = passed (in_text (length_check l w)) _ e in (right_length l w (lifted fault.Text (length_check l w) p.1)).1

-- rows that are accepted
rows_laid : (rows w n : ℕ) (t : List ℕ) → rows_check rows w n t ≡ Ok (tt {0}) → t ≡ rows_text w rows (cells_of w rows t) ++ after_lines rows t
rows_laid zero w n t e = refl
rows_laid (suc k) w n t e =
    let d = passed (in_text (due_line n t)) _ e in
    let r = passed (row_check w d.0) _ d.2 in
    let due = lifted fault.Text (due_line n t) d.1 in
    let long = row_long w n t d.0 due (sym r.1) in
    let rest = drop (w + 1) t in
    let cells = cells_of w k rest in
    let front : length (take w t) ≡ w = length-take-le w t (omega (arith, long.0)) in
    let below : rest ≡ rows_text w k cells ++ after_lines k rest = subst (λ (x : List ℕ). x ≡ rows_text w k (cells_of w k x) ++ after_lines k x) long.1 (rows_laid k w (n + 1) (after_line t) r.2) in
    let whole : t ≡ take w t ++ 10 ∷ rest = due_whole n t d.0 (sym due) (row_ended w d.0 r.1) ∙ ap (λ (x : List ℕ). x ++ 10 ∷ after_line t) long.2 ∙ ap (λ (x : List ℕ). take w t ++ 10 ∷ x) long.1 in
    whole
    ∙ ap (λ (x : List ℕ). take w t ++ 10 ∷ x) below
    ∙ sym (append_assoc (take w t) (10 ∷ rows_text w k cells) (after_lines k rest))
    ∙ ap (λ (x : List ℕ). (x ++ 10 ∷ rows_text w k cells) ++ after_lines k rest) (sym (take_at (take w t) cells w front))
    ∙ ap (λ (x : List ℕ). (take w (take w t ++ cells) ++ 10 ∷ rows_text w k x) ++ after_lines k rest) (sym (drop_at (take w t) cells w front))
    ∙ ap (λ (x : List ℕ). rows_text w (suc k) (take w t ++ cells) ++ after_lines k x) (sym long.1)

under_laid : (h : Heading) (plan : List ℕ) (s : SiteValue) → site_under h plan ≡ Ok s → (s.heading ≡ h) × (plan ≡ written_line (codes "PLAN") [] ++ (rows_text h.width h.height (cells_of h.width h.height s.sheet) ++ written_line (codes "END") []))
unfolding site_under
under_laid h plan s e =
    let w = h.width in
    let k = h.height in
    let rows = after_line plan in
    let end = after_lines k rows in
    let sheet = take (k * (w + 1)) rows in
    let a = passed (word_alone 2 (codes "PLAN") plan) _ e in
    let b = passed (rows_check k w 3 rows) _ a.2 in
    let c = passed (word_alone (k + 3) (codes "END") end) _ b.2 in
    let d = passed (in_text (end_check (k + 4) (after_line end))) _ c.2 in
    let f = passed (ends_check h sheet) _ d.2 in
    let last : record { heading = h; sheet = sheet } ≡ s = cc f.2 in
    let none : after_line end ≡ [] = nothing_behind (k + 4) (after_line end) (sym (lifted fault.Text (end_check (k + 4) (after_line end)) d.1)) in
    let closing : end ≡ written_line (codes "END") [] = word_laid (k + 3) (codes "END") end c.1 ∙ ap (λ (x : List ℕ). written_line (codes "END") [] ++ x) none ∙ append-nil (written_line (codes "END") []) in
    let cells : cells_of w k rows ≡ cells_of w k s.sheet = sym (cells_front k w rows) ∙ ap (λ (v : SiteValue). cells_of w k v.sheet) last in (
      sym (ap (λ (v : SiteValue). v.heading) last),
      word_laid 2 (codes "PLAN") plan a.1
          ∙ ap (λ (x : List ℕ). written_line (codes "PLAN") [] ++ x) (rows_laid k w 3 rows b.1 ∙ ap (λ (x : List ℕ). rows_text w k (cells_of w k rows) ++ x) closing ∙ ap (λ (x : List ℕ). rows_text w k x ++ written_line (codes "END") []) cells),
    )

laid : (t : List ℕ) (s : SiteValue) → site_of t ≡ Ok s → t ≡ site_text (plan_of s)
unfolding site_of site_text
laid t s e =
    let p = refuses (ltb 4096 (length t)) _ _ _ e in
    let a = passed (in_text (due_line 1 t)) _ p.1 in
    let b = passed (site_heading a.0) _ a.2 in
    let h = b.0 in
    let due = lifted fault.Text (due_line 1 t) a.1 in
    let written = (heading_read a.0 (codes "SITE") refl h (headed a.0 h (sym b.1)).read).0 in
    let below = under_laid h (after_line t) s b.2 in
    let rest : Heading → List ℕ = λ x. written_line (codes "PLAN") [] ++ (rows_text x.width x.height (cells_of x.width x.height s.sheet) ++ written_line (codes "END") []) in
    line_whole 1 t a.0 (codes "SITE") (heading_numbers h) (sym due) written
    ∙ ap (λ (x : List ℕ). written_line (codes "SITE") (heading_numbers h) ++ x) below.1
    ∙ ap (λ (x : Heading). written_line (codes "SITE") (heading_numbers x) ++ rest x) (sym below.0)

-- ---- what is laid out so is accepted

mark_unbroken : (b : ℕ) → is_mark b ≡ true → eqb b 10 ≡ false
mark_unbroken b m = grind (arith, nat_tests)

marks_unbroken : (bs : List ℕ) → ((k : ℕ) → k < length bs → is_mark (get_or bs k 0) ≡ true) → Unbroken bs
marks_unbroken [] m = tt
marks_unbroken (b ∷ bs) m = (mark_unbroken b (m 0 (omega arith)), marks_unbroken bs (λ k h. m (suc k) (omega arith)))

-- a row of so many marks
row_passes : (w n : ℕ) (bs : List ℕ) → length bs ≡ w → ((k : ℕ) → k < length bs → is_mark (get_or bs k 0) ≡ true) → row_check w (full_line n bs) ≡ Ok (tt {0})
unfolding row_check
row_passes w n bs e m =
    on _ (ap in_text (cond-true _ _ _ (and_from (eqb (length bs) w) true (eq-eqb (length bs) w e) refl)))
    ∙ marks_pass (full_line n bs) 1 bs m

-- so many rows of marks, in any text
module _ (w : ℕ) (u : List ℕ) where
  rows_pass : (rows n : ℕ) (cells : List ℕ) → length cells ≡ rows * w → ((c : ℕ) → c < rows * w → is_mark (get_or cells c 0) ≡ true) → (rows_check rows w n (rows_text w rows cells ++ u) ≡ Ok (tt {0})) × (after_lines rows (rows_text w rows cells ++ u) ≡ u)
  rows_pass zero n cells e m = (refl, refl)
  rows_pass (suc k) n cells e m =
      let size = suc-mul k w in
      let row = take w cells in
      let rest = drop w cells in
      let below = rows_text w k rest ++ u in
      let long : length row ≡ w = length-take-le w cells (omega arith) in
      let short : length rest ≡ k * w = length-drop w cells ∙ omega arith in
      let here : (j : ℕ) → j < length row → is_mark (get_or row j 0) ≡ true = λ j h. ap is_mark (get_or-take w cells j 0 (omega arith)) ∙ m j (omega arith) in
      let there : (j : ℕ) → j < k * w → is_mark (get_or rest j 0) ≡ true = λ j h. ap is_mark (get_or-drop w cells j 0) ∙ m (w + j) (omega arith) in
      let joined : (row ++ 10 ∷ rows_text w k rest) ++ u ≡ row ++ 10 ∷ below = append_assoc row (10 ∷ rows_text w k rest) u in
      let cut : after_line ((row ++ 10 ∷ rows_text w k rest) ++ u) ≡ below = ap after_line joined ∙ after_before row below (marks_unbroken row here) in
      let due : due_line n ((row ++ 10 ∷ rows_text w k rest) ++ u) ≡ Ok (full_line n row) = ap (due_line n) joined ∙ due_before n row below (marks_unbroken row here) in
      let others = rows_pass k (n + 1) rest short there in (
        on _ (ap in_text due) ∙ on _ (row_passes w n row long here) ∙ ap (λ (x : List ℕ). rows_check k w (n + 1) x) cut ∙ others.0,
        ap (after_lines k) cut ∙ others.1,
      )

  cells_laid : (rows : ℕ) (cells : List ℕ) → length cells ≡ rows * w → cells_of w rows (rows_text w rows cells) ≡ cells
  cells_laid zero cells e = sym (nil_from_length cells (e ∙ zero-mul w))
  cells_laid (suc k) cells e =
      let size = suc-mul k w in
      let row = take w cells in
      let rest = drop w cells in
      let long : length row ≡ w = length-take-le w cells (omega arith) in
      let short : length rest ≡ k * w = length-drop w cells ∙ omega arith in
      let more : length (row ++ 10 ∷ []) ≡ w + 1 = length-append row (10 ∷ []) ∙ omega arith in
      let front : take w (row ++ 10 ∷ rows_text w k rest) ≡ row = take_at row (10 ∷ rows_text w k rest) w long in
      let back : drop (w + 1) (row ++ 10 ∷ rows_text w k rest) ≡ rows_text w k rest = ap (λ (x : List ℕ). drop (w + 1) x) (sym (append_assoc row (10 ∷ []) (rows_text w k rest))) ∙ drop_at (row ++ 10 ∷ []) (rows_text w k rest) (w + 1) more in
      ap (λ (x : List ℕ). x ++ cells_of w k (drop (w + 1) (row ++ 10 ∷ rows_text w k rest))) front
      ∙ ap (λ (x : List ℕ). row ++ cells_of w k x) back
      ∙ ap (λ (x : List ℕ). row ++ x) (cells_laid k rest short)
      ∙ take-append-drop w cells

length_rows : (w rows : ℕ) (cells : List ℕ) → length cells ≡ rows * w → length (rows_text w rows cells) ≡ rows * (w + 1)
length_rows w zero cells e = sym (zero-mul (w + 1))
length_rows w (suc k) cells e =
    let size = suc-mul k w in
    let more = suc-mul k (w + 1) in
    let long : length (take w cells) ≡ w = length-take-le w cells (omega arith) in
    let rest : length (rows_text w k (drop w cells)) ≡ k * (w + 1) = length_rows w k (drop w cells) (length-drop w cells ∙ omega arith) in
    length-append (take w cells) (10 ∷ rows_text w k (drop w cells)) ∙ omega arith

-- a line with a word alone, in any text
word_passes : (n : ℕ) (word rest : List ℕ) → Unbroken word → word_alone n word (written_line word [] ++ rest) ≡ Ok (tt {0})
unfolding word_alone
word_passes n word rest u =
    ap in_text (on (λ l. word_check l word 0) (written_due word [] rest u n) ∙ written_word (full_line n (word ++ [])) word [] (full_written n word []) 0 refl)

module _ (p : Plan) (b : Bounded p) where
  abbrev drawn : List ℕ
  drawn = rows_text p.heading.width p.heading.height p.cells

  many : length p.cells ≡ p.heading.height * p.heading.width
  many = b.cells ∙ mul_comm p.heading.width p.heading.height

  cells_back : cells_of p.heading.width p.heading.height drawn ≡ p.cells
  cells_back = cells_laid p.heading.width [] p.heading.height p.cells many

  ends_pass : ends_check p.heading drawn ≡ Ok (tt {0})
  unfolding ends_check
  ends_pass =
      let h = p.heading in
      let byte : get_or (cells_of h.width h.height drawn) h.start 0 ≡ 46 = ap (λ (x : List ℕ). get_or x h.start 0) cells_back ∙ b.passable in
      cond-false _ _ _ (lt-leb (h.width * h.height) h.start b.start)
      ∙ cond-false _ _ _ (ne_eqb (get_or (cells_of h.width h.height drawn) h.start 0) 35 (λ e. omega arith))
      ∙ cond-false _ _ _ (lt-leb (h.width * h.height) h.goal b.goal)

  under_passes : site_under p.heading (written_line (codes "PLAN") [] ++ (drawn ++ written_line (codes "END") [])) ≡ Ok (record { heading = p.heading; sheet = drawn })
  unfolding site_under
  under_passes =
      let h = p.heading in
      let w = h.width in
      let k = h.height in
      let end = written_line (codes "END") [] in
      let rows = drawn ++ end in
      let plan = written_line (codes "PLAN") [] ++ rows in
      let turn = mul_comm w k in
      let r : after_line plan ≡ rows = written_after (codes "PLAN") [] rows (refl, (refl, (refl, (refl, tt)))) in
      let good = rows_pass w end k 3 p.cells many (λ c l. b.marks c (omega arith)) in
      let e : after_lines k (after_line plan) ≡ end = ap (after_lines k) r ∙ good.1 in
      let last : end ≡ end ++ [] = sym (append-nil end) in
      let gone : after_line (after_lines k (after_line plan)) ≡ [] = ap after_line (e ∙ last) ∙ written_after (codes "END") [] [] (refl, (refl, (refl, tt))) in
      let s : take (k * (w + 1)) (after_line plan) ≡ drawn = ap (λ (x : List ℕ). take (k * (w + 1)) x) r ∙ take_at drawn end (k * (w + 1)) (length_rows w k p.cells many) in
      on _ (word_passes 2 (codes "PLAN") rows (refl, (refl, (refl, (refl, tt)))))
      ∙ on _ (ap (rows_check k w 3) r ∙ good.0)
      ∙ on _ (ap (word_alone (k + 3) (codes "END")) (e ∙ last) ∙ word_passes (k + 3) (codes "END") [] (refl, (refl, (refl, tt))))
      ∙ on _ (ap (λ (x : List ℕ). in_text (end_check (k + 4) x)) gone)
      ∙ on _ (ap (ends_check h) s ∙ ends_pass)
      ∙ ap (λ (x : List ℕ). Ok (record { heading = h; sheet = x })) s

  heading_passes : (l : TextLine) → Written l (codes "SITE") (heading_numbers p.heading) → site_heading l ≡ Ok p.heading
  unfolding site_heading
  heading_passes l w =
      let h = p.heading in
      on _ (ap in_text (heading_there l (codes "SITE") refl h w (known_small h b.known (omega (arith, b.start, b.small)) (omega (arith, b.goal, b.small)))))
      ∙ on _ (ap in_heading b.known)
      ∙ cond-false _ _ _ (le-ltb 512 (h.width * h.height) b.small)

  few_bytes : length (site_text p) ≤ 4096
  unfolding site_text
  few_bytes =
      let h = p.heading in
      let high = (sides h b.known).height in
      let first = length_written_line (codes "SITE") (heading_numbers h) in
      let plan = length_written_line (codes "PLAN") [] in
      let end = length_written_line (codes "END") [] in
      let sheet : length drawn ≡ h.height * (h.width + 1) = length_rows h.width h.height p.cells many in
      let parts : h.height * (h.width + 1) ≡ h.height * h.width + h.height = mul-add h.height h.width 1 ∙ ap (λ k. h.height * h.width + k) (mul-one h.height) in
      let turn = mul_comm h.width h.height in
      simp length-append (omega (arith, b.small))

  passes : site_of (site_text p) ≡ Ok (record { heading = p.heading; sheet = drawn })
  unfolding site_of site_text
  passes =
      let word = codes "SITE" in
      let ns = heading_numbers p.heading in
      let plan = written_line (codes "PLAN") [] ++ (drawn ++ written_line (codes "END") []) in
      let whole : Unbroken word = (refl, (refl, (refl, (refl, tt)))) in
      let line = full_line 1 (word ++ fields_text ns) in
      cond-false _ _ _ (le-ltb 4096 (length (written_line word ns ++ plan)) few_bytes)
      ∙ on _ (ap in_text (written_due word ns plan whole 1))
      ∙ on _ (heading_passes line (full_written 1 word ns))
      ∙ ap (site_under p.heading) (written_after word ns plan whole)
      ∙ under_passes

-- ---- the law

same_plan : (p : Plan) (b : Bounded p) → plan_of (record { heading = p.heading; sheet = drawn p b }) ≡ p
same_plan p b = λ i. record { heading = p.heading; cells = cells_back p b i }

site_law : (r : Result SiteValue SiteFault) (t : List ℕ) → r ≡ site_of t → SiteLaw t (result_map_both plan_of (λ e. e) r)
site_law r t e p = (read r e, written)
  where
    read : (r : Result SiteValue SiteFault) → r ≡ site_of t → result_map_both plan_of (λ d. d) r ≡ Ok p → (t ≡ site_text p) × Bounded p
    read (Ok s) h g =
        let same : plan_of s ≡ p = cc in
        subst (λ (x : Plan). (t ≡ site_text x) × Bounded x) same (laid t s (sym h), bounded s (accepted t s (sym h)))
    read (Err d) h g = absurd cc

    written : t ≡ site_text p → Bounded p → result_map_both plan_of (λ d. d) r ≡ Ok p
    written f b = ap (result_map_both plan_of (λ d. d)) (e ∙ ap site_of f ∙ passes p b) ∙ ap Ok (same_plan p b)

pub site_law_of : (r : Result Site SiteFault) (t : List ℕ) → result_map_both site_value (λ e. e) r ≡ site_of t → SiteLaw t (result_map_both (λ s. plan_of (site_value s)) (λ e. e) r)
site_law_of (Ok s) t e = site_law (Ok (site_value s)) t e
site_law_of (Err d) t e = site_law (Err d) t e
