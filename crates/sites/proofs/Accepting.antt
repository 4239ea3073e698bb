-- What a site that is accepted keeps to.
use Rattle.std.proofs.Common.{◌≡◌, ℕ, zero, suc, ◌+◌, ◌-◌, ◌*◌, ◌<◌, ◌≤◌, Bool, true, false, cond, ltb, ◌⊎◌, List, ◌++◌, length, get_or, take, drop, IfOk, Ok, Err, codes, Result, sym, refl, ap, ◌∙◌, subst, inl, inr, suc-mul, mul_comm, zero-mul, arith}
use Rattle.std.specs.Result.{result_map_both}
use Rattle.std.proofs.lemmas.List.{length-append, length-take-le, length-drop, get_or_append_left, get_or-append_right, drop-take, take-take}
use Rattle.std.proofs.lemmas.Bool.Decides.{nat_tests}
use Rattle.std.proofs.lemmas.Bool.{ltb-false, cases_lt}
use Rattle.sites.specs.declared.fault.SiteFault.{SiteFault}
use Rattle.sites.specs.declared.fault.SiteFault.TheVariants as fault
use Rattle.texts.specs.declared.heading.Heading.{Heading}
use Rattle.sites.specs.declared.site.Site.{Site}
use Rattle.texts.specs.FirstLines.{heading_of}
use Rattle.texts.specs.Headings.{heading_check}
use Rattle.texts.specs.Lines.{TextLine, after_line, due_line, end_check}
use Rattle.sites.specs.Site.{in_text, in_heading, site_heading, is_mark, row_check, rows_check, word_alone, after_lines, cells_of, ends_check, SiteValue, site_value, site_under, site_of, Accepted}
use Rattle.sites.specs.Format.{plan_of, Bounded}
use Rattle.texts.specs.Words.{length_check}
use Rattle.sites.proofs.Marks.{marks_all}
use Rattle.sites.proofs.Rows.{row_long, rows_long}
use Rattle.texts.proofs.Steps.{passed, lifted}

-- the cells of a sheet, whatever stands behind it
pub cells_front : (rows w : ℕ) (t : List ℕ) → cells_of w rows (take (rows * (w + 1)) t) ≡ cells_of w rows t
cells_front zero w t = refl
cells_front (suc k) w t =
    let size = suc-mul k (w + 1) in
    let first : take w (take (suc k * (w + 1)) t) ≡ take w t = take-take w (suc k * (w + 1)) t (omega arith) in
    let rest : drop (w + 1) (take (suc k * (w + 1)) t) ≡ take (k * (w + 1)) (drop (w + 1) t) = ap (λ n. drop (w + 1) (take n t)) (omega arith) ∙ drop-take (w + 1) (k * (w + 1)) t in
    ap (λ (x : List ℕ). x ++ cells_of w k (drop (w + 1) (take (suc k * (w + 1)) t))) first
    ∙ ap (λ (x : List ℕ). take w t ++ cells_of w k x) rest
    ∙ ap (λ (x : List ℕ). take w t ++ x) (cells_front k w (drop (w + 1) t))

cells_long : (rows w : ℕ) (t : List ℕ) → rows * (w + 1) ≤ length t → length (cells_of w rows t) ≡ rows * w
cells_long zero w t l = sym (zero-mul w)
cells_long (suc k) w t l =
    let size = suc-mul k (w + 1) in
    let total = suc-mul k w in
    let cut = length-drop (w + 1) t in
    let rest : length (cells_of w k (drop (w + 1) t)) ≡ k * w = cells_long k w (drop (w + 1) t) (omega arith) in
    let first : length (take w t) ≡ w = length-take-le w t (omega arith) in
    length-append (take w t) (cells_of w k (drop (w + 1) t)) ∙ omega arith

-- the cells of rows that are accepted
row_marks : (w n : ℕ) (t : List ℕ) (line : TextLine) → Ok line ≡ due_line n t → row_check w line ≡ Ok (tt {0}) → (k : ℕ) → k < length (take w t) → is_mark (get_or (take w t) k 0) ≡ true
unfolding row_check
row_marks w n t line d r =
    let p = passed (in_text (length_check line w)) _ r in
    let same = (row_long w n t line d (sym r)).2 in
    subst (λ (x : List ℕ). (k : ℕ) → k < length x → is_mark (get_or x k 0) ≡ true) same (marks_all line 1 line.bytes p.2)

cells_marks : (rows w n : ℕ) (t : List ℕ) → rows_check rows w n t ≡ Ok (tt {0}) → (c : ℕ) → c < rows * w → is_mark (get_or (cells_of w rows t) c 0) ≡ true
cells_marks zero w n t e c l = absurd (omega (arith, zero-mul w))
cells_marks (suc k) w n t e c l =
    let d = passed (in_text (due_line n t)) _ e in
    let r = passed (row_check w d.0) _ d.2 in
    let due = lifted fault.Text (due_line n t) d.1 in
    let long = row_long w n t d.0 due (sym r.1) in
    let first : length (take w t) ≡ w = length-take-le w t (omega (arith, long.0)) in
    let total = suc-mul k w in
    let rest = cells_marks k w (n + 1) (after_line t) r.2 in
    by first total (row_marks w n t d.0 due r.1) (subst (λ (x : List ℕ). (j : ℕ) → j < k * w → is_mark (get_or (cells_of w k x) j 0) ≡ true) long.1 rest) (cases_lt c w)
  where
    by : length (take w t) ≡ w → suc k * w ≡ k * w + w → ((j : ℕ) → j < length (take w t) → is_mark (get_or (take w t) j 0) ≡ true) → ((j : ℕ) → j < k * w → is_mark (get_or (cells_of w k (drop (w + 1) t)) j 0) ≡ true) → (c < w) ⊎ (w ≤ c) → is_mark (get_or (cells_of w (suc k) t) c 0) ≡ true
    by first total here there (inl h) = ap is_mark (get_or_append_left (take w t) (cells_of w k (drop (w + 1) t)) 0 c (omega arith)) ∙ here c (omega arith)
    by first total here there (inr h) = ap is_mark (get_or-append_right (take w t) (cells_of w k (drop (w + 1) t)) w c 0 first h) ∙ there (c - w) (omega arith)

-- a test that stands before other checks has passed if they all have
pub refuses : {A : Type 0} (b : Bool) (e : SiteFault) (rest : Result A SiteFault) (x : A) → cond b (Err e) rest ≡ Ok x → (b ≡ false) × (rest ≡ Ok x)
refuses true e rest x h = absurd cc
refuses false e rest x h = (refl, h)

-- a first line that is accepted
pub record Headed (l : TextLine) (h : Heading) : Type 0 where
  pub read : heading_of l (codes "SITE") ≡ Ok h
  pub known : heading_check h ≡ Ok (tt {0})
  pub small : h.width * h.height ≤ 512

pub headed : (l : TextLine) (h : Heading) → Ok h ≡ site_heading l → Headed l h
unfolding site_heading
headed l h e =
    let p = passed (in_text (heading_of l (codes "SITE"))) _ (sym e) in
    let q = passed (in_heading (heading_check p.0)) _ p.2 in
    let r = refuses (ltb 512 (p.0.width * p.0.height)) _ _ _ q.2 in
    let same : p.0 ≡ h = cc r.1 in
    subst (Headed l) same (record {
      read = sym (lifted fault.Text (heading_of l (codes "SITE")) p.1);
      known = sym (lifted fault.Heading (heading_check p.0) q.1);
      small = ltb-false 512 (p.0.width * p.0.height) r.0;
    })

-- start and goal that are accepted
module _ (h : Heading) (sheet : List ℕ) (e : ends_check h sheet ≡ Ok (tt {0})) where
  record Ends : Type 0 where
    start : h.start < h.width * h.height
    clear : get_or (cells_of h.width h.height sheet) h.start 0 ≡ 35 → ⊥
    goal : h.goal < h.width * h.height

  ends : Ends
  unfolding ends_check
  ends = record { start = grind (arith, nat_tests); clear = λ rock. grind (arith, nat_tests); goal = grind (arith, nat_tests) }

passable_mark : (b : ℕ) → is_mark b ≡ true → (b ≡ 35 → ⊥) → b ≡ 46
passable_mark b m n = grind (arith, nat_tests)

sheet_accepted : (l : TextLine) (h : Heading) (rows : List ℕ) → Headed l h → rows_check h.height h.width 3 rows ≡ Ok (tt {0}) → ends_check h (take (h.height * (h.width + 1)) rows) ≡ Ok (tt {0}) → Accepted h (take (h.height * (h.width + 1)) rows)
sheet_accepted l h rows g r e =
    let w = h.width in
    let k = h.height in
    let sheet = take (k * (w + 1)) rows in
    let long = rows_long k w 3 rows r in
    let same : cells_of w k sheet ≡ cells_of w k rows = cells_front k w rows in
    let turn = mul_comm w k in
    let all = subst (λ (x : List ℕ). (c : ℕ) → c < k * w → is_mark (get_or x c 0) ≡ true) (sym same) (cells_marks k w 3 rows r) in
    let f = ends h sheet e in
    record {
      known = g.known;
      small = g.small;
      rows = length-take-le (k * (w + 1)) rows long;
      cells = ap (λ (x : List ℕ). length x) same ∙ cells_long k w rows long ∙ sym turn;
      marks = λ c l. all c (omega arith);
      start = f.start;
      passable = passable_mark (get_or (cells_of w k sheet) h.start 0) (all h.start (omega (arith, f.start))) f.clear;
      goal = f.goal;
    }

under_accepted : (l : TextLine) (h : Heading) (plan : List ℕ) (s : SiteValue) → Headed l h → site_under h plan ≡ Ok s → Accepted s.heading s.sheet
unfolding site_under
under_accepted l h plan s g e =
    let rows = after_line plan in
    let end = after_lines h.height rows in
    let sheet = take (h.height * (h.width + 1)) rows in
    let a = passed (word_alone 2 (codes "PLAN") plan) _ e in
    let b = passed (rows_check h.height h.width 3 rows) _ a.2 in
    let c = passed (word_alone (h.height + 3) (codes "END") end) _ b.2 in
    let d = passed (in_text (end_check (h.height + 4) (after_line end))) _ c.2 in
    let f = passed (ends_check h sheet) _ d.2 in
    let last : record { heading = h; sheet = sheet } ≡ s = cc f.2 in
    subst (λ (v : SiteValue). Accepted v.heading v.sheet) last (sheet_accepted l h rows g b.1 f.1)

pub accepted : (t : List ℕ) (s : SiteValue) → site_of t ≡ Ok s → Accepted s.heading s.sheet
unfolding site_of
accepted t s e =
    let p = refuses (ltb 4096 (length t)) _ _ _ e in
    let a = passed (in_text (due_line 1 t)) _ p.1 in
    let b = passed (site_heading a.0) _ a.2 in
    under_accepted a.0 b.0 (after_line t) s (headed a.0 b.0 (sym b.1)) b.2

pub accepted_site : (r : Result Site SiteFault) (t : List ℕ) → result_map_both site_value (λ e. e) r ≡ site_of t → IfOk r (λ s. Accepted s.heading s.sheet.now)
accepted_site (Ok s) t e = accepted t (site_value s) (sym e)
accepted_site (Err d) t e = tt

-- such a site keeps the bounds of a plan
pub bounded : (s : SiteValue) → Accepted s.heading s.sheet → Bounded (plan_of s)
bounded s a = record { known = a.known; small = a.small; cells = a.cells; marks = a.marks; start = a.start; passable = a.passable; goal = a.goal }

pub bounded_site : (r : Result Site SiteFault) (t : List ℕ) → result_map_both site_value (λ e. e) r ≡ site_of t → IfOk r (λ s. Bounded (plan_of (site_value s)))
bounded_site (Ok s) t e = bounded (site_value s) (accepted t (site_value s) (sym e))
bounded_site (Err d) t e = tt
