-- How long the rows of a sheet are, one by one and together.
use Rattle.std.proofs.Common.{◌≡◌, ℕ, zero, suc, ◌+◌, ◌-◌, ◌*◌, ◌<◌, ◌≤◌, true, List, [], ◌∷◌, length, take, drop, Ok, sym, ap, ◌∙◌, suc-mul, zero-mul, arith}
use Rattle.std.proofs.lemmas.List.{length-drop}
use Rattle.std.proofs.lemmas.Bool.{ltb-true}
use Rattle.sites.specs.declared.fault.SiteFault.TheVariants.{Text}
use Rattle.texts.specs.Lines.{TextLine, line_of, line_ended, after_line, due_line}
use Rattle.sites.specs.Site.{in_text, row_check, rows_check}
use Rattle.texts.specs.Words.{length_check}
use Rattle.texts.proofs.Cuts.{line_is_front, after_is_back, ended_is_short}
use Rattle.texts.proofs.Steps.{passed, lifted}
use Rattle.texts.proofs.Words.{right_length}

-- a row that is right is w bytes and the byte that ends it
pub row_long : (w n : ℕ) (t : List ℕ) (line : TextLine) → Ok line ≡ due_line n t → Ok (tt {0}) ≡ row_check w line → (w + 1 ≤ length t) × (after_line t ≡ drop (w + 1) t) × (line.bytes ≡ take w t)
unfolding row_check
row_long w n [] line d r = absurd cc
row_long w n (b ∷ bs) line d r =
    let t : List ℕ = b ∷ bs in
    let p = passed (in_text (length_check line w)) _ (sym r) in
    let right = right_length line w (lifted Text (length_check line w) p.1) in
    let is : line ≡ record { number = n; bytes = line_of t; ended = line_ended t } = cc d in
    let same : length (line_of t) ≡ w = sym (ap (λ (x : TextLine). length x.bytes) is) ∙ right.0 in
    let ended : line_ended t ≡ true = sym (ap (λ (x : TextLine). x.ended) is) ∙ right.1 in
    let below : length (line_of t) < length t = ltb-true (length (line_of t)) (length t) (sym (ended_is_short t) ∙ ended) in
    (omega arith, after_is_back t ∙ ap (λ k. drop (k + 1) t) same, ap (λ (x : TextLine). x.bytes) is ∙ line_is_front t ∙ ap (λ k. take k t) same)

pub rows_long : (rows w n : ℕ) (t : List ℕ) → rows_check rows w n t ≡ Ok (tt {0}) → rows * (w + 1) ≤ length t
rows_long zero w n t e = omega (arith, zero-mul (w + 1))
rows_long (suc k) w n t e =
    let d = passed (in_text (due_line n t)) _ e in
    let r = passed (row_check w d.0) _ d.2 in
    let long = row_long w n t d.0 (lifted Text (due_line n t) d.1) (sym r.1) in
    let rest = rows_long k w (n + 1) (after_line t) r.2 in
    let size : length (after_line t) ≡ length t - (w + 1) = ap (λ (x : List ℕ). length x) long.1 ∙ length-drop (w + 1) t in
    omega (arith, suc-mul k (w + 1), long.0, rest)
