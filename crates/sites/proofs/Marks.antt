-- The bytes of a line up to the first that is no sheet byte.
use Rattle.std.proofs.Common.{◌≡◌, ℕ, zero, suc, ◌+◌, ◌<◌, true, false, List, [], ◌∷◌, length, Ok, Err, refl, ap, ◌∙◌, arith, Bool, cond, get_or}
use Rattle.std.proofs.lemmas.Bool.{cond-true, cond-false}
use Rattle.sites.specs.declared.fault.SiteFault.TheVariants.{Foreign}
use Rattle.texts.specs.Lines.{TextLine, in_line}
use Rattle.sites.specs.Site.{is_mark, marks_check}

pub marks_pass : (l : TextLine) (c : ℕ) (bs : List ℕ) → ((k : ℕ) → k < length bs → is_mark (get_or bs k 0) ≡ true) → marks_check l c bs ≡ Ok (tt {0})
marks_pass l c [] m = refl
marks_pass l c (b ∷ bs) m = cond-true (is_mark b) _ _ (m 0 (omega arith)) ∙ marks_pass l (c + 1) bs (λ k h. m (suc k) (omega arith))

pub marks_stop : (l : TextLine) (c : ℕ) (bs : List ℕ) (i : ℕ) → i < length bs → is_mark (get_or bs i 0) ≡ false → ((k : ℕ) → k < i → is_mark (get_or bs k 0) ≡ true) → marks_check l c bs ≡ Err (Foreign (in_line l (c + i)))
marks_stop l c [] i h f m = absurd (omega arith)
marks_stop l c (b ∷ bs) zero h f m = cond-false (is_mark b) _ _ f ∙ ap (λ k. Err (Foreign (in_line l k))) (omega arith)
marks_stop l c (b ∷ bs) (suc i) h f m =
    cond-true (is_mark b) _ _ (m 0 (omega arith))
    ∙ marks_stop l (c + 1) bs i (omega arith) f (λ k g. m (suc k) (omega arith))
    ∙ ap (λ k. Err (Foreign (in_line l k))) (omega arith)

-- marks up to the end
pub marks_all : (l : TextLine) (c : ℕ) (bs : List ℕ) → marks_check l c bs ≡ Ok (tt {0}) → (k : ℕ) → k < length bs → is_mark (get_or bs k 0) ≡ true
marks_all l c [] e k h = absurd (omega arith)
marks_all l c (b ∷ bs) e k h = by (is_mark b) refl e k h (marks_all l (c + 1) bs)
  where
    by : (t : Bool) → is_mark b ≡ t → cond t (marks_check l (c + 1) bs) (Err (Foreign (in_line l c))) ≡ Ok (tt {0}) → (k : ℕ) → k < length (b ∷ bs) → (marks_check l (c + 1) bs ≡ Ok (tt {0}) → (j : ℕ) → j < length bs → is_mark (get_or bs j 0) ≡ true) → is_mark (get_or (b ∷ bs) k 0) ≡ true
    by true m g zero h rest = m
    by true m g (suc k) h rest = rest g k (omega arith)
    by false m g k h rest = absurd cc
