-- The digits of a number behind blanks are its ten columns.
use Rattle.std.proofs.Common.{◌≡◌, ℕ, zero, suc, ◌+◌, ◌-◌, ◌*◌, ◌/◌, ◌%◌, ◌^◌, ◌<◌, ◌≤◌, eqb, leb, ◌⊎◌, List, [], ◌∷◌, ◌++◌, length, take, drop, refl, sym, ap, ◌∙◌, inl, inr, append_assoc, pow-suc, div-one, arith, length-append, lit<}
use Rattle.std.specs.Prelude.{decimal, replicate}
use Rattle.std.proofs.Math.Nat.{div-div-eq-div-mul, one-le-pow}
use Rattle.std.proofs.lemmas.Bool.{cases_lt, cond-true, cond-false, or_left, or_right, or_from, le-leb, lt-leb, ne_eqb}
use Rattle.std.proofs.lemmas.Fmt.{decimal_by_steps, length-decimal-le}
use Rattle.std.proofs.lemmas.List.{append-nil, take-append-drop, take-replicate}
use Rattle.texts.specs.Fields.{column, field_text}

-- the columns of the digits that count 10 ^ k down to 1
abbrev columns : ℕ → ℕ → List ℕ
columns zero n = column n 0 ∷ []
columns (suc k) n = column n (suc k) ∷ columns k n

-- a column holds a digit, the last one always, or else a blank
digit : (n p : ℕ) → 10 ^ p ≤ n → column n p ≡ 48 + (n / 10 ^ p) % 10
digit n p h = cond-true _ _ _ (or_left (leb (10 ^ p) n) (eqb p 0) (le-leb (10 ^ p) n h))

last_digit : (n : ℕ) → column n 0 ≡ 48 + n % 10
last_digit n = cond-true _ _ _ (or_right (leb 1 n) (eqb 0 0) refl) ∙ ap (λ m. 48 + m % 10) (div-one n)

blank : (n p : ℕ) → n < 10 ^ suc p → column n (suc p) ≡ 32
blank n p h = cond-false _ _ _ (or_from (leb (10 ^ suc p) n) (eqb (suc p) 0) (lt-leb (10 ^ suc p) n h) (ne_eqb (suc p) 0 (λ e. omega arith)))

-- a column of a number is one further right without its last digit
shorter : (n p : ℕ) → 10 ≤ n → column n (suc p) ≡ column (n / 10) p
shorter n zero h = digit n 1 h ∙ sym (last_digit (n / 10))
shorter n (suc p) h = by (cases_lt n (10 ^ suc (suc p)))
  where
    power : 10 ^ suc (suc p) ≡ 10 ^ suc p * 10
    power = pow-suc 10 (suc p)

    same : n / 10 ^ suc (suc p) ≡ n / 10 / 10 ^ suc p
    same = ap (λ m. n / m) (power ∙ omega arith) ∙ sym (div-div-eq-div-mul n 10 (10 ^ suc p))

    by : (n < 10 ^ suc (suc p)) ⊎ (10 ^ suc (suc p) ≤ n) → column n (suc (suc p)) ≡ column (n / 10) (suc p)
    by (inl l) = blank n (suc p) l ∙ sym (blank (n / 10) p (omega (arith, power)))
    by (inr g) =
        digit n (suc (suc p)) g
        ∙ ap (λ m. 48 + m % 10) same
        ∙ sym (digit (n / 10) (suc p) (omega (arith, power)))

columns_shorter : (k n : ℕ) → 10 ≤ n → columns (suc k) n ≡ columns k (n / 10) ++ (48 + n % 10) ∷ []
columns_shorter zero n h = λ i. shorter n 0 h i ∷ last_digit n i ∷ []
columns_shorter (suc k) n h = λ i. shorter n (suc k) h i ∷ columns_shorter k n h i

columns_digit : (k n : ℕ) → n < 10 → columns k n ≡ replicate k 32 ++ (48 + n) ∷ []
columns_digit zero n h = let same : 48 + n % 10 ≡ 48 + n = omega arith in λ i. (last_digit n ∙ same) i ∷ []
columns_digit (suc k) n h =
    let one = one-le-pow k 10 (lit< tt) in
    let power = pow-suc 10 k in
    let wide : n < 10 ^ suc k = omega arith in
    λ i. blank n k wide i ∷ columns_digit k n h i

columns_decimal : (n : ℕ) → n < 2 ^ 64 → (k : ℕ) → n < 10 ^ suc k → columns k n ≡ replicate (suc k - length (decimal n)) 32 ++ decimal n
columns_decimal n small = decimal_by_steps (λ m ds. (k : ℕ) → m < 10 ^ suc k → columns k m ≡ replicate (suc k - length ds) 32 ++ ds) one more n small
  where
    one : (m : ℕ) → m < 10 → (k : ℕ) → m < 10 ^ suc k → columns k m ≡ replicate (suc k - 1) 32 ++ (48 + m) ∷ []
    one m h k l = let back : k ≡ suc k - 1 = omega arith in columns_digit k m h ∙ ap (λ j. replicate j 32 ++ (48 + m) ∷ []) back

    more : (m : ℕ) (ds : List ℕ) → 10 ≤ m → ((k : ℕ) → m / 10 < 10 ^ suc k → columns k (m / 10) ≡ replicate (suc k - length ds) 32 ++ ds) → (k : ℕ) → m < 10 ^ suc k → columns k m ≡ replicate (suc k - length (ds ++ (48 + m % 10) ∷ [])) 32 ++ (ds ++ (48 + m % 10) ∷ [])
    more m ds h rest zero l = absurd (omega arith)
    more m ds h rest (suc k) l =
        let power = pow-suc 10 (suc k) in
        let size = length-append ds ((48 + m % 10) ∷ []) in
        let blanks : suc k - length ds ≡ suc (suc k) - length (ds ++ (48 + m % 10) ∷ []) = omega arith in
        columns_shorter k m h
        ∙ ap (λ (x : List ℕ). x ++ (48 + m % 10) ∷ []) (rest k (omega arith))
        ∙ append_assoc (replicate (suc k - length ds) 32) ds ((48 + m % 10) ∷ [])
        ∙ ap (λ j. replicate j 32 ++ (ds ++ (48 + m % 10) ∷ [])) blanks

pub digits_fit : (n : ℕ) → n < 2 ^ 32 → length (decimal n) ≤ 10
digits_fit n small = length-decimal-le 10 n (omega arith) (omega arith) (omega arith)

-- the digits of a number, at the end of ten blanks
pub digits_as_field : (n at : ℕ) (cells : List ℕ) → n < 2 ^ 32 → at + length (decimal n) ≡ 10 → drop at cells ≡ decimal n ++ drop 10 (replicate 10 32) → take at cells ≡ take at (replicate 10 32) → cells ≡ field_text n
unfolding field_text
digits_as_field n at cells small size behind before =
    let left : 10 - length (decimal n) ≡ at = omega arith in
    sym (take-append-drop at cells)
    ∙ ap (λ (x : List ℕ). x ++ drop at cells) (before ∙ take-replicate at 10 32 (omega arith))
    ∙ ap (λ (x : List ℕ). replicate at 32 ++ x) (behind ∙ append-nil (decimal n))
    ∙ ap (λ j. replicate j 32 ++ decimal n) (sym left)
    ∙ sym (columns_decimal n (omega arith) 9 (omega arith))
