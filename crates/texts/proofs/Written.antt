-- A field that is read is the field that is written: both ways, by what is left of a number without its last digits.
use Rattle.std.proofs.Common.{◌≡◌, ℕ, zero, suc, ◌+◌, ◌-◌, ◌*◌, ◌/◌, ◌%◌, ◌^◌, ◌<◌, ◌≤◌, Bool, true, false, cond, ◌&&◌, eqb, ltb, leb, ◌⊎◌, List, [], ◌∷◌, length, Some, None, Option, sym, refl, ap, ◌∙◌, subst, inl, inr, pow-suc, div-one, arith, lit<}
use native.Mathlib.Nat.{pow-le-pow_right, div-div-eq-div-mul, div-eq_of_lt, lt-div-mul-add}
use Rattle.std.proofs.lemmas.Bool.{cases_lt, cases_eq, cond-true, cond-false, or_left, or_right, or_from, le-leb, lt-leb, eq-eqb, ne_eqb, and_from, and_left, and_right, and_parts, leb-true, eqb-true, eqb-false, ltb-false}
use Rattle.std.proofs.lemmas.Bool.Decides.{nat_tests}
use Rattle.texts.specs.Fields.{column, field_text}
use Rattle.texts.specs.Numerals.{behind_blanks, is_digit, digits_from, numeral, up_to, number_of, Reads}

-- the number without its last p digits
abbrev front : ℕ → ℕ → ℕ
front n p = n / 10 ^ p

power_pos : (p : ℕ) → 0 < 10 ^ p
power_pos p = pow-le-pow_right {n = 10} (lit< tt) {i = 0} {j = p} (omega arith)

front_zero : (n : ℕ) → front n 0 ≡ n
front_zero n = div-one n

front_suc : (n p : ℕ) → front n (suc p) ≡ front n p / 10
front_suc n p = rw (pow-suc 10 p) (sym (div-div-eq-div-mul n (10 ^ p) 10))

front_at_least : (n p : ℕ) → 0 < front n p → 10 ^ p ≤ n
front_at_least n p h = by (cases_lt n (10 ^ p))
  where
    by : (n < 10 ^ p) ⊎ (10 ^ p ≤ n) → 10 ^ p ≤ n
    by (inl l) = absurd (omega (arith, div-eq_of_lt l))
    by (inr l) = l

front_below : (n p : ℕ) → front n p ≡ 0 → n < 10 ^ p
front_below n p e = let h : n < front n p * 10 ^ p + 10 ^ p = lt-div-mul-add (power_pos p) in let g : front n p * 10 ^ p ≡ 0 = ap (λ k. k * 10 ^ p) e ∙ omega arith in omega arith

-- a column holds a digit in a number's front and at its end, and else a blank
column_digit : (n p : ℕ) → (0 < front n p) ⊎ (p ≡ 0) → column n p ≡ 48 + front n p % 10
column_digit n p (inl h) = cond-true _ _ _ (or_left (leb (10 ^ p) n) (eqb p 0) (le-leb (10 ^ p) n (front_at_least n p h)))
column_digit n p (inr e) = cond-true _ _ _ (or_right (leb (10 ^ p) n) (eqb p 0) (eq-eqb p 0 e))

column_blank : (n p : ℕ) → front n p ≡ 0 → (p ≡ 0 → ⊥) → column n p ≡ 32
column_blank n p e h = cond-false _ _ _ (or_from (leb (10 ^ p) n) (eqb p 0) (lt-leb (10 ^ p) n (front_below n p e)) (ne_eqb p 0 h))

-- the last p columns of a number
abbrev columns : ℕ → ℕ → List ℕ
columns zero n = []
columns (suc p) n = column n p ∷ columns p n

length_columns : (p n : ℕ) → length (columns p n) ≡ p
length_columns zero n = refl
length_columns (suc p) n = ap suc (length_columns p n)

-- what is written is read: the digits behind a front, and the whole
next_digit : (v d : ℕ) (ds : List ℕ) → d < 10 → digits_from v ((48 + d) ∷ ds) ≡ digits_from (v * 10 + d) ds
next_digit v d ds l =
    cond-true _ _ _ (and_from (leb 48 (48 + d)) (leb (48 + d) 57) (le-leb 48 (48 + d) (omega arith)) (le-leb (48 + d) 57 (omega arith)))
    ∙ ap (λ k. digits_from (v * 10 + k) ds) (omega arith)

read_digits : (p n : ℕ) → (0 < front n p) ⊎ (p ≡ 0) → digits_from (front n p) (columns p n) ≡ Some n
read_digits zero n h = ap Some (front_zero n)
read_digits (suc p) n (inr e) = absurd (omega arith)
read_digits (suc p) n (inl h) =
    let q = front n p in
    let e = front_suc n p in
    let l : 0 < q = omega arith in
    ap (λ b. digits_from (front n (suc p)) (b ∷ columns p n)) (column_digit n p (inl l))
    ∙ next_digit (front n (suc p)) (q % 10) (columns p n) (omega arith)
    ∙ ap (λ v. digits_from v (columns p n)) (omega arith)
    ∙ read_digits p n (inl l)

-- a first digit that is no zero, or stands alone
begun : (d : ℕ) (ds : List ℕ) → d < 10 → (0 < d) ⊎ (length ds ≡ 0) → numeral (behind_blanks ((48 + d) ∷ ds)) ≡ digits_from d ds
begun d ds l h =
    ap numeral (cond-false _ _ _ (ne_eqb (48 + d) 32 (λ e. omega arith)))
    ∙ cond-false _ _ _ (leads h)
    ∙ next_digit 0 d ds l
    ∙ ap (λ v. digits_from v ds) (omega arith)
  where
    leads : (0 < d) ⊎ (length ds ≡ 0) → (eqb (48 + d) 48 && ltb 0 (length ds)) ≡ false
    leads (inl g) = and_left (eqb (48 + d) 48) (ltb 0 (length ds)) (ne_eqb (48 + d) 48 (λ e. omega arith))
    leads (inr g) = and_right (eqb (48 + d) 48) (ltb 0 (length ds)) (grind (arith, nat_tests))

read_columns : (p n : ℕ) → front n (suc p) ≡ 0 → numeral (behind_blanks (columns (suc p) n)) ≡ Some n
read_columns zero n z =
    let e = front_zero n in
    let s = front_suc n 0 in
    ap (λ b. numeral (behind_blanks (b ∷ []))) (column_digit n 0 (inr refl))
    ∙ begun (front n 0 % 10) [] (omega arith) (inr refl)
    ∙ ap Some (omega arith)
read_columns (suc p) n z = by (cases_eq (front n (suc p)) 0) (read_columns p n)
  where
    by : (front n (suc p) ≡ 0) ⊎ (front n (suc p) ≡ 0 → ⊥) → (front n (suc p) ≡ 0 → numeral (behind_blanks (columns (suc p) n)) ≡ Some n) → numeral (behind_blanks (columns (suc (suc p)) n)) ≡ Some n
    by (inl e) rest = ap (λ b. numeral (behind_blanks (b ∷ columns (suc p) n))) (column_blank n (suc p) e (λ k. omega arith)) ∙ rest e
    by (inr e) rest =
        let q = front n (suc p) in
        let s = front_suc n (suc p) in
        ap (λ b. numeral (behind_blanks (b ∷ columns (suc p) n))) (column_digit n (suc p) (inl (omega arith)))
        ∙ begun (q % 10) (columns (suc p) n) (omega arith) (inl (omega arith))
        ∙ ap (λ v. digits_from v (columns (suc p) n)) (omega arith)
        ∙ read_digits (suc p) n (inl (omega arith))

-- what is read is what is written: digits behind a number v, of which the first is no leading zero
abbrev Led : ℕ → List ℕ → Type 0
Led v [] = Unit {0}
Led v (b ∷ bs) = (0 < v * 10 + (b - 48)) ⊎ (length bs ≡ 0)

led_on : (v : ℕ) (bs : List ℕ) → (0 < v) ⊎ (length bs ≡ 0) → Led v bs
led_on v [] h = tt
led_on v (c ∷ cs) (inl h) = inl (omega arith)
led_on v (c ∷ cs) (inr h) = absurd (omega arith)

record Behind (v : ℕ) (ds : List ℕ) (n : ℕ) : Type 0 where
  same : Led v ds → columns (length ds) n ≡ ds
  leads : front n (length ds) ≡ v

digit_written : (v b : ℕ) (bs : List ℕ) (n : ℕ) → is_digit b ≡ true → Behind (v * 10 + (b - 48)) bs n → Behind v (b ∷ bs) n
digit_written v b bs n d r =
    let two = and_parts (leb 48 b) (leb b 57) d in
    let low : 48 ≤ b = leb-true 48 b two.0 in
    let high : b ≤ 57 = leb-true b 57 two.1 in
    let f : front n (length bs) ≡ v * 10 + (b - 48) = r.leads in
    let s = front_suc n (length bs) in
    record { same = first low high f; leads = omega arith }
  where
    some_front : {m : ℕ} → front n (length bs) ≡ m → (0 < m) ⊎ (length bs ≡ 0) → (0 < front n (length bs)) ⊎ (length bs ≡ 0)
    some_front e (inl h) = inl (omega arith)
    some_front e (inr h) = inr h

    first : 48 ≤ b → b ≤ 57 → front n (length bs) ≡ v * 10 + (b - 48) → Led v (b ∷ bs) → columns (length (b ∷ bs)) n ≡ b ∷ bs
    first low high f h =
        let c : column n (length bs) ≡ b = column_digit n (length bs) (some_front f h) ∙ omega arith in
        let cs : columns (length bs) n ≡ bs = r.same (led_on (v * 10 + (b - 48)) bs h) in
        λ i. c i ∷ cs i

behind : (v : ℕ) (ds : List ℕ) (n : ℕ) → digits_from v ds ≡ Some n → Behind v ds n
behind v [] n e = record { same = λ h. refl; leads = front_zero n ∙ cc }
behind v (b ∷ bs) n e = by (is_digit b) refl e (behind (v * 10 + (b - 48)) bs n)
  where
    by : (t : Bool) → is_digit b ≡ t → cond t (digits_from (v * 10 + (b - 48)) bs) None ≡ Some n → (digits_from (v * 10 + (b - 48)) bs ≡ Some n → Behind (v * 10 + (b - 48)) bs n) → Behind v (b ∷ bs) n
    by false d h rest = absurd cc
    by true d h rest = digit_written v b bs n d (rest h)

-- a field: its columns, and that there are digits enough for its number
record Field (f : List ℕ) (n : ℕ) : Type 0 where
  same : columns (length f) n ≡ f
  small : front n (length f) ≡ 0
  some : 0 < length f

first_is_digit : (v b : ℕ) (bs : List ℕ) (n : ℕ) → digits_from v (b ∷ bs) ≡ Some n → 48 ≤ b
first_is_digit v b bs n e = grind (arith, nat_tests)

numeral_written : (ds : List ℕ) (n : ℕ) → numeral ds ≡ Some n → Field ds n
numeral_written [] n e = absurd cc
numeral_written (b ∷ bs) n e = by (eqb b 48) (ltb 0 (length bs)) refl refl e
  where
    led : 48 ≤ b → (eqb b 48 ≡ false) ⊎ (length bs ≡ 0) → Led 0 (b ∷ bs)
    led l (inl k) = inl (omega (arith, eqb-false b 48 k))
    led l (inr k) = inr k

    read : (eqb b 48 ≡ false) ⊎ (length bs ≡ 0) → digits_from 0 (b ∷ bs) ≡ Some n → Field (b ∷ bs) n
    read h g = let r = behind 0 (b ∷ bs) n g in record { same = r.same (led (first_is_digit 0 b bs n g) h); small = r.leads; some = omega arith }

    by : (t u : Bool) → eqb b 48 ≡ t → ltb 0 (length bs) ≡ u → cond (t && u) None (digits_from 0 (b ∷ bs)) ≡ Some n → Field (b ∷ bs) n
    by true true p q h = absurd cc
    by true false p q h = read (inr (omega (arith, ltb-false 0 (length bs) q))) h
    by false u p q h = read (inl p) h

blank_written : (b : ℕ) (bs : List ℕ) (n : ℕ) → b ≡ 32 → Field bs n → Field (b ∷ bs) n
blank_written b bs n e r =
    let c : column n (length bs) ≡ b = column_blank n (length bs) r.small (λ k. omega (arith, r.some)) ∙ sym e in
    let cs = r.same in
    record { same = λ i. c i ∷ cs i; small = front_suc n (length bs) ∙ ap (λ k. k / 10) r.small; some = omega arith }

columns_written : (f : List ℕ) (n : ℕ) → numeral (behind_blanks f) ≡ Some n → Field f n
columns_written [] n e = absurd cc
columns_written (b ∷ bs) n e = by (eqb b 32) refl e (columns_written bs n)
  where
    by : (t : Bool) → eqb b 32 ≡ t → numeral (cond t (behind_blanks bs) (b ∷ bs)) ≡ Some n → (numeral (behind_blanks bs) ≡ Some n → Field bs n) → Field (b ∷ bs) n
    by true p h rest = blank_written b bs n (eqb-true b 32 p) (rest h)
    by false p h rest = numeral_written (b ∷ bs) n h

-- the law, both ways
within : (o : Option ℕ) (n : ℕ) → up_to 4294967295 o ≡ Some n → (o ≡ Some n) × (n < 2 ^ 32)
within o n e = (grind (arith, nat_tests), grind (arith, nat_tests))

ten_written : (f : List ℕ) (n : ℕ) → length f ≡ 10 → Field f n → f ≡ field_text n
unfolding field_text
ten_written f n l r = sym r.same ∙ ap (λ k. columns k n) l

reads : (f : List ℕ) → Reads f (number_of f)
unfolding number_of field_text
reads f n = (read (eqb (length f) 10) refl, written)
  where
    read : (t : Bool) → eqb (length f) 10 ≡ t → cond t (up_to 4294967295 (numeral (behind_blanks f))) None ≡ Some n → (f ≡ field_text n) × (n < 2 ^ 32)
    read true p h = let w = within (numeral (behind_blanks f)) n h in (ten_written f n (eqb-true (length f) 10 p) (columns_written f n w.0), w.1)
    read false p h = absurd cc

    written : f ≡ field_text n → n < 2 ^ 32 → number_of f ≡ Some n
    written e l =
        ap number_of e ∙ ap (up_to 4294967295) (read_columns 9 n (div-eq_of_lt (omega arith)))
        ∙ cond-true _ _ _ (le-leb n 4294967295 (omega arith))

pub reads_as : (f : List ℕ) (r : Option ℕ) → r ≡ number_of f → Reads f r
reads_as f r e = subst (λ (o : Option ℕ). Reads f o) (sym e) (reads f)
