-- Where the first line of a text ends, and lines put together again.
use Rattle.std.proofs.Common.{◌≡◌, ℕ, zero, suc, ◌+◌, ◌<◌, ◌≤◌, Bool, true, false, cond, ◌||◌, eqb, ltb, List, [], ◌∷◌, ◌++◌, length, take, drop, Some, Ok, sym, refl, ap, ◌∙◌, add-one, arith, ◌⊎◌, inl, inr, None, Option}
use denote.Ref.{Bor}
use Rattle.std.specs.Option.{MatchOption, ok_or, unwrap_or}
use Rattle.std.specs.List.{slice_range}
use Rattle.std.proofs.lemmas.List.{nil_from_length, drop-drop, take_rest, drop_all, length-drop}
use Rattle.std.proofs.lemmas.Bool.{true≢false, false≢true, eqb-true, or_right}
use Rattle.std.proofs.lemmas.Bool.Decides.{nat_tests}
use Rattle.texts.specs.declared.fault.TextFault.TheVariants.{Extent}
use Rattle.texts.specs.Lines.{TextLine, line_of, line_ended, after_line, next_number, first_line, due_line, end_check, lines_up_to, lines_of}

-- the first line is the front of the text, and what is left is behind it and its end
pub line_is_front : (t : List ℕ) → line_of t ≡ take (length (line_of t)) t
line_is_front [] = refl
line_is_front (b ∷ bs) = by (eqb b 10) (line_is_front bs)
  where
    by : (e : Bool) → line_of bs ≡ take (length (line_of bs)) bs → cond e [] (b ∷ line_of bs) ≡ take (length (cond e [] (b ∷ line_of bs))) (b ∷ bs)
    by true h = refl
    by false h = ap (λ xs. b ∷ xs) h

pub line_within : (t : List ℕ) → length (line_of t) ≤ length t
line_within [] = omega arith
line_within (b ∷ bs) = by (eqb b 10) (line_within bs)
  where
    by : (e : Bool) → length (line_of bs) ≤ length bs → length (cond e [] (b ∷ line_of bs)) ≤ length (b ∷ bs)
    by true h = omega arith
    by false h = omega arith

pub after_is_back : (t : List ℕ) → after_line t ≡ drop (length (line_of t) + 1) t
after_is_back t = rw add-one (by_length t)
  where
    by_byte : (b : ℕ) (bs : List ℕ) (e : Bool) → after_line bs ≡ drop (suc (length (line_of bs))) bs → cond e bs (after_line bs) ≡ drop (suc (length (cond e [] (b ∷ line_of bs)))) (b ∷ bs)
    by_byte b bs true h = refl
    by_byte b bs false h = h

    by_length : (t : List ℕ) → after_line t ≡ drop (suc (length (line_of t))) t
    by_length [] = refl
    by_length (b ∷ bs) = by_byte b bs (eqb b 10) (by_length bs)

pub ended_is_short : (t : List ℕ) → line_ended t ≡ ltb (length (line_of t)) (length t)
ended_is_short [] = refl
ended_is_short (b ∷ bs) = by (eqb b 10) (ended_is_short bs)
  where
    by : (e : Bool) → line_ended bs ≡ ltb (length (line_of bs)) (length bs) → (e || line_ended bs) ≡ ltb (length (cond e [] (b ∷ line_of bs))) (length (b ∷ bs))
    by true h = grind (arith, nat_tests)
    by false h = h ∙ grind (arith, nat_tests)

-- a line that is cut off, and what is left, if k bytes are before its end
pub cut_line : (n k : ℕ) (t bytes : List ℕ) (ended : Bool) → eqb (length t) 0 ≡ false → k ≡ length (line_of t) → bytes ≡ take k t → ended ≡ ltb k (length t) → Some (record { number = n; bytes = bytes; ended = ended }) ≡ first_line n t
cut_line n k [] bytes ended h e f g = absurd (true≢false h)
cut_line n k (b ∷ bs) bytes ended h e f g =
    let t : List ℕ = b ∷ bs in
    let same : bytes ≡ line_of t = f ∙ ap (λ j. take j t) e ∙ sym (line_is_front t) in
    let told : ended ≡ line_ended t = g ∙ ap (λ j. ltb j (length t)) e ∙ sym (ended_is_short t) in
    λ i. Some (record { number = n; bytes = same i; ended = told i })

pub cut_rest : (k : ℕ) (t behind : List ℕ) → k ≡ length (line_of t) → behind ≡ drop k t → drop 1 behind ≡ after_line t
cut_rest k t behind e f = ap (λ (x : List ℕ). drop 1 x) f ∙ drop-drop 1 k t ∙ ap (λ j. drop (j + 1) t) e ∙ sym (after_is_back t)

-- what `get(1..)` gives of bytes, and else the bytes themselves, of which there are none then
pub past_first : (o : Option (Bor (List ℕ))) (b : Bor (List ℕ)) → MatchOption o ((length b.now < 1) ⊎ (length b.now < length b.now)) (λ x. (1 ≤ length b.now) × (length b.now ≤ length b.now) × (x.now ≡ slice_range b.now 1 (length b.now)) × (length x.now + 1 ≡ length b.now)) → (unwrap_or o b).now ≡ drop 1 b.now
past_first (Some x) b h = h.2 ∙ take_rest b.now 1
past_first None b h = nil_from_length b.now (few h) ∙ sym (drop_all 1 b.now (omega (arith, few h)))
  where
    few : (length b.now < 1) ⊎ (length b.now < length b.now) → length b.now ≡ 0
    few (inl l) = omega arith
    few (inr l) = absurd (omega arith)

-- ---- bytes without a byte 10, and the byte 10 behind them

-- no byte of these is 10
abbrev pub Unbroken : List ℕ → Type 0
Unbroken [] = Unit {0}
Unbroken (b ∷ bs) = (eqb b 10 ≡ false) × Unbroken bs

pub unbroken_append : (front back : List ℕ) → Unbroken front → Unbroken back → Unbroken (front ++ back)
unbroken_append [] back f b = b
unbroken_append (x ∷ front) back f b = (f.0, unbroken_append front back f.1 b)

line_before : (bs rest : List ℕ) → Unbroken bs → line_of (bs ++ 10 ∷ rest) ≡ bs
line_before [] rest u = refl
line_before (b ∷ bs) rest u = rw u.0 (ap (λ xs. b ∷ xs) (line_before bs rest u.1))

ended_before : (bs rest : List ℕ) → line_ended (bs ++ 10 ∷ rest) ≡ true
ended_before [] rest = refl
ended_before (b ∷ bs) rest = or_right (eqb b 10) (line_ended (bs ++ 10 ∷ rest)) (ended_before bs rest)

pub after_before : (bs rest : List ℕ) → Unbroken bs → after_line (bs ++ 10 ∷ rest) ≡ rest
after_before [] rest u = refl
after_before (b ∷ bs) rest u = rw u.0 (after_before bs rest u.1)

-- a line with its end
abbrev pub full_line : ℕ → List ℕ → TextLine
full_line n bytes = record { number = n; bytes = bytes; ended = true }

first_before : (n : ℕ) (bs rest : List ℕ) → Unbroken bs → first_line n (bs ++ 10 ∷ rest) ≡ Some (full_line n bs)
first_before n [] rest u = refl
first_before n (b ∷ bs) rest u =
    let line = line_before (b ∷ bs) rest u in
    let ended = ended_before (b ∷ bs) rest in
    λ i. Some (record { number = n; bytes = line i; ended = ended i })

pub due_before : (n : ℕ) (bs rest : List ℕ) → Unbroken bs → due_line n (bs ++ 10 ∷ rest) ≡ Ok (full_line n bs)
due_before n bs rest u = ap (λ o. ok_or o (Extent (record { line = n; column = 1 }))) (first_before n bs rest u)

-- a text is its first line, byte 10 and what comes after, if the line is ended
whole_line : (t : List ℕ) → line_ended t ≡ true → t ≡ line_of t ++ 10 ∷ after_line t
whole_line [] e = absurd (false≢true e)
whole_line (b ∷ bs) e = by (eqb b 10) refl e (whole_line bs)
  where
    by : (t : Bool) → eqb b 10 ≡ t → (t || line_ended bs) ≡ true → (line_ended bs ≡ true → bs ≡ line_of bs ++ 10 ∷ after_line bs) → b ∷ bs ≡ cond t [] (b ∷ line_of bs) ++ 10 ∷ cond t bs (after_line bs)
    by true p h rest = ap (λ x. x ∷ bs) (eqb-true b 10 p)
    by false p h rest = ap (λ xs. b ∷ xs) (rest h)

-- the first line, where one is due
pub due_is : (n : ℕ) (b : ℕ) (bs : List ℕ) (l : TextLine) → due_line n (b ∷ bs) ≡ Ok l → record { number = n; bytes = line_of (b ∷ bs); ended = line_ended (b ∷ bs) } ≡ l
due_is n b bs l e = cc e

pub due_whole : (n : ℕ) (t : List ℕ) (l : TextLine) → due_line n t ≡ Ok l → l.ended ≡ true → t ≡ l.bytes ++ 10 ∷ after_line t
due_whole n [] l d e = absurd cc
due_whole n (b ∷ bs) l d e =
    let same = due_is n b bs l d in
    whole_line (b ∷ bs) (ap (λ (x : TextLine). x.ended) same ∙ e)
    ∙ ap (λ (x : TextLine). x.bytes ++ 10 ∷ after_line (b ∷ bs)) same

pub due_shorter : (n : ℕ) (t : List ℕ) (l : TextLine) → due_line n t ≡ Ok l → length (after_line t) < length t
due_shorter n [] l d = absurd cc
due_shorter n (b ∷ bs) l d = let cut = ap (λ (x : List ℕ). length x) (after_is_back (b ∷ bs)) ∙ length-drop (length (line_of (b ∷ bs)) + 1) (b ∷ bs) in omega arith

pub nothing_behind : (n : ℕ) (t : List ℕ) {u : Unit {0}} → end_check n t ≡ Ok u → t ≡ []
nothing_behind n [] e = refl
nothing_behind n (b ∷ bs) {u} e = absurd cc

-- ---- all lines of a text

lines_enough : (k n : ℕ) (t : List ℕ) → length t ≤ k → lines_up_to k n t ≡ lines_of n t
lines_enough k n t h = by k (length t) n t h (omega arith)
  where
    by : (j k n : ℕ) (t : List ℕ) → length t ≤ j → length t ≤ k → lines_up_to j n t ≡ lines_up_to k n t
    by zero zero n t h g = refl
    by zero (suc k) n [] h g = refl
    by zero (suc k) n (b ∷ bs) h g = absurd (omega arith)
    by (suc j) zero n [] h g = refl
    by (suc j) zero n (b ∷ bs) h g = absurd (omega arith)
    by (suc j) (suc k) n [] h g = refl
    by (suc j) (suc k) n (b ∷ bs) h g =
        let less = due_shorter n (b ∷ bs) _ refl in
        ap (λ (ls : List TextLine). record { number = n; bytes = line_of (b ∷ bs); ended = line_ended (b ∷ bs) } ∷ ls) (by j k (next_number n) (after_line (b ∷ bs)) (omega arith) (omega arith))

pub lines_more : (n : ℕ) (t : List ℕ) (l : TextLine) → due_line n t ≡ Ok l → lines_of n t ≡ l ∷ lines_of (next_number n) (after_line t)
lines_more n [] l d = absurd cc
lines_more n (b ∷ bs) l d =
    let less = due_shorter n (b ∷ bs) l d in
    ap (λ (ls : List TextLine). record { number = n; bytes = line_of (b ∷ bs); ended = line_ended (b ∷ bs) } ∷ ls) (lines_enough (length bs) (next_number n) (after_line (b ∷ bs)) (omega arith))
    ∙ ap (λ (x : TextLine). x ∷ lines_of (next_number n) (after_line (b ∷ bs))) (due_is n b bs l d)
