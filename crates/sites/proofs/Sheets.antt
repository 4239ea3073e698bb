-- The cells of a sheet: row by row, and where their bytes stand.
use Rattle.std.proofs.Common.{◌≡◌, ℕ, zero, suc, ◌+◌, ◌*◌, ◌/◌, ◌%◌, ◌<◌, ◌≤◌, min, ◌⊎◌, List, [], ◌++◌, length, get_or, take, drop, sym, refl, ap, ◌∙◌, subst, inl, inr, add-one, append-nil, length-append, mod-lt, suc-mul, mul_comm, div-lt_iff_lt-mul, div-add-mod', zero-add, zero-mul, arith}
use Rattle.std.proofs.lemmas.List.{nil_from_length, take-append-le, drop_at, take_all, drop_all, length-take-le, length-drop, get_or_append_left, get_or-append_right, get_or-take, get_or-drop}
use Rattle.std.proofs.lemmas.Bool.{cases_lt}
use Rattle.texts.specs.declared.heading.Heading.{Heading}
use Rattle.sites.specs.Site.{cells_of}

-- a row and its end off the front of a sheet
pub row_first : (w j k : ℕ) (s row rest : List ℕ) → k + 1 ≡ j → s ≡ row ++ rest → length row ≡ min (w + 1) (length s) → cells_of w j s ≡ take w row ++ cells_of w k rest
row_first w j k s row rest n e l = ap (λ i. cells_of w i s) (sym n ∙ add-one k) ∙ by (cases_lt (length s) (w + 1))
  where
    parts : length s ≡ length row + length rest
    parts = ap length e ∙ length-append row rest

    joined : take w s ≡ take w row → drop (w + 1) s ≡ rest → cells_of w (suc k) s ≡ take w row ++ cells_of w k rest
    joined f b = ap (λ (x : List ℕ). x ++ cells_of w k (drop (w + 1) s)) f ∙ ap (λ (x : List ℕ). take w row ++ cells_of w k x) b

    by : (length s < w + 1) ⊎ (w + 1 ≤ length s) → cells_of w (suc k) s ≡ take w row ++ cells_of w k rest
    by (inl h) =
        let none : rest ≡ [] = nil_from_length rest (omega (arith, parts)) in
        joined (ap (take w) (e ∙ rw none (append-nil row))) (drop_all (w + 1) s (omega arith) ∙ sym none)
    by (inr h) = joined (ap (take w) e ∙ take-append-le w row rest (omega (arith, parts))) (ap (drop (w + 1)) e ∙ drop_at row rest (w + 1) (omega arith))

-- no cells of no rows, or of a sheet with no bytes
pub no_cells : (w k : ℕ) (s : List ℕ) → (0 < k → length s ≡ 0) → cells_of w k s ≡ []
no_cells w zero s h = refl
no_cells w (suc k) s h =
    let none : s ≡ [] = nil_from_length s (h (omega arith)) in
    ap (cells_of w (suc k)) none
    ∙ ap (λ (x : List ℕ). x ++ cells_of w k (drop (w + 1) [])) (take_all w [] (omega arith))
    ∙ ap (cells_of w k) (drop_all (w + 1) [] (omega arith))
    ∙ no_cells w k [] (λ _. refl)

-- the byte in column j of row r
byte_in_row : (w rows : ℕ) (s : List ℕ) (r j : ℕ) → r < rows → j < w → length s ≡ rows * (w + 1) → get_or (cells_of w rows s) (r * w + j) 0 ≡ get_or s (r * (w + 1) + j) 0
byte_in_row w zero s r j l m e = absurd (omega arith)
byte_in_row w (suc k) s zero j l m e =
    let long = e ∙ suc-mul k (w + 1) in
    let front : length (take w s) ≡ w = length-take-le w s (omega arith) in
    let here : zero * w + j ≡ j = ap (λ n. n + j) (zero-mul w) ∙ zero-add j in
    let there : zero * (w + 1) + j ≡ j = ap (λ n. n + j) (zero-mul (w + 1)) ∙ zero-add j in
    ap (λ n. get_or (take w s ++ cells_of w k (drop (w + 1) s)) n 0) here
    ∙ get_or_append_left (take w s) (cells_of w k (drop (w + 1) s)) 0 j (omega arith)
    ∙ get_or-take w s j 0 m
    ∙ ap (λ n. get_or s n 0) (sym there)
byte_in_row w (suc k) s (suc r) j l m e =
    let long = e ∙ suc-mul k (w + 1) in
    let front : length (take w s) ≡ w = length-take-le w s (omega arith) in
    let one = suc-mul r w in
    let other = suc-mul r (w + 1) in
    let rest : length (drop (w + 1) s) ≡ k * (w + 1) = length-drop (w + 1) s ∙ omega arith in
    get_or-append_right (take w s) (cells_of w k (drop (w + 1) s)) w (suc r * w + j) 0 front (omega arith)
    ∙ ap (λ n. get_or (cells_of w k (drop (w + 1) s)) n 0) (omega arith)
    ∙ byte_in_row w k (drop (w + 1) s) r j (omega arith) m rest
    ∙ get_or-drop (w + 1) s (r * (w + 1) + j) 0
    ∙ ap (λ n. get_or s n 0) (omega arith)

-- a cell's row and column
module _ (w rows c : ℕ) (l : c < w * rows) where
  some_width : 0 < w
  some_width = by w l
    where
      by : (v : ℕ) → c < v * rows → 0 < v
      by zero h = absurd (omega (arith, zero-mul rows))
      by (suc v) h = omega arith

  in_column : c % w < w
  in_column = mod-lt c some_width

  in_row : c / w < rows
  in_row = (div-lt_iff_lt-mul some_width).1 (subst (λ n. c < n) (mul_comm w rows) l)

-- the byte of the start
pub start_byte : (h : Heading) (sheet : List ℕ) → h.start < h.width * h.height → length sheet ≡ h.height * (h.width + 1) → get_or (cells_of h.width h.height sheet) h.start 0 ≡ get_or sheet (h.start / h.width * (h.width + 1) + h.start % h.width) 0
start_byte h sheet l e =
    ap (λ n. get_or (cells_of h.width h.height sheet) n 0) (sym (div-add-mod' h.start h.width))
    ∙ byte_in_row h.width h.height sheet (h.start / h.width) (h.start % h.width) (in_row h.width h.height h.start l) (in_column h.width h.height h.start l) e
