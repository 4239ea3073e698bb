-- The eight directions by the ways they go, and what going up or down does to a number.
use Rattle.std.specs.Prelude.{◌≡◌, ℕ, ◌+◌, ◌-◌, ◌<◌, ◌≤◌, Bool, true, false, cond, ◌&&◌, Some, None, ◌==◌, ◌≢◌, nat_le, nat_lt, refl}
use Rattle.std.proofs.Common.{sym, ◌∙◌, ap, subst, arith}
use Rattle.std.proofs.Math.Decide.{ℕ_discrete}
use Rattle.std.proofs.lemmas.Bool.{and_parts}
use borrow.Author.Tests.{ltb-true, leb-true, eqb-false, lt-ltb, ne_eqb, clash}
use Rattle.model.specs.Floors.{Way, up, same, down, column_way, row_way, shifted, used, odd, facing}
use Rattle.model.proofs.Basics.Tests.{same_some, none_some}

pub used_bounds : (d : ℕ) → used d ≡ true → (1 ≤ d) × (d ≤ 8)
used_bounds d e = let t = and_parts (nat_le 1 d) (nat_le d 8) e in (leb-true 1 d t.0, leb-true d 8 t.1)

-- what holds of n holds of d, if it holds of a d that is not n
or_else : (P : ℕ → Type 0) (d n : ℕ) → P n → ((d ≢ n) → P d) → P d
or_else P d n p rest = elim (ℕ_discrete d n) [ yes q ↦ subst P (sym q) p | no off ↦ rest off ]

-- what holds of 1 to 8 holds of every direction
pub each : (P : ℕ → Type 0) → P 1 → P 2 → P 3 → P 4 → P 5 → P 6 → P 7 → P 8 → (d : ℕ) → used d ≡ true → P d
each P p1 p2 p3 p4 p5 p6 p7 p8 d e =
    let l = used_bounds d e in
    or_else P d 1 p1 (λ n1.
    or_else P d 2 p2 (λ n2.
    or_else P d 3 p3 (λ n3.
    or_else P d 4 p4 (λ n4.
    or_else P d 5 p5 (λ n5.
    or_else P d 6 p6 (λ n6.
    or_else P d 7 p7 (λ n7.
    or_else P d 8 p8 (λ n8. absurd (omega arith)))))))))

-- the direction that goes these ways between columns and between rows
abbrev pub direction_of : Way → Way → ℕ
direction_of up same = 1
direction_of up up = 2
direction_of same up = 3
direction_of down up = 4
direction_of down same = 5
direction_of down down = 6
direction_of same down = 7
direction_of up down = 8
direction_of same same = 0

pub known_by_ways : (d : ℕ) → used d ≡ true → direction_of (column_way d) (row_way d) ≡ d
known_by_ways d e = each (λ k. direction_of (column_way k) (row_way k) ≡ k) refl refl refl refl refl refl refl refl d e

pub its_column_way : (v u : Way) → column_way (direction_of v u) ≡ v
its_column_way up up = refl
its_column_way up same = refl
its_column_way up down = refl
its_column_way same up = refl
its_column_way same same = refl
its_column_way same down = refl
its_column_way down up = refl
its_column_way down same = refl
its_column_way down down = refl

pub its_row_way : (v u : Way) → row_way (direction_of v u) ≡ u
its_row_way up up = refl
its_row_way up same = refl
its_row_way up down = refl
its_row_way same up = refl
its_row_way same same = refl
its_row_way same down = refl
its_row_way down up = refl
its_row_way down same = refl
its_row_way down down = refl

-- the way back
abbrev pub turned : Way → Way
turned up = down
turned same = same
turned down = up

pub facing_column : (d : ℕ) → used d ≡ true → column_way (facing d) ≡ turned (column_way d)
facing_column d e = each (λ k. column_way (facing k) ≡ turned (column_way k)) refl refl refl refl refl refl refl refl d e

pub facing_row : (d : ℕ) → used d ≡ true → row_way (facing d) ≡ turned (row_way d)
facing_row d e = each (λ k. row_way (facing k) ≡ turned (row_way k)) refl refl refl refl refl refl refl refl d e

pub facing_used : (d : ℕ) → used d ≡ true → used (facing d) ≡ true
facing_used d e = each (λ k. used (facing k) ≡ true) refl refl refl refl refl refl refl refl d e

pub facing_straight : (d : ℕ) → (used d && odd d) ≡ true → (used (facing d) && odd (facing d)) ≡ true
facing_straight d e =
    let off : (n : ℕ) → false ≡ true → (used n && odd n) ≡ true = λ n z. absurd (clash z) in
    each (λ k. (used k && odd k) ≡ true → (used (facing k) && odd (facing k)) ≡ true) (λ z. refl) (off 6) (λ z. refl) (off 8) (λ z. refl) (off 2) (λ z. refl) (off 4) d (and_parts (used d) (odd d) e).0 e

-- m is one more than k, the same, or one less
abbrev pub Goes : Way → ℕ → ℕ → Type 0
Goes up k m = m ≡ k + 1
Goes same k m = m ≡ k
Goes down k m = k ≡ m + 1

pub goes_back : (v : Way) (k m : ℕ) → Goes v k m → Goes (turned v) m k
goes_back up k m e = e
goes_back same k m e = sym e
goes_back down k m e = e

pub goes_one_way : (v u : Way) (k m : ℕ) → Goes v k m → Goes u k m → v ≡ u
goes_one_way up up k m e f = refl
goes_one_way up same k m e f = absurd (omega arith)
goes_one_way up down k m e f = absurd (omega arith)
goes_one_way same up k m e f = absurd (omega arith)
goes_one_way same same k m e f = refl
goes_one_way same down k m e f = absurd (omega arith)
goes_one_way down up k m e f = absurd (omega arith)
goes_one_way down same k m e f = absurd (omega arith)
goes_one_way down down k m e f = refl

-- a shift goes its way, and stays below n
pub shift_goes : (v : Way) (n k m : ℕ) → k < n → shifted v n k ≡ Some m → Goes v k m × (m < n)
shift_goes up n k m l e = go (nat_lt (k + 1) n) refl e
  where
    go : (t : Bool) → nat_lt (k + 1) n ≡ t → cond t (Some (k + 1)) None ≡ Some m → (m ≡ k + 1) × (m < n)
    go true t e = let here = ltb-true (k + 1) n t in let is = same_some e in (sym is, omega arith)
    go false t e = absurd (none_some e)
shift_goes same n k m l e = let is = same_some e in (sym is, omega arith)
shift_goes down n k m l e = go (k == 0) refl e
  where
    go : (t : Bool) → (k == 0) ≡ t → cond t None (Some (k - 1)) ≡ Some m → (k ≡ m + 1) × (m < n)
    go true t e = absurd (none_some e)
    go false t e = let off : k ≡ 0 → ⊥ = eqb-false k 0 t in let is = same_some e in (omega arith, omega arith)

pub goes_shift : (v : Way) (n k m : ℕ) → m < n → Goes v k m → shifted v n k ≡ Some m
goes_shift up n k m l e =
    ap (λ t. cond t (Some (k + 1)) None) (lt-ltb (k + 1) n (omega arith)) ∙ ap Some (sym e)
goes_shift same n k m l e = ap Some (sym e)
goes_shift down n k m l e =
    let less : k - 1 ≡ m = omega arith in
    ap (λ t. cond t None (Some (k - 1))) (ne_eqb k 0 (λ z. omega arith)) ∙ ap Some less
