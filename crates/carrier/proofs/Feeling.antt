-- A byte that is built bit by bit.
use Rattle.std.proofs.Common.{◌≡◌, ℕ, ◌+◌, ◌*◌, ◌%◌, ◌^◌, ◌<◌, Bool, true, false, cond, sym, ap, ◌∙◌, mod-eq_of_lt, add-one, arith, pow-add}
use lib.Bits.{bit_or, or_shifted_r}
use lib.Pow.{pow-lt}
use Rattle.model.specs.Lattice.{bits}

-- the bits of the directions up to n + 1, by the one of direction n + 1
one_more : (p : ℕ → Bool) (n : ℕ) (t : Bool) → p (n + 1) ≡ t → bits (n + 1) p ≡ cond t (bits n p + 2 ^ n) (bits n p)
one_more p n t e = rw (add-one n) (ap (λ b. cond b (bits n p + 2 ^ n) (bits n p)) (rw (add-one n) at e))

-- twice as far with one bit more
doubled : (n : ℕ) → 2 ^ (n + 1) ≡ 2 ^ n + 2 ^ n
doubled n = pow-add 2 n 1 ∙ (let k : 2 ^ n * 2 ≡ 2 ^ n + 2 ^ n = omega arith in k)

-- the bit of direction n + 1 is set by a mask that is shifted by n
pub set_bit : (p : ℕ → Bool) (n felt : ℕ) → n < 8 → felt ≡ bits n p → felt < 2 ^ n → true ≡ p (n + 1) →
    (bit_or felt ((1 * 2 ^ n) % 256) ≡ bits (n + 1) p) × (bit_or felt ((1 * 2 ^ n) % 256) < 2 ^ (n + 1))
set_bit p n felt small e below t =
    let mask : (1 * 2 ^ n) % 256 ≡ 1 * 2 ^ n = mod-eq_of_lt (let a : 2 ^ n < 2 ^ 8 = pow-lt small in omega arith) in
    let joined : bit_or felt ((1 * 2 ^ n) % 256) ≡ felt + 2 ^ n = ap (bit_or felt) mask ∙ or_shifted_r 1 n felt below ∙ (let k : 1 * 2 ^ n + felt ≡ felt + 2 ^ n = omega arith in k) in
    let more = one_more p n true (sym t) in
    (joined ∙ ap (λ x. x + 2 ^ n) e ∙ sym more, omega (arith, joined, doubled n))

pub leave_bit : (p : ℕ → Bool) (n felt : ℕ) → felt ≡ bits n p → felt < 2 ^ n → false ≡ p (n + 1) → (felt ≡ bits (n + 1) p) × (felt < 2 ^ (n + 1))
leave_bit p n felt e below t = (e ∙ sym (one_more p n false (sym t)), omega (arith, doubled n))
