-- Words as they are compared, and the ways of the check of a line against its word.
use Rattle.std.proofs.Common.{◌≡◌, ℕ, ◌+◌, ◌*◌, ◌≤◌, Bool, true, false, eqb, List, length, take, Ok, Err, sym, refl, arith}
use Rattle.std.specs.Cmp.Lexicographic.{pointwise}
use Rattle.std.specs.Str.{bytes_eq}
use Rattle.std.proofs.lemmas.Slice.Eq.{slice_eq-Decides, bytes_eq-Decides}
use Rattle.std.proofs.lemmas.Bool.{le-ltb}
use Rattle.std.proofs.lemmas.Bool.Decides.{nat_tests, same_from_decides, Decides-like, Decides-eqb}
use Rattle.texts.specs.declared.fault.TextFault.TheVariants.{Word}
use Rattle.texts.specs.Lines.{TextLine, in_line}
use Rattle.texts.specs.Words.{length_check, word_check}

-- a test of two texts byte by byte says whether they are equal
compared : (xs ys : List ℕ) (r : Bool) → r ≡ pointwise eqb xs ys → bytes_eq ys xs ≡ r
compared xs ys r m = sym (same_from_decides r (bytes_eq ys xs) (Decides-like r sym sym (slice_eq-Decides Decides-eqb xs ys r m)) (bytes_eq-Decides ys xs))

-- a line of enough characters is refused for another word, and with the word its length decides
module _ (l : TextLine) (word : List ℕ) (fields : ℕ) where
  pub other_word : length word ≤ length l.bytes → false ≡ pointwise eqb word (take (length word) l.bytes) → Err (Word (in_line l 1)) ≡ word_check l word fields
  unfolding word_check
  other_word h m = rw (le-ltb (length l.bytes) (length word) h, compared word (take (length word) l.bytes) false m) refl

  pub same_word : length word ≤ length l.bytes → true ≡ pointwise eqb word (take (length word) l.bytes) → length_check l (length word + 10 * fields) ≡ word_check l word fields
  unfolding word_check
  same_word h m = rw (le-ltb (length l.bytes) (length word) h, compared word (take (length word) l.bytes) true m) refl

-- a line that has its right length has its end
pub right_length : (l : TextLine) (right : ℕ) → Ok (tt {0}) ≡ length_check l right → (length l.bytes ≡ right) × (l.ended ≡ true)
right_length l right h = (grind (arith, nat_tests), grind (arith, nat_tests))
