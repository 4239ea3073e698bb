-- How long a queue is after a push and a pop.
use Rattle.std.proofs.Common.{◌≡◌, ℕ, suc, ◌-◌, min, List, ◌∷◌, length, take, sym, ap, ◌∙◌, arith, length-drop, length-take}
use Rattle.std.proofs.lemmas.List.Sorted.{length_permutation}
use Rattle.model.specs.Scale.{Scale}
use Rattle.measure.specs.declared.queue.Entry.{Entry}
use Rattle.measure.specs.Queue.{Added, Removed}

module _ {M : Type 0} (s : Scale) (value : M → s.Value) (xs ys : List (Entry M)) (count : ℕ) (e : Entry M) (n : ℕ) where
  pub removed_length : Removed s value xs count ys e n → length ys ≡ length xs
  removed_length r =
      let rest : length ys - n ≡ suc (length xs - count) = sym (length-drop n ys) ∙ ap length r.beyond ∙ ap suc (length-drop count xs) in
      omega (arith, r.room, r.counted)

  pub added_length : Added s value xs count e ys n → length ys ≡ length xs
  added_length a =
      let front : min n (length ys) ≡ suc (min count (length xs)) = sym (length-take n ys) ∙ length_permutation (e ∷ take count xs) (take n ys) a.holds ∙ ap suc (length-take count xs) in
      let rest : length ys - n ≡ length xs - n = sym (length-drop n ys) ∙ ap length a.beyond ∙ length-drop n xs in
      omega (arith, a.room, a.counted)
