-- What is known of a check says what the checks from it on give.
use Rattle.std.proofs.Common.{◌≡◌, ℕ, List, Ok, Err, Result, refl, ap, ◌∙◌}
use Rattle.std.specs.Result.{result_map_both}
use Rattle.texts.specs.Steps.{◌>>=◌}

pub on : {A B E : Type 0} (f : A → Result B E) {r s : Result A E} → r ≡ s → (r >>= f) ≡ (s >>= f)
on f e = ap (λ r. r >>= f) e

-- checks that all pass: the first gave a value with which the others pass
pub passed : {A B E : Type 0} (r : Result A E) (f : A → Result B E) {y : B} → (r >>= f) ≡ Ok y → (x : A) × (r ≡ Ok x) × (f x ≡ Ok y)
passed (Ok x) f e = (x, refl, e)
passed (Err d) f {y} e = absurd cc

-- a check of the layer below that passes
pub lifted : {A E D : Type 0} (g : E → D) (r : Result A E) {x : A} → result_map_both (λ y. y) g r ≡ Ok x → Ok x ≡ r
lifted g (Ok y) {x} e = cc
lifted g (Err d) {x} e = absurd cc

-- a check of line n of a text, at an equal number and text
pub moved : {A : Type 0} (F : ℕ → List ℕ → A) {r : A} {n m : ℕ} {t u : List ℕ} → r ≡ F n t → n ≡ m → t ≡ u → r ≡ F m u
moved F {r} {n} {m} {t} {u} h e f = h ∙ ap (λ k. F k t) e ∙ ap (λ v. F m v) f
