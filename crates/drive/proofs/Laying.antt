-- A board that is laid out record by record.
use Rattle.std.proofs.Common.{ℕ, ◌+◌, ◌<◌, List, length, set, ◌∙◌, arith, drop-set-lt}
use Rattle.std.proofs.lemmas.Grind.{common_steps, drop_more_same}
use Rattle.std.proofs.lemmas.Option.{gets}
use Rattle.model.specs.Lattice.{Lattice, Guide}
use Rattle.board.specs.declared.square.Square.{Square}
use Rattle.drive.specs.Beginning.{fresh_square, Laid}

-- one more record is laid out
pub laid_more : {M : Type 0} {l : Lattice} {g : Guide} {start n : ℕ} {xs ys : List (Square M)} → n < length ys → Laid l g start n xs ys →
    Laid l g start (n + 1) xs (set ys n (fresh_square l g start n))
laid_more {n} {xs} {ys} room laid = record {
  fresh = λ a h. grind (arith, common_steps, gets, laid.fresh a);
  beyond = drop-set-lt (n + 1) ys n _ (omega arith) ∙ drop_more_same ys xs n laid.beyond;
}
