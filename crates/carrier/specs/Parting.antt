-- The first cells of a lattice make a lattice, and all of them make the same one.
use Rattle.std.specs.Prelude.{◌≡◌, ℕ, ◌<◌, ◌≤◌, Some, None, Option, refl}
use Rattle.std.proofs.Common.{◌∙◌, ap, lt-ltb, arith}
use Rattle.std.proofs.lemmas.Bool.Decides.{nat_tests}
use Rattle.std.proofs.Math.Path.{fun_ext}
use Rattle.model.specs.Lattice.{Lattice, Lawful}
use Rattle.carrier.specs.Parts.{below, part_of}

-- what a part leads to, the lattice leads to, and both cells are of the part
below_some : (n : ℕ) (o : Option ℕ) (b : ℕ) → below n o ≡ Some b → (o ≡ Some b) × (b < n)
below_some n None b e = absurd cc
below_some n (Some c) b e = grind (arith, nat_tests)

pub part_some : (l : Lattice) (n a d b : ℕ) → (part_of l n).beside a d ≡ Some b → (l.beside a d ≡ Some b) × (a < n) × (b < n)
part_some l n a d b e = grind (arith, nat_tests, below_some)

-- and the other way round
pub some_part : (l : Lattice) (n a d b : ℕ) → l.beside a d ≡ Some b → a < n → b < n → (part_of l n).beside a d ≡ Some b
some_part l n a d b e p q = rw (lt-ltb a n p, e, lt-ltb b n q)

pub part_lawful : (l : Lattice) (n : ℕ) → Lawful l → n ≤ 4096 → Lawful (part_of l n)
part_lawful l n w small = record {
  small = small;
  within = λ a d b e. let q = part_some l n a d b e in let r = w.within a d b q.0 in (q.1, q.2, r.2, r.3);
  priced = w.priced;
  apart = λ a d b e. w.apart a d b (part_some l n a d b e).0;
  single = λ a d f b e e2. w.single a d f b (part_some l n a d b e).0 (part_some l n a f b e2).0;
  back = λ a d b e.
      let q = part_some l n a d b e in
      some_part l n b (l.opposite d) a (w.back a d b q.0) q.2 q.1;
}

whole_beside : (l : Lattice) (w : Lawful l) (a d : ℕ) → (part_of l l.size).beside a d ≡ l.beside a d
whole_beside l w a d = go (l.beside a d) refl
  where
    go : (o : Option ℕ) → l.beside a d ≡ o → (part_of l l.size).beside a d ≡ o
    go (Some b) e = let r = w.within a d b e in some_part l l.size a d b e r.0 r.1
    go None e = rw e (grind (arith, nat_tests))

-- all the cells of a lattice are the lattice
pub whole : (l : Lattice) → Lawful l → (n : ℕ) → n ≡ l.size → part_of l n ≡ l
whole l w n e = ap (part_of l) e ∙ (λ i. record {
  size = l.size;
  beside = fun_ext (λ a. fun_ext (λ d. whole_beside l w a d)) i;
  cost = l.cost;
  opposite = l.opposite;
})
