-- What a first line that passes its check keeps to.
use Rattle.std.proofs.Common.{◌≡◌, ◌^◌, ◌<◌, ◌≤◌, Ok, arith}
use Rattle.std.proofs.lemmas.Bool.Decides.{nat_tests}
use Rattle.texts.specs.declared.heading.Heading.{Heading}
use Rattle.texts.specs.Fields.{Fit}
use Rattle.texts.specs.Headings.{heading_numbers, heading_check}

-- the sides of a floor, and small numbers for the others
pub record Sides (h : Heading) : Type 0 where
  pub some_width : 1 ≤ h.width
  pub width : h.width ≤ 64
  pub some_height : 1 ≤ h.height
  pub height : h.height ≤ 64
  pub neighbours : h.neighbours ≤ 8
  pub measure : h.measure ≤ 2

pub sides : (h : Heading) → heading_check h ≡ Ok (tt {0}) → Sides h
sides h e =
    record {
      some_width = grind (arith, nat_tests);
      width = grind (arith, nat_tests);
      some_height = grind (arith, nat_tests);
      height = grind (arith, nat_tests);
      neighbours = grind (arith, nat_tests);
      measure = grind (arith, nat_tests);
    }

-- its numbers fit their fields, if start and goal do
pub known_small : (h : Heading) → heading_check h ≡ Ok (tt {0}) → h.start < 2 ^ 32 → h.goal < 2 ^ 32 → Fit (heading_numbers h)
known_small h e start goal =
    let s = sides h e in
    (omega (arith, s.width), (omega (arith, s.height), (start, (goal, (omega (arith, s.neighbours), (omega (arith, s.measure), tt))))))
