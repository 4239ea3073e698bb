-- The numbers on a first line.
use Rattle.std.specs.Prelude.{ℕ, List, Ok, Result}
use Rattle.texts.specs.declared.fault.TextFault.{TextFault}
use Rattle.texts.specs.declared.heading.Heading.{Heading}
use Rattle.texts.specs.Lines.{TextLine}
use Rattle.texts.specs.Numerals.{field_number}
use Rattle.texts.specs.Steps.{◌>>=◌}
use Rattle.texts.specs.Words.{word_check}

-- behind its word of four letters, six fields from left to right
unfoldable pub heading_of : TextLine → List ℕ → Result Heading TextFault
heading_of l word =
    word_check l word 6 >>= λ _.
    field_number l 5 >>= λ width.
    field_number l 15 >>= λ height.
    field_number l 25 >>= λ start.
    field_number l 35 >>= λ goal.
    field_number l 45 >>= λ neighbours.
    field_number l 55 >>= λ measure.
    Ok (record { width = width; height = height; start = start; goal = goal; neighbours = neighbours; measure = measure })
