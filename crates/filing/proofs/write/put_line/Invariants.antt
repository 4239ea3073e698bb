use Rattle.std.proofs.Common.{◌≡◌, ◌+◌, ◌*◌, take}
use Rattle.texts.specs.Fields.{fields_text}
use Rattle.filing.specs.Written.{overwritten}
use Rattle.filing.proofs.write.put_line.Given as goal

-- as many fields are written as were gone over
abbrev pub invariant-loop-n : goal.invariant-loop-n
invariant-loop-n l =
    (l.end ≡ l.initial.end + 10 * l.n-index)
    × (l.buffer ≡ overwritten l.initial.buffer l.initial.end (fields_text (take l.n-index l.fields)))
