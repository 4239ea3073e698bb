use Rattle.std.proofs.Common.{length}
use Rattle.records.specs.Records.{standing}
use Rattle.records.proofs.Below.{Reads}
use Rattle.records.proofs.whole.read_record.Given as goal

abbrev pub invariant-loop-closing : goal.invariant-loop-closing
invariant-loop-closing l = Reads l.text (standing l.reader)

abbrev pub decreases-loop-closing : goal.decreases-loop-closing
decreases-loop-closing l = length l.reader.lines.rest.now
