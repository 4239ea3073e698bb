use Rattle.std.proofs.Common.{arith}
use Rattle.std.proofs.lemmas.Grind.{common_steps}
use Rattle.texts.specs.Numerals.{number_of}
use Rattle.texts.proofs.Written.{reads_as}
use Rattle.texts.proofs.field.read.Goals as goal

pub returns-then-columns-ne-COLUMNS-clause-law : goal.returns-then-columns-ne-COLUMNS-clause-law
unfolding number_of
returns-then-columns-ne-COLUMNS-clause-law c = reads_as c.args.columns.now _ (grind (arith, common_steps))

pub returns-in_err-number-clause-law : goal.returns-in_err-number-clause-law
unfolding number_of
returns-in_err-number-clause-law c = reads_as c.args.columns.now _ (grind (arith, common_steps))

pub returns-clause-law : goal.returns-clause-law
unfolding number_of
returns-clause-law c = reads_as c.args.columns.now _ (grind (arith, common_steps))
