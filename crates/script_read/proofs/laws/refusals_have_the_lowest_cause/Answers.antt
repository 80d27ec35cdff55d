use Rattle.std.proofs.Common.{subst}
use Rattle.script_words.specs.Lines.{lines_of}
use Rattle.script_read.proofs.TextOutcomes.{Told, text-told}
use Rattle.script_read.proofs.laws.refusals_have_the_lowest_cause.Goals as goal

pub returns-clause-refused : goal.returns-clause-refused
returns-clause-refused c text line cause is = subst (Told 1 _ (lines_of text)) is (text-told text)

pub returns-clause-read : goal.returns-clause-read
returns-clause-read c text lines is = subst (Told 1 _ (lines_of text)) is (text-told text)
