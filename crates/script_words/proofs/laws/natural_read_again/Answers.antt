use Rattle.script_words.proofs.NumberLaws.{natural_in-decimal}
use Rattle.script_words.proofs.laws.natural_read_again.Goals as goal

pub returns : goal.returns
returns c = natural_in-decimal
