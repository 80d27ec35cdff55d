use Rattle.script_words.proofs.NumberLaws.{integer_in-signed_decimal}
use Rattle.script_words.proofs.laws.integer_read_again.Goals as goal

pub returns : goal.returns
returns c = integer_in-signed_decimal
