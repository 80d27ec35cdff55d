use Rattle.script_words.proofs.NumberLaws.{is_word-signed_decimal, length-signed_decimal}
use Rattle.script_words.proofs.laws.integer_is_word.Goals as goal

pub returns-clause-word : goal.returns-clause-word
returns-clause-word c = is_word-signed_decimal

pub returns-clause-short : goal.returns-clause-short
returns-clause-short c = length-signed_decimal
