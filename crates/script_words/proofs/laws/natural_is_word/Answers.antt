use Rattle.script_words.proofs.NumberLaws.{is_word-decimal, length-decimal}
use Rattle.script_words.proofs.laws.natural_is_word.Goals as goal

pub returns-clause-word : goal.returns-clause-word
returns-clause-word c = is_word-decimal

pub returns-clause-short : goal.returns-clause-short
returns-clause-short c = length-decimal
