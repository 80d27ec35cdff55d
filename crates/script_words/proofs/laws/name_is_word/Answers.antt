use Rattle.script_words.proofs.WordLaws.{is_word-name}
use Rattle.script_words.proofs.laws.name_is_word.Goals as goal

pub returns-clause-word : goal.returns-clause-word
returns-clause-word c = is_word-name
