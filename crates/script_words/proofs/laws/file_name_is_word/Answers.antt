use Rattle.script_words.proofs.WordLaws.{is_word-file_name}
use Rattle.script_words.proofs.laws.file_name_is_word.Goals as goal

pub returns-clause-word : goal.returns-clause-word
returns-clause-word c = is_word-file_name
