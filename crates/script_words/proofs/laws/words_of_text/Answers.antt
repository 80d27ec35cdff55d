use Rattle.script_words.proofs.WordLaws.{are_words-text}
use Rattle.script_words.proofs.laws.words_of_text.Goals as goal

pub returns : goal.returns
returns c = are_words-text
