use Rattle.script_words.proofs.WordLaws.{words_of-joined}
use Rattle.script_words.proofs.laws.words_read_again.Goals as goal

pub returns : goal.returns
returns c = words_of-joined
