use Rattle.script_words.proofs.WordLaws.{is_text-joined}
use Rattle.script_words.proofs.laws.joined_words_are_text.Goals as goal

pub returns : goal.returns
returns c = is_text-joined
