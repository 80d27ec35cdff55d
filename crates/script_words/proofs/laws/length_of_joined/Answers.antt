use Rattle.script_words.proofs.WordLaws.{length-joined}
use Rattle.script_words.proofs.laws.length_of_joined.Goals as goal

pub returns : goal.returns
returns c = length-joined
