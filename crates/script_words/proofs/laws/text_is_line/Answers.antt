use Rattle.script_words.proofs.LineLaws.{is_line-text}
use Rattle.script_words.proofs.laws.text_is_line.Goals as goal

pub returns : goal.returns
returns c = is_line-text
