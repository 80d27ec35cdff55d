use Rattle.script_words.proofs.LineLaws.{lines_of-append, lines_of-text_of}
use Rattle.script_words.proofs.laws.lines_read_again.Goals as goal

pub returns-clause-first : goal.returns-clause-first
returns-clause-first c = lines_of-append

pub returns-clause-all : goal.returns-clause-all
returns-clause-all c = lines_of-text_of
