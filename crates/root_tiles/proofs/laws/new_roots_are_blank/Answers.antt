use Rattle.root_tiles.proofs.Written.{blank-image, blank-over}
use Rattle.root_tiles.proofs.laws.new_roots_are_blank.Goals as goal

pub returns-clause-over : goal.returns-clause-over
returns-clause-over c = λ box format held is limits. blank-over box format held (c.new_tables_ask_nothing.ensures format held) is limits

pub returns-clause-image : goal.returns-clause-image
returns-clause-image c = λ box format held. blank-image box format held
