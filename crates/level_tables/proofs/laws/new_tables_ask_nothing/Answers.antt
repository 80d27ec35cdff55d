use Rattle.level_tables.proofs.Empty.{over-none}
use Rattle.level_tables.proofs.laws.new_tables_ask_nothing.Goals as goal

pub returns : goal.returns
returns c = over-none
