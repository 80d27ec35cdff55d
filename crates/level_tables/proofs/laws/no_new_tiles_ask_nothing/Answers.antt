use Rattle.level_tables.proofs.SwitchingAll.{made-none}
use Rattle.level_tables.proofs.laws.no_new_tiles_ask_nothing.Goals as goal

pub returns : goal.returns
returns c = made-none
