use Rattle.level_tables.proofs.SwitchingAll.{made-beside, tiles_in-beside}
use Rattle.level_tables.proofs.laws.other_new_tiles_are_unchanged.Goals as goal

pub returns-clause-tiles : goal.returns-clause-tiles
returns-clause-tiles c = λ entries old new before after respects owns. tiles_in-beside old new before after respects entries owns

pub returns-clause-over : goal.returns-clause-over
returns-clause-over c = λ format entries old new before after respects owns made. made-beside old new before after respects entries owns format made
