use Rattle.level_tables.proofs.Frames.{image-beside, over-beside}
use Rattle.level_tables.proofs.SwitchingAll.{image_with-beside}
use Rattle.level_tables.proofs.laws.other_tables_are_unchanged.Goals as goal

pub returns-clause-image : goal.returns-clause-image
returns-clause-image c = λ tiles old new before after respects owns. image-beside old new before after respects tiles owns

pub returns-clause-image_with : goal.returns-clause-image_with
returns-clause-image_with c = λ tiles entries old new before after respects owns. image_with-beside old new before after respects tiles entries owns

pub returns-clause-over : goal.returns-clause-over
returns-clause-over c = λ tiles old new before after respects owns over. over-beside old new before after respects tiles owns over
