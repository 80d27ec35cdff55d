use Rattle.root_tiles.proofs.Making.{root-beside}
use Rattle.root_tiles.proofs.Written.{image-beside}
use Rattle.root_tiles.proofs.laws.other_roots_are_unchanged.Goals as goal

pub returns-clause-image : goal.returns-clause-image
returns-clause-image c = λ root old new before after respects owns. image-beside root old new before after respects owns

pub returns-clause-over : goal.returns-clause-over
returns-clause-over c = λ root old new before after respects owns over. root-beside root old new before after respects owns over
