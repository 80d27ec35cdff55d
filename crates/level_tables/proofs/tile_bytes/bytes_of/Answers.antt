use Rattle.std.proofs.Common.{subst}
use Rattle.model_images.specs.FromRaw.{AreBytes}
use Rattle.level_tables.proofs.tile_bytes.bytes_of.Goals as goal

pub returns-clause-small : goal.returns-clause-small
returns-clause-small c = subst AreBytes c.bytes-bytes.ensures.value c.are_bytes.ensures
