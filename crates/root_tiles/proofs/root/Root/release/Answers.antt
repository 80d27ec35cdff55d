use Rattle.std.proofs.Common.{rules}
use Rattle.root_tiles.proofs.root.Root.release.Goals as goal

pub returns : goal.returns
returns g c = record { others = search rules; counts = search rules; loans = search rules; valid = search rules }
