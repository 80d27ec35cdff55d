use Rattle.std.proofs.Common.{refl}
use Rattle.worker_pieces.proofs.Zips.{made-more}
use Rattle.worker_pieces.proofs.workers.made_of.Goals as goal
