use Rattle.std.proofs.Common.{◌+◌, ◌*◌}
use Rattle.worker_pieces.proofs.workers.+pieces.Given as goal

abbrev pub decreases-in_pieces : goal.decreases-in_pieces
decreases-in_pieces g l = 2 * l.pieces + 1

abbrev pub decreases-others : goal.decreases-others
decreases-others g l = 2 * l.pieces
