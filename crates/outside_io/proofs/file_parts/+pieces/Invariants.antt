use Rattle.std.proofs.Common.{◌+◌, ◌*◌}
use Rattle.outside_io.proofs.file_parts.+pieces.Given as goal

abbrev pub decreases-fill_by_pieces : goal.decreases-fill_by_pieces
decreases-fill_by_pieces g l = 2 * l.pieces + 1

abbrev pub decreases-both+arg2 : goal.decreases-both+arg2
decreases-both+arg2 g l = 2 * l.pieces
