use Rattle.std.proofs.Common.{length}
use Rattle.graph_commits.proofs.change.+invalidated_hull.Given as goal

abbrev pub decreases-invalidated_hull : goal.decreases-invalidated_hull
decreases-invalidated_hull g l = length l.positions.now
