use Rattle.std.proofs.Common.{[], ◌∷◌, ◌++◌, length}
use Rattle.roi_planner.specs.Asked.{MeetSameTiles}
use Rattle.roi_planner.proofs.region.Region.add.Given as goal

abbrev pub invariant-loop-last : goal.invariant-loop-last
invariant-loop-last l = MeetSameTiles (l.self ++ l.joined ∷ []) (l.fn.self ++ l.fn.rect ∷ [])

abbrev pub decreases-loop-last : goal.decreases-loop-last
decreases-loop-last l = length l.self
