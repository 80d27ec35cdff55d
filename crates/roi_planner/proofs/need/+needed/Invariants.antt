use Rattle.roi_planner.proofs.need.+needed.Given as goal

abbrev pub decreases-needed : goal.decreases-needed
decreases-needed g l = l.count
