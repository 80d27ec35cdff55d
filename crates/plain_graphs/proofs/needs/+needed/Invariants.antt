use Rattle.plain_graphs.proofs.needs.+needed.Given as goal

abbrev pub decreases-needed : goal.decreases-needed
decreases-needed l = l.count
