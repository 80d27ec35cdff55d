use Rattle.level_tables.proofs.table.LevelTable.+find.Given as goal

abbrev pub decreases-find : goal.decreases-find
decreases-find g l = l.level
