use Rattle.root_tiles.proofs.MoreTiles.{cause-later, read-holds, tiles-both, tiles-names, tiles-raise}
use Rattle.root_tiles.proofs.laws.more_root_tiles_are_held.Goals as goal

pub returns-clause-read : goal.returns-clause-read
returns-clause-read c = λ z root old new first last over same grows. read-holds z root old new first last over same grows

pub returns-clause-both : goal.returns-clause-both
returns-clause-both c = λ z first second last a b. tiles-both z first second last a b

pub returns-clause-higher : goal.returns-clause-higher
returns-clause-higher c = λ z top a b low more. tiles-raise z top a b low more

pub returns-clause-names : goal.returns-clause-names
returns-clause-names c = λ z a b more. tiles-names z a b more

pub returns-clause-cause : goal.returns-clause-cause
returns-clause-cause c = λ z first second last more top low refused cause. cause-later z first second last more top low refused cause
