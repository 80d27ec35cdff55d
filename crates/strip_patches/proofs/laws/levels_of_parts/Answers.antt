use Rattle.strip_patches.proofs.Adding.{level-of_part}
use Rattle.strip_patches.proofs.Halves.{level-more}
use Rattle.strip_patches.proofs.Scaled.{scaled-back, scaled-positions}
use Rattle.strip_patches.proofs.laws.levels_of_parts.Goals as goal

pub returns-clause-part : goal.returns-clause-part
returns-clause-part c = level-of_part

pub returns-clause-rectangle : goal.returns-clause-rectangle
returns-clause-rectangle c = scaled-back

pub returns-clause-positions : goal.returns-clause-positions
returns-clause-positions c = λ z u v r s small is. scaled-positions z r s small is u v

pub returns-clause-sum : goal.returns-clause-sum
returns-clause-sum c = level-more
