use Rattle.model_images.proofs.Agreeing.{cut-cut}
use Rattle.model_images.proofs.Painting.{AgreeOutside-cut}
use Rattle.model_images.proofs.agreement.parts_of_images.Goals as goal

pub returns-clause-part : goal.returns-clause-part
returns-clause-part c = cut-cut

pub returns-clause-agreement : goal.returns-clause-agreement
returns-clause-agreement c = AgreeOutside-cut
