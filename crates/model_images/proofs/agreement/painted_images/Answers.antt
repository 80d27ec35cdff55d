use Rattle.model_images.proofs.Painting as laws
use Rattle.model_images.proofs.agreement.painted_images.Goals as goal

pub returns-clause-over : goal.returns-clause-over
returns-clause-over c = laws.at-painted

pub returns-clause-outside : goal.returns-clause-outside
returns-clause-outside c = laws.AgreeOutside-painted
