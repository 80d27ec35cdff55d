use Rattle.model_images.proofs.Laws as laws
use Rattle.model_images.proofs.images.agreed_everywhere.Goals as goal

pub returns : goal.returns
returns c = laws.same_images
