use Rattle.model_images.proofs.Agreeing as laws
use Rattle.model_images.proofs.agreement.agreement_of_parts.Goals as goal

pub returns-clause-bytes : goal.returns-clause-bytes
returns-clause-bytes c = laws.everywhere-raw

pub returns-clause-outside : goal.returns-clause-outside
returns-clause-outside c = laws.elsewhere-raw

pub returns-clause-parts : goal.returns-clause-parts
returns-clause-parts c = laws.everywhere-cut
