use Rattle.model_states.proofs.NodeDamage as laws
use Rattle.model_states.proofs.images_unchanged_outside_damage.Goals as goal

pub returns-clause-samples : goal.returns-clause-samples
returns-clause-samples g c = λ same meanings change old new name keeps apart valid. (laws.unchanged same meanings change old new keeps apart valid name).samples

pub returns-clause-kept : goal.returns-clause-kept
returns-clause-kept g c = λ same meanings change old new node keeps apart valid found test. (laws.unchanged same meanings change old new keeps apart valid node.name).kept node found test
