use Rattle.model_images.proofs.PolicyLaws as laws
use Rattle.model_images.proofs.policies.loop_is_the_wrapped_position.Goals as goal

pub returns-clause-moved : goal.returns-clause-moved
returns-clause-moved c = laws.loop-moves

pub returns-clause-columns : goal.returns-clause-columns
returns-clause-columns c = laws.loop-columns

pub returns-clause-rows : goal.returns-clause-rows
returns-clause-rows c = laws.loop-rows
