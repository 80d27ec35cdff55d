use Rattle.model_states.proofs.Voids as damages
use Rattle.graph_commits.proofs.VoidLaws as laws
use Rattle.graph_commits.proofs.laws.voids_take_the_damaged.Goals as goal

pub returns-clause-onward : goal.returns-clause-onward
returns-clause-onward g c = damages.damage_voids

pub returns-clause-back : goal.returns-clause-back
returns-clause-back g c = λ key same meanings change list equality stated old new. laws.voids_back same meanings change equality stated old new key list
