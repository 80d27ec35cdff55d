use Rattle.model_states.proofs.Voids as laws
use Rattle.model_states.proofs.laws.damage_is_listed.Goals as goal

pub returns : goal.returns
returns g c = laws.listed_damage
