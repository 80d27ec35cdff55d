use Rattle.model_states.proofs.Voids as laws
use Rattle.model_states.proofs.laws.voids_leave_the_undamaged.Goals as goal

pub returns : goal.returns
returns g c = laws.damage_voids
