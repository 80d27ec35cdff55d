use Rattle.model_states.proofs.Symmetric as laws
use Rattle.model_states.proofs.laws.damage_is_symmetric.Goals as goal

pub returns : goal.returns
returns g c = λ same meanings change name equality stated old new. laws.symmetric same meanings equality change stated old new name
