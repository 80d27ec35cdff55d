use Rattle.model_states.proofs.Suited as laws
use Rattle.model_states.proofs.laws.operations_suit_all_shapes.Goals as goal

pub returns : goal.returns
returns g c = laws.suits_all
