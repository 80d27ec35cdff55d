use Rattle.model_states.proofs.NeedLaws as laws
use Rattle.model_states.proofs.laws.same_pair_decides.Goals as goal

pub returns : goal.returns
returns c = laws.Decides-same_pair
