use Rattle.model_scenes.proofs.Stay.{stay-right}
use Rattle.model_scenes.proofs.laws.pairs_stay_right.Goals as goal

pub returns : goal.returns
returns g c = λ meanings old new list follows near right. stay-right meanings old new follows near list right
