use Rattle.model_scenes.proofs.Transitive.{follows-both}
use Rattle.model_scenes.proofs.laws.following_is_transitive.Goals as goal

pub returns : goal.returns
returns g c = λ meanings known first second third xy yz. follows-both meanings known first second third xy yz
