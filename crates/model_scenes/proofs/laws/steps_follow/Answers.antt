use Rattle.model_scenes.proofs.Committed.{step-follows}
use Rattle.model_scenes.proofs.laws.steps_follow.Goals as goal

pub returns : goal.returns
returns g c = λ same meanings known change rects old new number damages laws apart step last. step-follows same meanings known change rects old new laws apart step number damages last
