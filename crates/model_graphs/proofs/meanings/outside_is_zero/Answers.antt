use Rattle.model_images.proofs.Laws.{at_outside}
use Rattle.model_graphs.specs.Meanings.{result_of}
use Rattle.model_graphs.proofs.meanings.outside_is_zero.Goals as goal

pub returns : goal.returns
returns g c = λ operation images u v k out. at_outside (result_of g.Op.OpMeaning.meanings operation images) u v k out
