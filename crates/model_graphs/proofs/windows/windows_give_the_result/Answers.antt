use Rattle.model_graphs.proofs.WindowLaws.{windows-give}
use Rattle.model_graphs.proofs.windows.windows_give_the_result.Goals as goal

pub returns : goal.returns
returns g c = λ operation images windows part. windows-give g.Op.OpMeaning.meanings operation images windows part g.Op.OpMeaning.local
