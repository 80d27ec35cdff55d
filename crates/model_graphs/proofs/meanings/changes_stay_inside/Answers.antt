use Rattle.model_graphs.proofs.ChangeLaws as laws
use Rattle.model_graphs.proofs.meanings.changes_stay_inside.Goals as goal

pub returns : goal.returns
returns g c = λ operation i region before after changed.
    laws.change_inside g.Op.OpMeaning.meanings g.Op.OpMeaning.local g.Op.OpMeaning.dual operation i region before after changed
