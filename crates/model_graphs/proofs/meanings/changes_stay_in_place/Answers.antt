use Rattle.model_graphs.specs.Lawful.{place_invalidated}
use Rattle.model_graphs.proofs.meanings.changes_stay_in_place.Goals as goal

pub returns : goal.returns
returns g c = λ operation boxes changed u v steady there inside first.
    let O = g.Op.OpMeaning in
    place_invalidated O.steady O.meanings O.dual O.in_place operation steady boxes changed u v there inside first
