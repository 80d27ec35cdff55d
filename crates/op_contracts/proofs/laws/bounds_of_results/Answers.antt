use Rattle.op_contracts.proofs.Bounds.{bounds-box, bounds-limits, bounds-valid}
use Rattle.op_contracts.proofs.laws.bounds_of_results.Goals as goal

pub returns-clause-boxes : goal.returns-clause-boxes
returns-clause-boxes g c = λ operation boxes bounds. bounds-box g.Op.OpMeaning.meanings operation boxes bounds

pub returns-clause-limits : goal.returns-clause-limits
returns-clause-limits g c = λ operation boxes bounds. bounds-limits g.Op.OpMeaning.meanings operation boxes bounds

pub returns-clause-valid : goal.returns-clause-valid
returns-clause-valid g c = λ operation boxes. bounds-valid g.Op.OpMeaning.meanings operation boxes
