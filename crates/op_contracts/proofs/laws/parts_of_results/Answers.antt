use Rattle.op_contracts.proofs.Applied.{its-result}
use Rattle.op_contracts.proofs.laws.parts_of_results.Goals as goal

pub returns : goal.returns
returns g c = λ operation images windows part inside are. its-result g.Op.OpMeaning.meanings operation images windows part are g.Op.OpMeaning.local inside
