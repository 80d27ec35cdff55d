use Rattle.op_contracts.proofs.Applied.{its-bounds, its-formats, its-required, its-whole}
use Rattle.op_contracts.proofs.laws.windows_may_be_applied.Goals as goal

pub returns-clause-boxes : goal.returns-clause-boxes
returns-clause-boxes g c = λ operation images windows part are. its-bounds g.Op.OpMeaning.meanings operation images windows part are

pub returns-clause-formats : goal.returns-clause-formats
returns-clause-formats g c = λ operation images windows part are. its-formats g.Op.OpMeaning.meanings operation images windows part are

pub returns-clause-whole : goal.returns-clause-whole
returns-clause-whole g c = λ operation images windows part are. its-whole g.Op.OpMeaning.meanings operation images windows part are

pub returns-clause-required : goal.returns-clause-required
returns-clause-required g c = λ operation images windows part are. its-required g.Op.OpMeaning.meanings operation images windows part are
