use Rattle.level_tables.proofs.Frames.{image-framed, over-framed}
use Rattle.level_tables.proofs.laws.tables_are_framed.Goals as goal

pub returns-clause-image : goal.returns-clause-image
returns-clause-image c = image-framed

pub returns-clause-over : goal.returns-clause-over
returns-clause-over c = λ tiles old new over exposed unchanged owns. over-framed tiles old new exposed unchanged over owns

pub returns-clause-owned : goal.returns-clause-owned
returns-clause-owned c = λ tiles held over. over.owned
