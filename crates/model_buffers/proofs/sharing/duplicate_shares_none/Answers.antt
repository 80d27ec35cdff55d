use Rattle.model_buffers.proofs.SharingLaws as laws
use Rattle.model_buffers.proofs.sharing.duplicate_shares_none.Goals as goal

pub returns-clause-of_original : goal.returns-clause-of_original
returns-clause-of_original c = λ table name from is. laws.keeps-duplicate table is name from

pub returns-clause-of_duplicate : goal.returns-clause-of_duplicate
returns-clause-of_duplicate c = λ table name from is. laws.keeps-original table is name from
