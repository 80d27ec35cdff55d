use Rattle.std.proofs.Common.{refl}
use Rattle.model_images.proofs.RowLaws as laws
use Rattle.model_images.proofs.raw_bytes.bytes_by_rows.Goals as goal

pub returns-clause-none : goal.returns-clause-none
returns-clause-none c = laws.raw_with-no_row

pub returns-clause-next : goal.returns-clause-next
returns-clause-next c = laws.raw_with-row

pub returns-clause-all : goal.returns-clause-all
returns-clause-all c = λ image policy r. refl
