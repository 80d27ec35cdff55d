use Rattle.chain_owners.proofs.Growing.{grows-both, grows-more, grows-same}
use Rattle.chain_owners.proofs.counts_laws.growths_add_up.Goals as goal

pub returns-clause-none : goal.returns-clause-none
returns-clause-none c = grows-same

pub returns-clause-both : goal.returns-clause-both
returns-clause-both c = λ first second last added more. grows-both added more first second last

pub returns-clause-weaker : goal.returns-clause-weaker
returns-clause-weaker c = λ old new added more. grows-more added more old new
