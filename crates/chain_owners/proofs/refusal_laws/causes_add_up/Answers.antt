use Rattle.chain_owners.proofs.Causes.{cause-after, cause-before, cause-more}
use Rattle.chain_owners.proofs.refusal_laws.causes_add_up.Goals as goal

pub returns-clause-more : goal.returns-clause-more
returns-clause-more c = cause-more

pub returns-clause-before : goal.returns-clause-before
returns-clause-before c = cause-before

pub returns-clause-after : goal.returns-clause-after
returns-clause-after c = cause-after
