use Rattle.chain_owners.proofs.Ownership.{respects-both}
use Rattle.chain_owners.proofs.owners_laws.calls_respect_in_turn.Goals as goal

pub returns : goal.returns
returns c = λ first second last before between after one two. respects-both first second before between one last after two
