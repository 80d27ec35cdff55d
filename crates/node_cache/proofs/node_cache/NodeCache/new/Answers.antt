use Rattle.std.proofs.Common.{rules}
use Rattle.node_cache.proofs.Owning.{cache-empty}
use Rattle.node_cache.proofs.node_cache.NodeCache.new.Goals as goal

pub returns-clause-over : goal.returns-clause-over
returns-clause-over c = λ held. rw c.in_ok-names.ensures (cache-empty _ c.args.capacity held c.requires (search rules))
