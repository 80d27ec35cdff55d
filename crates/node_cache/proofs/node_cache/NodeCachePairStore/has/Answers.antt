use Rattle.std.proofs.Common.{◌∙◌}
use Rattle.node_cache.proofs.Lists.{key-there}
use Rattle.node_cache.proofs.node_cache.NodeCachePairStore.has.Goals as goal

pub returns : goal.returns
returns g c = c.contains.ensures ∙ key-there (record { node = c.args.node; at = c.args.at }) c.args.self.now.names.entries
