use Rattle.std.proofs.Common.{sym, subst}
use Rattle.node_cache.specs.Stores.{pair_at}
use Rattle.test_sessions.specs.Lengths.{HaveLength}
use Rattle.test_sessions.proofs.LengthLaws.{length-found, lengths-looked}
use Rattle.test_sessions.proofs.caches.calls.look.Goals as goal

pub look-requires-clause-length : goal.look-requires-clause-length
look-requires-clause-length g c =
    length-found 4 (g.C.PairStore.sizes c.args.cache.now (g.H.ChainMeaning.held c.args.chain.now)) c.requires.lengths
    (pair_at c.pair-node.result.0 c.pair-node.result.1)

pub returns-clause-lengths : goal.returns-clause-lengths
returns-clause-lengths g c =
    subst (HaveLength 4) (sym c.in_ok-found.ensures.sizes)
    (lengths-looked 4 (g.C.PairStore.sizes c.args.cache.now (g.H.ChainMeaning.held c.args.chain.now)) c.requires.lengths
    (pair_at c.pair-node.result.0 c.pair-node.result.1))
