use Rattle.std.proofs.Common.{sym, subst}
use Rattle.test_sessions.specs.Lengths.{HaveLength}
use Rattle.test_sessions.proofs.LengthLaws.{lengths-voided}
use Rattle.test_sessions.proofs.caches.calls.void.Goals as goal

pub returns-clause-lengths : goal.returns-clause-lengths
returns-clause-lengths g c =
    subst (HaveLength 4) (sym c.void.ensures.sizes)
    (lengths-voided 4 (g.C.PairStore.sizes c.args.cache.now (g.H.ChainMeaning.held c.args.chain.now)) c.requires.lengths
    c.name-node.result c.rect.result)
