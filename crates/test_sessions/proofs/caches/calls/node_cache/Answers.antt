use Rattle.test_sessions.proofs.caches.calls.node_cache.Goals as goal

pub returns-clause-over : goal.returns-clause-over
returns-clause-over g c = c.in_ok-cache.ensures.over (g.C.ChainMeaning.held c.args._chain.now)
