use Rattle.std.proofs.Common.{arith}
use Rattle.chain_owners.proofs.Ownership.{others-own, others-unchanged, owns-fewer, seen-unchanged, times-append}
use Rattle.node_cache.proofs.laws.stores_are_unchanged.Goals as goal

pub returns-clause-sizes : goal.returns-clause-sizes
returns-clause-sizes g c = λ store old new before after respects owns.
    seen-unchanged old new before after respects (g.S.PairStore.names store) (g.S.PairStore.sizes store) (g.met.S.PairStore.framed_sizes store) owns

pub returns-clause-cached : goal.returns-clause-cached
returns-clause-cached g c = λ store old new before after respects owns.
    seen-unchanged old new before after respects (g.S.PairStore.names store) (g.S.PairStore.cached store) (g.met.S.PairStore.framed store) owns

pub returns-clause-over : goal.returns-clause-over
returns-clause-over g c = λ store old new before after respects owns over.
    let names = g.S.PairStore.names store in
    g.met.S.PairStore.framed_condition store old new over respects.exposed
    (others-unchanged old new before after respects names owns)
    (owns-fewer new _ names (λ q. omega (arith, times-append after names q)) (others-own old new before after respects names owns))
