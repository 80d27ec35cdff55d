use Rattle.std.proofs.Common.{arith}
use Rattle.chain_owners.proofs.Ownership.{others-own, others-unchanged, owns-fewer, seen-unchanged, times-append}
use Rattle.op_contracts.proofs.laws.sources_are_unchanged.Goals as goal

pub returns-clause-images : goal.returns-clause-images
returns-clause-images g c = λ sources old new before after respects owns.
    seen-unchanged old new before after respects (g.S.SourceTiles.names sources) (g.S.SourceTiles.images sources) (g.met.S.SourceTiles.framed sources) owns

pub returns-clause-over : goal.returns-clause-over
returns-clause-over g c = λ sources old new before after respects owns over.
    let names = g.S.SourceTiles.names sources in
    g.met.S.SourceTiles.framed_condition sources old new over respects.exposed
    (others-unchanged old new before after respects names owns)
    (owns-fewer new _ names (λ q. omega (arith, times-append after names q)) (others-own old new before after respects names owns))
