use Rattle.std.proofs.Common.{sym, subst}
use Rattle.buffer_view.specs.BufferTables.{buffers_names}
use Rattle.strip_renders.proofs.Moments.{owns-turned}
use Rattle.strip_renders.specs.Strips.{AreSizedPairs}
use Rattle.test_renders.proofs.ReadyLaws.{owned-after, sized-voided}
use Rattle.test_renders.proofs.changes.void_one.Goals as goal

pub returns-clause-over : goal.returns-clause-over
returns-clause-over g c =
    let old = g.C.ChainMeaning.held c.args.chain.now in
    let new = g.C.ChainMeaning.held c.void.new.chain in
    let names = g.P.PairStore.names c.args.cache.now in
    let left = g.P.PairStore.names c.void.new.self in
    let first = buffers_names c.args.buffers.now in
    record {
      source = c.other_buffers_are_unchanged.ensures.over c.args.buffers.now old new names left c.void.ensures.others
          (owns-turned old first names c.requires.over.owned) c.requires.over.source;
      cache = c.void.ensures.over;
      owned = owned-after old new first names left c.void.ensures.others c.requires.over.owned;
    }

pub returns-clause-sized : goal.returns-clause-sized
returns-clause-sized g c = λ nodes sized.
    subst (AreSizedPairs nodes) (sym c.void.ensures.sizes)
    (sized-voided nodes (g.P.PairStore.sizes c.args.cache.now (g.C.ChainMeaning.held c.args.chain.now)) c.args.node c.args.rect sized)
