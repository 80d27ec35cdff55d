use Rattle.std.proofs.Common.{length, sym, subst, ◌∙◌}
use Rattle.node_cache.specs.Stores.{pair_at, sized_at}
use Rattle.test_sessions.specs.Lengths.{HaveLength}
use Rattle.test_sessions.proofs.LengthLaws.{length-found, lengths-kept, lengths-looked, still-absent}
use Rattle.test_sessions.proofs.caches.calls.keep.Goals as goal

pub look-requires-clause-length : goal.look-requires-clause-length
look-requires-clause-length g c =
    length-found 4 (g.C.PairStore.sizes c.args.cache.now (g.H.ChainMeaning.held c.args.chain.now)) c.requires.lengths
    (pair_at c.pair-node.result.0 c.pair-node.result.1)

pub returns-then-is_some-clause-lengths : goal.returns-then-is_some-clause-lengths
returns-then-is_some-clause-lengths g c =
    subst (HaveLength 4) (sym c.in_ok-found.ensures.sizes)
    (lengths-looked 4 (g.C.PairStore.sizes c.args.cache.now (g.H.ChainMeaning.held c.args.chain.now)) c.requires.lengths
    (pair_at c.pair-node.result.0 c.pair-node.result.1))

pub keep-requires-clause-absent : goal.keep-requires-clause-absent
keep-requires-clause-absent g c =
    still-absent (g.C.PairStore.pairs c.args.cache.now) (g.C.PairStore.pairs c.look.new.self) (pair_at c.pair-node.result.0 c.pair-node.result.1)
    (sym c.in_ok-found.ensures.found.there ∙ sym c.if-is_some.ensures)
    c.in_ok-found.ensures.pairs

pub returns-in_err-keep-clause-lengths : goal.returns-in_err-keep-clause-lengths
returns-in_err-keep-clause-lengths g c =
    subst (HaveLength 4) (sym c.in_err-keep.ensures.sizes)
    (subst (HaveLength 4) (sym c.in_ok-found.ensures.sizes)
    (lengths-looked 4 (g.C.PairStore.sizes c.args.cache.now (g.H.ChainMeaning.held c.args.chain.now)) c.requires.lengths
    (pair_at c.pair-node.result.0 c.pair-node.result.1)))

pub returns-clause-lengths : goal.returns-clause-lengths
returns-clause-lengths g c =
    let looked : HaveLength 4 (g.C.PairStore.sizes c.look.new.self (g.H.ChainMeaning.held c.look.new.chain)) =
    subst (HaveLength 4) (sym c.in_ok-found.ensures.sizes)
    (lengths-looked 4 (g.C.PairStore.sizes c.args.cache.now (g.H.ChainMeaning.held c.args.chain.now)) c.requires.lengths
    (pair_at c.pair-node.result.0 c.pair-node.result.1)) in
    subst (HaveLength 4) (sym c.in_ok-keep.ensures.sizes)
    (lengths-kept 4 (g.C.PairStore.sizes c.look.new.self (g.H.ChainMeaning.held c.look.new.chain)) looked
    (g.C.PairStore.capacity c.look.new.self)
    (sized_at c.pair-node.result.0 c.pair-node.result.1 (length c.in_ok-tile.tile))
    c.in_ok-tile.ensures)
