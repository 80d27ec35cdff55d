use Rattle.std.proofs.Common.{ℕ, ap, ap₂}
use Rattle.std.specs.Map.{lookup, values_of}
use Rattle.lru.specs.LruCache.{LruCache}
use Rattle.node_cache.specs.declared.pair_key.PairKey.{PairKey}
use Rattle.node_cache.specs.Keys.{same_key}
use Rattle.node_cache.specs.NodeNames.{GivesUp, IsFoundIn, cached_in, pairs_in, sizes_in}
use Rattle.node_cache.specs.Stores.{Finds, pair_at}
use Rattle.node_cache.proofs.Views.{either, err-given_up, finds, found-length, if-ok, look-cached, look-given_up, look-pairs, look-sizes, on-result}
use Rattle.node_cache.proofs.node_cache.NodeCachePairStore.look.Given
use Rattle.node_cache.proofs.node_cache.NodeCachePairStore.look.Goals.{After-find}
use Rattle.node_cache.proofs.node_cache.NodeCachePairStore.look.Goals as goal

pub find-requires-clause-length : goal.find-requires-clause-length
find-requires-clause-length g c =
    let k : PairKey = record { node = c.args.node; at = c.args.at } in
    found-length k c.args.self.now.names.entries (g.C.ChainMeaning.held c.args.chain.now) c.requires.over.tiles c.args.len c.requires.length

pub returns-clause-found : goal.returns-clause-found
returns-clause-found g c =
    let k : PairKey = record { node = c.args.node; at = c.args.at } in
    if-ok (IsFoundIn (g.C.ChainMeaning.held c.args.chain.now) (lookup (same_key k) c.args.self.now.names.entries) c.args.len)
    (Finds (pairs_in c.args.self.now.names.entries) (cached_in c.args.self.now.names.entries (g.C.ChainMeaning.held c.args.chain.now)) (pair_at c.args.node c.args.at) c.args.len)
    c.find.result c.find.ensures.found
    (λ found is. finds k c.args.self.now.names.entries (g.C.ChainMeaning.held c.args.chain.now) c.requires.over.tiles c.args.len found is)

pub returns-clause-pairs : goal.returns-clause-pairs
returns-clause-pairs g c =
    let k : PairKey = record { node = c.args.node; at = c.args.at } in
    on-result _ _ _ _ c.find.result c.find.ensures.entries c.find.ensures.unchanged
    (λ is. look-pairs k c.args.self.now.names.entries c.requires.over.distinct c.find.new.self.names.entries is)
    (λ is. ap (λ (n : LruCache PairKey ℕ). pairs_in n.entries) is)

pub returns-clause-sizes : goal.returns-clause-sizes
returns-clause-sizes g c =
    let k : PairKey = record { node = c.args.node; at = c.args.at } in
    on-result _ _ _ _ c.find.result c.find.ensures.entries c.find.ensures.unchanged
    (λ is. look-sizes k c.args.self.now.names.entries c.requires.over.distinct (g.C.ChainMeaning.held c.args.chain.now) (g.C.ChainMeaning.held c.find.new.chain) c.find.ensures.held c.find.new.self.names.entries is)
    (λ is. ap₂ sizes_in (ap (λ (n : LruCache PairKey ℕ). n.entries) is) c.find.ensures.held)

pub returns-clause-cached : goal.returns-clause-cached
returns-clause-cached g c =
    let k : PairKey = record { node = c.args.node; at = c.args.at } in
    on-result _ _ _ _ c.find.result c.find.ensures.entries c.find.ensures.unchanged
    (λ is. look-cached k c.args.self.now.names.entries c.requires.over.distinct (g.C.ChainMeaning.held c.args.chain.now) (g.C.ChainMeaning.held c.find.new.chain) c.find.ensures.held c.find.new.self.names.entries is)
    (λ is. ap₂ cached_in (ap (λ (n : LruCache PairKey ℕ). n.entries) is) c.find.ensures.held)

module _ (g : Given.Over) (c : After-find g) where
  given : GivesUp (g.C.ChainMeaning.held c.args.chain.now) (g.C.ChainMeaning.held c.find.new.chain) (g.C.ChainMeaning.counts c.args.chain.now) (g.C.ChainMeaning.counts c.find.new.chain)
      (values_of c.args.self.now.names.entries) (values_of c.find.new.self.names.entries)
  given =
      either _ _ (GivesUp (g.C.ChainMeaning.held c.args.chain.now) (g.C.ChainMeaning.held c.find.new.chain) (g.C.ChainMeaning.counts c.args.chain.now) (g.C.ChainMeaning.counts c.find.new.chain) (values_of c.args.self.now.names.entries) (values_of c.find.new.self.names.entries))
      c.find.result c.find.ensures.entries c.find.ensures.unchanged
      (λ is. look-given_up (record { node = c.args.node; at = c.args.at }) c.args.self.now.names.entries c.requires.over.distinct (g.C.ChainMeaning.held c.args.chain.now) (g.C.ChainMeaning.held c.find.new.chain) c.find.ensures.held c.find.new.self.names.entries (g.C.ChainMeaning.counts c.args.chain.now) (g.C.ChainMeaning.counts c.find.new.chain) c.find.ensures.counts is)
      (λ is. err-given_up (record { node = c.args.node; at = c.args.at }) c.args.self.now.names.entries c.requires.over.distinct (g.C.ChainMeaning.held c.args.chain.now) (g.C.ChainMeaning.held c.find.new.chain) c.find.ensures.held c.find.new.self.names.entries (g.C.ChainMeaning.counts c.args.chain.now) (g.C.ChainMeaning.counts c.find.new.chain) c.find.ensures.counts (ap (λ (n : LruCache PairKey ℕ). n.entries) is))

pub returns-clause-others : goal.returns-clause-others
returns-clause-others g c = (given g (goal.at.returns-clause-others g c).After-find).others

pub returns-clause-one_owner : goal.returns-clause-one_owner
returns-clause-one_owner g c = (given g (goal.at.returns-clause-one_owner g c).After-find).one_owner

pub returns-clause-other_names : goal.returns-clause-other_names
returns-clause-other_names g c = (given g (goal.at.returns-clause-other_names g c).After-find).other_names
