use Rattle.std.proofs.Common.{◌≡◌, ℕ, ◌∷◌, None, ap}
use Rattle.std.specs.Map.{lookup, values_of}
use Rattle.lru.specs.LruCache.{LruCache}
use Rattle.node_cache.specs.declared.pair_key.PairKey.{PairKey}
use Rattle.node_cache.specs.Keys.{same_key}
use Rattle.node_cache.specs.NodeNames.{GivesUp}
use Rattle.node_cache.proofs.Owning.{IsHanded, IsNamedBeside, handed, named-beside}
use Rattle.node_cache.proofs.Views.{IsListKept, list-kept, no-pair}
use Rattle.node_cache.proofs.node_cache.NodeCachePairStore.keep.Given
use Rattle.node_cache.proofs.node_cache.NodeCachePairStore.keep.Goals.{After-put_name, In_ok-name}
use Rattle.node_cache.proofs.node_cache.NodeCachePairStore.keep.Goals as goal

module _ (g : Given.Over) where
  -- the tile has a name
  named : (c : In_ok-name g)
      → IsNamedBeside (g.C.ChainMeaning.held c.args.chain.now) (g.C.ChainMeaning.held c.new_name.new.self) c.in_ok-name.name c.args.tile c.args.self.now.names.entries c.args.self.now.names.cap c.args.self.now.capacity
  named c =
      named-beside (g.C.ChainMeaning.held c.args.chain.now) (g.C.ChainMeaning.held c.new_name.new.self) c.in_ok-name.name c.args.tile c.args.self.now.names.entries c.args.self.now.names.cap c.args.self.now.capacity
      c.requires.over c.in_ok-name.ensures.absent c.in_ok-name.ensures.unowned c.in_ok-name.ensures.named

  -- and the cache was handed it
  module _ (c : After-put_name g) where
    abbrev key : PairKey
    key = record { node = c.args.node; at = c.args.at }

    absent : lookup (same_key key) c.args.self.now.names.entries ≡ None
    absent = no-pair key c.args.self.now.names.entries c.requires.absent

    left : GivesUp (g.C.ChainMeaning.held c.new_name.new.self) (g.C.ChainMeaning.held c.put_name.new.chain) (g.C.ChainMeaning.counts c.new_name.new.self) (g.C.ChainMeaning.counts c.put_name.new.chain)
        (c.in_ok-name.name ∷ values_of c.args.self.now.names.entries) (values_of c.put_name.new.self.names.entries)
        → IsHanded (g.C.ChainMeaning.held c.args.chain.now) (g.C.ChainMeaning.held c.put_name.new.chain) (g.C.ChainMeaning.counts c.args.chain.now) (g.C.ChainMeaning.counts c.put_name.new.chain)
        (values_of c.args.self.now.names.entries) (values_of c.put_name.new.self.names.entries)
    left given =
        handed (g.C.ChainMeaning.held c.args.chain.now) (g.C.ChainMeaning.held c.new_name.new.self) c.in_ok-name.name c.args.tile c.args.self.now.names.entries c.args.self.now.names.cap c.args.self.now.capacity
        c.requires.over c.in_ok-name.ensures.absent c.in_ok-name.ensures.unowned c.in_ok-name.ensures.named (g.C.ChainMeaning.held c.put_name.new.chain)
        (g.C.ChainMeaning.counts c.args.chain.now) (g.C.ChainMeaning.counts c.new_name.new.self) (g.C.ChainMeaning.counts c.put_name.new.chain) c.put_name.new.self.names.entries c.in_ok-name.ensures.counts given

    kept : IsNamedBeside (g.C.ChainMeaning.held c.args.chain.now) (g.C.ChainMeaning.held c.new_name.new.self) c.in_ok-name.name c.args.tile c.args.self.now.names.entries c.args.self.now.names.cap c.args.self.now.capacity
        → IsListKept c.put_name.result key c.args.tile c.args.self.now.names.entries c.put_name.new.self.names.entries c.args.self.now.capacity
        (g.C.ChainMeaning.held c.args.chain.now) (g.C.ChainMeaning.held c.put_name.new.chain)
    kept beside =
        list-kept key c.in_ok-name.name c.args.tile c.args.self.now.names.entries c.put_name.new.self.names.entries c.args.self.now.names.cap c.args.self.now.capacity
        c.requires.over.some c.requires.over.same absent
        (g.C.ChainMeaning.held c.args.chain.now) (g.C.ChainMeaning.held c.new_name.new.self) (g.C.ChainMeaning.held c.put_name.new.chain)
        beside.unchanged c.put_name.ensures.given_up.unchanged beside.len beside.bytes beside.respects.exposed c.put_name.ensures.given_up.others.exposed
        _ c.put_name.result c.put_name.ensures.entries c.put_name.ensures.unchanged (λ is. ap (λ (n : LruCache PairKey ℕ). n.entries) is)

pub put_name-requires-clause-over : goal.put_name-requires-clause-over
put_name-requires-clause-over g c = (named g (goal.at.put_name-requires-clause-over g c).In_ok-name).over

pub put_name-requires-clause-owned : goal.put_name-requires-clause-owned
put_name-requires-clause-owned g c = (named g (goal.at.put_name-requires-clause-owned g c).In_ok-name).owns

pub put_name-requires-clause-tile : goal.put_name-requires-clause-tile
put_name-requires-clause-tile g c = (named g (goal.at.put_name-requires-clause-tile g c).In_ok-name).named c.bytes.ensures.size

pub put_name-requires-clause-absent : goal.put_name-requires-clause-absent
put_name-requires-clause-absent g c = no-pair (record { node = c.args.node; at = c.args.at }) c.args.self.now.names.entries c.requires.absent

pub returns-clause-pairs : goal.returns-clause-pairs
returns-clause-pairs g c =
    let at = goal.at.returns-clause-pairs g c in
    (kept g at.After-put_name (named g at.In_ok-name)).pairs

pub returns-clause-sizes : goal.returns-clause-sizes
returns-clause-sizes g c =
    let at = goal.at.returns-clause-sizes g c in
    (kept g at.After-put_name (named g at.In_ok-name)).sizes

pub returns-clause-cached : goal.returns-clause-cached
returns-clause-cached g c =
    let at = goal.at.returns-clause-cached g c in
    (kept g at.After-put_name (named g at.In_ok-name)).cached

pub returns-clause-others : goal.returns-clause-others
returns-clause-others g c = (left g (goal.at.returns-clause-others g c).After-put_name c.put_name.ensures.given_up).others

pub returns-clause-one_owner : goal.returns-clause-one_owner
returns-clause-one_owner g c = (left g (goal.at.returns-clause-one_owner g c).After-put_name c.put_name.ensures.given_up).one_owner

pub returns-clause-other_names : goal.returns-clause-other_names
returns-clause-other_names g c = (left g (goal.at.returns-clause-other_names g c).After-put_name c.put_name.ensures.given_up).other_names

pub returns-clause-counts : goal.returns-clause-counts
returns-clause-counts g c = (left g (goal.at.returns-clause-counts g c).After-put_name c.put_name.ensures.given_up).counts
