use Rattle.std.proofs.Common.{◌≡◌, Some, None, refl, rules}
use Rattle.std.specs.Map.{lookup, values_of}
use Rattle.node_cache.specs.Keys.{same_key}
use Rattle.node_cache.proofs.Lists.{removed-none}
use Rattle.node_cache.proofs.Owning.{cache-left, gives_up-found, gives_up-none, looked-up, some-length}
use Rattle.node_cache.proofs.node_cache.NodeCache.drop_pair.Goals as goal

pub returns-in_default-clause-over : goal.returns-in_default-clause-over
returns-in_default-clause-over g c =
    let none : lookup (same_key c.args.key) c.args.self.now.names.entries ≡ None = search rules in
    rw (c.pop.ensures.entries, removed-none c.args.key c.args.self.now.names.entries none) c.requires

pub returns-in_default-clause-given_up : goal.returns-in_default-clause-given_up
returns-in_default-clause-given_up g c =
    let none : lookup (same_key c.args.key) c.args.self.now.names.entries ≡ None = search rules in
    rw (c.pop.ensures.entries, removed-none c.args.key c.args.self.now.names.entries none)
    (gives_up-none (g.C.ChainMeaning.held c.args.chain.now) (g.C.ChainMeaning.counts c.args.chain.now) (values_of c.args.self.now.names.entries))

pub disown-requires : goal.disown-requires
disown-requires g c =
    let found : lookup (same_key c.args.key) c.args.self.now.names.entries ≡ Some c.in-Some.name = search rules in
    let tile = c.requires.tiles.named c.in-Some.name (looked-up c.args.key c.args.self.now.names.entries c.in-Some.name found) in
    some-length _ tile.len tile.there

pub returns-clause-given_up : goal.returns-clause-given_up
returns-clause-given_up g c =
    let found : lookup (same_key c.args.key) c.args.self.now.names.entries ≡ Some c.in-Some.name = search rules in
    rw c.pop.ensures.entries
    (gives_up-found c.args.key c.args.self.now.names.entries c.args.self.now.names.cap c.args.self.now.capacity c.in-Some.name
    (g.C.ChainMeaning.held c.args.chain.now) (g.C.ChainMeaning.held c.disown.new.self)
    (g.C.ChainMeaning.counts c.args.chain.now) (g.C.ChainMeaning.counts c.disown.new.self) _ _
    found c.requires c.disown.ensures.held c.disown.ensures.counts
    (g.C.ChainMeaning.same_counts c.args.chain.now) (g.C.ChainMeaning.same_counts c.disown.new.self))

pub returns-clause-over : goal.returns-clause-over
returns-clause-over g c =
    cache-left c.args.self.now.names.entries c.pop.new.self.entries c.args.self.now.names.cap c.pop.new.self.cap c.args.self.now.capacity
    (g.C.ChainMeaning.held c.args.chain.now) (g.C.ChainMeaning.held c.disown.new.self)
    (g.C.ChainMeaning.counts c.args.chain.now) (g.C.ChainMeaning.counts c.disown.new.self)
    (returns-clause-given_up g c) c.requires (rw c.pop.ensures.entries refl) c.len.ensures.valid.0 c.len.ensures.valid.1
