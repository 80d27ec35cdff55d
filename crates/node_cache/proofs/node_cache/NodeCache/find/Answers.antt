use Rattle.std.proofs.Common.{◌≡◌, Some, None, refl, sym, rules}
use Rattle.std.specs.Map.{lookup}
use Rattle.node_cache.specs.Keys.{same_key}
use Rattle.node_cache.proofs.Lists.{promoted-none}
use Rattle.node_cache.proofs.Owning.{cache-promoted, looked-up, tile-size}
use Rattle.node_cache.proofs.node_cache.NodeCache.find.Goals as goal

pub returns-in_default-clause-entries : goal.returns-in_default-clause-entries
returns-in_default-clause-entries g c =
    let none : lookup (same_key c.args.key) c.args.self.now.names.entries ≡ None = search rules in
    sym (promoted-none c.args.key c.args.self.now.names.entries none)

pub read-requires-clause-size : goal.read-requires-clause-size
read-requires-clause-size g c =
    let found : lookup (same_key c.args.key) c.args.self.now.names.entries ≡ Some c.in-Some.name = search rules in
    tile-size (g.C.ChainMeaning.held c.args.chain.now) c.in-Some.name c.args.len
    (c.requires.over.tiles.named c.in-Some.name (looked-up c.args.key c.args.self.now.names.entries c.in-Some.name found))
    (rw found at c.requires.length)

pub returns-clause-over : goal.returns-clause-over
returns-clause-over g c =
    rw (c.promote.ensures.entries, c.read.ensures.held)
    (cache-promoted c.args.key c.args.self.now.names.entries c.args.self.now.names.cap c.args.self.now.names.cap c.args.self.now.capacity
    (g.C.ChainMeaning.held c.args.chain.now) c.requires.over refl
    (rw c.promote.ensures.entries at c.len.ensures.valid.0) (rw c.promote.ensures.entries at c.len.ensures.valid.1))
