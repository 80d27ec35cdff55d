use Rattle.std.proofs.Common.{◌≡◌, None, sym, rules}
use Rattle.std.specs.Map.{lookup}
use Rattle.node_cache.specs.Keys.{same_key}
use Rattle.node_cache.proofs.Lists.{promoted-none}
use Rattle.node_cache.proofs.hand_cache.HandCache.find.Goals as goal

pub returns-in_default-clause-entries : goal.returns-in_default-clause-entries
returns-in_default-clause-entries c =
    let none : lookup (same_key c.args.key) c.args.self.now.tiles.entries ≡ None = search rules in
    sym (promoted-none c.args.key c.args.self.now.tiles.entries none)
