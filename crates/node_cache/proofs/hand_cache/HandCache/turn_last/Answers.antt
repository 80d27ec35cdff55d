use Rattle.std.proofs.Common.{sym, rules}
use Rattle.node_cache.proofs.Lists.{none-last, turned-front, turned-out}
use Rattle.node_cache.proofs.hand_cache.HandCache.turn_last.Goals as goal

pub returns-in_default-clause-entries : goal.returns-in_default-clause-entries
returns-in_default-clause-entries c = λ rest e whole.
    absurd (none-last c.args.self.now.tiles.entries (search rules) rest e whole)

pub returns-then-is_voided-clause-entries : goal.returns-then-is_voided-clause-entries
returns-then-is_voided-clause-entries c = λ rest e whole.
    rw c.drop_pair.ensures.entries
    (turned-out c.args.node c.args.rect.now c.args.self.now.tiles.entries c.in-Some.key.now c.in-Some._tile.now c.requires.distinct
    (sym c.in-Some.ensures) (search rules) rest e whole)

pub returns-clause-entries : goal.returns-clause-entries
returns-clause-entries c = λ rest e whole.
    rw c.promote.ensures.entries
    (turned-front c.args.node c.args.rect.now c.args.self.now.tiles.entries c.in-Some.key.now c.in-Some._tile.now c.requires.distinct
    (sym c.in-Some.ensures) (search rules) rest e whole)
