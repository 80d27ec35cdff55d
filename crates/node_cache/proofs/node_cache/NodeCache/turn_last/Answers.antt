use Rattle.std.proofs.Common.{refl, sym, rules}
use Rattle.std.specs.Map.{values_of}
use Rattle.node_cache.specs.Keys.{same_key}
use Rattle.node_cache.proofs.Lists.{none-last, turned-front, turned-out}
use Rattle.node_cache.proofs.Owning.{cache-promoted, gives_up-none, gives_up-reads, length-promoted, times-promoted}
use Rattle.node_cache.proofs.node_cache.NodeCache.turn_last.Goals as goal

pub returns-in_default-clause-entries : goal.returns-in_default-clause-entries
returns-in_default-clause-entries g c = λ rest e whole.
    absurd (none-last c.args.self.now.names.entries (search rules) rest e whole)

pub returns-in_default-clause-given_up : goal.returns-in_default-clause-given_up
returns-in_default-clause-given_up g c =
    gives_up-none (g.C.ChainMeaning.held c.args.chain.now) (g.C.ChainMeaning.counts c.args.chain.now) (values_of c.args.self.now.names.entries)

pub returns-then-is_voided-clause-entries : goal.returns-then-is_voided-clause-entries
returns-then-is_voided-clause-entries g c = λ rest e whole.
    rw c.drop_pair.ensures.entries
    (turned-out c.args.node c.args.rect.now c.args.self.now.names.entries c.in-Some.key.now c.in-Some._name.now c.requires.distinct
    (sym c.in-Some.ensures) (search rules) rest e whole)

pub returns-clause-entries : goal.returns-clause-entries
returns-clause-entries g c = λ rest e whole.
    rw c.promote.ensures.entries
    (turned-front c.args.node c.args.rect.now c.args.self.now.names.entries c.in-Some.key.now c.in-Some._name.now c.requires.distinct
    (sym c.in-Some.ensures) (search rules) rest e whole)

pub returns-clause-over : goal.returns-clause-over
returns-clause-over g c =
    rw c.promote.ensures.entries
    (cache-promoted c.in-Some.key.now c.args.self.now.names.entries c.args.self.now.names.cap c.args.self.now.names.cap c.args.self.now.capacity
    (g.C.ChainMeaning.held c.args.chain.now) c.requires refl
    (rw c.promote.ensures.entries at c.len.ensures.valid.0) (rw c.promote.ensures.entries at c.len.ensures.valid.1))

pub returns-clause-given_up : goal.returns-clause-given_up
returns-clause-given_up g c =
    rw c.promote.ensures.entries
    (gives_up-reads (g.C.ChainMeaning.held c.args.chain.now) (g.C.ChainMeaning.held c.args.chain.now)
    (g.C.ChainMeaning.counts c.args.chain.now) (g.C.ChainMeaning.counts c.args.chain.now) _ _ refl
    (gives_up-none (g.C.ChainMeaning.held c.args.chain.now) (g.C.ChainMeaning.counts c.args.chain.now) (values_of c.args.self.now.names.entries)).grows
    (times-promoted (same_key c.in-Some.key.now) c.args.self.now.names.entries)
    (length-promoted (same_key c.in-Some.key.now) c.args.self.now.names.entries))
