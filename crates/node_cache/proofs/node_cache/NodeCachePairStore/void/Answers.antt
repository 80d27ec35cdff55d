use Rattle.node_cache.proofs.Views.{void-cached, void-pairs, void-sizes}
use Rattle.node_cache.proofs.node_cache.NodeCachePairStore.void.Goals as goal

pub returns-clause-pairs : goal.returns-clause-pairs
returns-clause-pairs g c = void-pairs c.args.node c.args.rect c.args.self.now.names.entries c.take_out.new.self.names.entries c.take_out.ensures.entries

pub returns-clause-sizes : goal.returns-clause-sizes
returns-clause-sizes g c =
    void-sizes c.args.node c.args.rect c.args.self.now.names.entries c.take_out.new.self.names.entries c.take_out.ensures.entries (g.C.ChainMeaning.held c.args.chain.now) (g.C.ChainMeaning.held c.take_out.new.chain)
    c.take_out.ensures.given_up.others.exposed c.take_out.ensures.given_up.unchanged

pub returns-clause-cached : goal.returns-clause-cached
returns-clause-cached g c =
    void-cached c.args.node c.args.rect c.args.self.now.names.entries c.take_out.new.self.names.entries c.take_out.ensures.entries (g.C.ChainMeaning.held c.args.chain.now) (g.C.ChainMeaning.held c.take_out.new.chain)
    c.take_out.ensures.given_up.others.exposed c.take_out.ensures.given_up.unchanged

pub returns-clause-others : goal.returns-clause-others
returns-clause-others g c = c.take_out.ensures.given_up.others

pub returns-clause-one_owner : goal.returns-clause-one_owner
returns-clause-one_owner g c = c.take_out.ensures.given_up.one_owner

pub returns-clause-other_names : goal.returns-clause-other_names
returns-clause-other_names g c = c.take_out.ensures.given_up.other_names

pub returns-clause-counts : goal.returns-clause-counts
returns-clause-counts g c = c.take_out.ensures.given_up.grows
