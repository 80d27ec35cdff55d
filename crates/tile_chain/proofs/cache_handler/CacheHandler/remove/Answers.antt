use Rattle.tile_chain.proofs.Moves.{removed-held, removed-laws}
use Rattle.tile_chain.proofs.cache_handler.CacheHandler.remove.Goals as goal

pub invariant_of-self : goal.invariant_of-self
invariant_of-self g c = record {
  cached = rw c.pop.ensures.entries
      (removed-laws c.args.self.now.tiles.entries c.args.self.now.tiles.cap c.args.name (g.H.ChainMeaning.held c.args.self.now.below)
      (g.H.ChainMeaning.held c.forget_where_there.new.below) c.len.ensures.valid.0 c.forget_where_there.ensures.held c.args.self.now.cached);
}

pub returns-clause-held : goal.returns-clause-held
returns-clause-held g c =
    rw c.pop.ensures.entries
    (removed-held c.args.self.now.tiles.entries c.args.self.now.tiles.cap c.args.name (g.H.ChainMeaning.held c.args.self.now.below)
    (g.H.ChainMeaning.held c.forget_where_there.new.below) c.len.ensures.valid.0 c.forget_where_there.ensures.held)
