use Rattle.tile_chain.proofs.Moves.{brought-held, brought-laws}
use Rattle.tile_chain.proofs.cache_handler.CacheHandler.bring_in.Goals as goal

pub invariant_of-self : goal.invariant_of-self
invariant_of-self g c = record {
  cached = brought-laws c.args.self.now.tiles.entries c.args.self.now.tiles.cap c.args.name c.in_ok-shared.shared (g.H.ChainMeaning.held c.args.self.now.below)
      c.requires.room (rw c.in_ok-shared.ensures c.requires.known) c.put.result c.put.new.self c.put.ensures.entries c.put.ensures.err c.args.self.now.cached;
}

pub returns-clause-held : goal.returns-clause-held
returns-clause-held g c =
    rw c.in_ok-put.ensures.entries
    (brought-held c.args.self.now.tiles.entries c.args.self.now.tiles.cap c.args.name c.in_ok-shared.shared (g.H.ChainMeaning.held c.args.self.now.below)
    c.requires.room (rw c.in_ok-shared.ensures c.requires.known))
