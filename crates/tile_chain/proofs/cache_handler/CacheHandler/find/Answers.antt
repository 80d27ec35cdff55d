use Rattle.tile_chain.proofs.Moves.{promoted-laws}
use Rattle.tile_chain.proofs.Overlays.{overlay-promoted}
use Rattle.tile_chain.proofs.cache_handler.CacheHandler.find.Goals as goal

pub invariant_of-self : goal.invariant_of-self
invariant_of-self g c = record {
  cached = rw c.promote.ensures.entries
      (promoted-laws c.args.self.now.tiles.entries c.args.self.now.tiles.cap c.args.name (g.H.ChainMeaning.held c.args.self.now.below)
      c.args.self.now.cached);
}

pub returns-clause-held : goal.returns-clause-held
returns-clause-held g c =
    rw c.promote.ensures.entries (overlay-promoted c.args.name c.args.self.now.tiles.entries (g.H.ChainMeaning.held c.args.self.now.below))
