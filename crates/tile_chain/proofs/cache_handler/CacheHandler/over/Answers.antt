use Rattle.tile_chain.proofs.Fresh.{fresh-cache}
use Rattle.tile_chain.proofs.cache_handler.CacheHandler.over.Goals as goal

pub invariant_of-result : goal.invariant_of-result
invariant_of-result g c = record {
  cached = fresh-cache c.args.tiles.entries c.requires c.args.tiles.cap (g.H.ChainMeaning.held c.args.below);
}
