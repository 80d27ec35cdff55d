use Rattle.std.proofs.Common.{sym, ◌∙◌}
use Rattle.tile_chain.proofs.Moves.{reads-found}
use Rattle.tile_chain.proofs.cache_handler.CacheHandlerTileHandler.get.Goals as goal

pub returns-in-Some-clause-read : goal.returns-in-Some-clause-read
returns-in-Some-clause-read g c =
    reads-found c.args.self.now.tiles.entries c.args.name c.args.len c.in-Some.tile (g.H.ChainMeaning.held c.args.self.now.below)
    (sym c.in_ok-tile.ensures.found ∙ c.in-Some.is) c.requires.known
