use Rattle.std.proofs.Common.{sym, ◌∙◌}
use Rattle.tile_chain.proofs.Moves.{has-above, has-below}
use Rattle.tile_chain.proofs.cache_handler.CacheHandlerTileHandler.has.Goals as goal

pub returns-then-contains : goal.returns-then-contains
returns-then-contains g c =
    c.if-contains.true
    ∙ sym (has-above c.args.self.now.tiles.entries c.args.name (g.H.ChainMeaning.held c.args.self.now.below) (sym c.contains.ensures ∙ c.if-contains.true))

pub returns-else-contains : goal.returns-else-contains
returns-else-contains g c =
    c.has.ensures
    ∙ sym (has-below c.args.self.now.tiles.entries c.args.name (g.H.ChainMeaning.held c.args.self.now.below) (sym c.contains.ensures ∙ c.if-contains.false))
