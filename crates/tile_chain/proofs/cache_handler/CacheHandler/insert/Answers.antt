use Rattle.std.proofs.Common.{ap, ◌∙◌}
use Rattle.chain_owners.specs.Held.{with_tile}
use Rattle.tile_chain.specs.Overlay.{overlay}
use Rattle.tile_chain.proofs.Moves.{insert-held, insert-laws}
use Rattle.tile_chain.proofs.cache_handler.CacheHandler.insert.Goals as goal

pub invariant_of-self-2 : goal.invariant_of-self-2
invariant_of-self-2 g c = record {
  cached = rw c.in_ok-put.ensures.entries
      (insert-laws c.args.self.now.tiles.entries c.args.self.now.tiles.cap c.args.name c.in_ok-shared.shared (g.H.ChainMeaning.held c.args.self.now.below)
      (g.H.ChainMeaning.held c.forget_where_there.new.below) c.requires c.forget_where_there.ensures.held c.args.self.now.cached);
}

pub returns-clause-held : goal.returns-clause-held
returns-clause-held g c =
    rw c.in_ok-put.ensures.entries
    (insert-held c.args.self.now.tiles.entries c.args.self.now.tiles.cap c.args.name c.in_ok-shared.shared (g.H.ChainMeaning.held c.args.self.now.below)
    (g.H.ChainMeaning.held c.forget_where_there.new.below) c.requires c.forget_where_there.ensures.held
    ∙ ap (with_tile (overlay c.args.self.now.tiles.entries (g.H.ChainMeaning.held c.args.self.now.below)) c.args.name) c.in_ok-shared.ensures)
