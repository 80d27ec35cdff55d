use Rattle.std.proofs.Common.{length, refl, ap, is_some, arith}
use Rattle.std.specs.FinMap as map
use Rattle.chain_owners.specs.Held.{with_tile}
use Rattle.tile_chain.proofs.Owning.{held_over, caused-crowded, counted-kept, grows-kept, len-known}
use Rattle.tile_chain.proofs.owned_tiles.OwnedTilesTileChain.rewrite.Goals as goal

pub invariant_of-self : goal.invariant_of-self
invariant_of-self g c = record {
  counted = counted-kept (held_over g.D.SwapDisk.blocks c.args.self.now.tiles) c.args.self.now.owners c.args.name c.args.self.now.counted (held_over g.D.SwapDisk.blocks c.put.new.self) c.args.tile.now c.put.result
      (ap is_some c.requires.known) c.put.ensures.put c.put.ensures.unchanged;
}

pub returns-clause-cause : goal.returns-clause-cause
returns-clause-cause g c =
    let same = len-known (held_over g.D.SwapDisk.blocks c.args.self.now.tiles) c.args.name c.args.tile.now (ap is_some c.requires.known) in
    caused-crowded _ _ (length c.put.new.self.below.tiles.entries) (map.len (with_tile (held_over g.D.SwapDisk.blocks c.args.self.now.tiles) c.args.name c.args.tile.now).lengths)
    (map.len (held_over g.D.SwapDisk.blocks c.args.self.now.tiles).lengths) c.put.result c.put.ensures.continues c.put.ensures.cause c.put.ensures.resident (omega (arith, same))

pub returns-clause-counts : goal.returns-clause-counts
returns-clause-counts g c =
    grows-kept _ _ (held_over g.D.SwapDisk.blocks c.args.self.now.tiles) (held_over g.D.SwapDisk.blocks c.put.new.self) c.args.name c.args.tile.now refl refl c.put.ensures.continues (ap is_some c.requires.known)
    c.put.result c.put.ensures.put c.put.ensures.unchanged
