use Rattle.std.proofs.Common.{◌≡◌, ◌+◌, None, length, refl, ap₂, rules}
use Rattle.std.specs.FinMap as map
use Rattle.chain_owners.specs.Held.{with_tile}
use Rattle.tile_chain.specs.OwnedTiles.{with_counts}
use Rattle.tile_chain.proofs.Owning.{held_over, added-removed, cause-crowded, counted-added, counted-same, grows-added, len-added}
use Rattle.tile_chain.proofs.owned_tiles.OwnedTilesTileChain.new_name.Goals as goal

pub invariant_of-self-in-Ok : goal.invariant_of-self-in-Ok
invariant_of-self-in-Ok g c = record {
  counted = counted-added (held_over g.D.SwapDisk.blocks c.args.self.now.tiles) c.args.self.now.owners c.in_ok-name.name c.args.self.now.counted (held_over g.D.SwapDisk.blocks c.put.new.self) c.add.new.self c.args.tile
      c.in-Ok.ensures.put c.in_ok-add.ensures.added;
}

pub returns-in-Ok-clause-counts : goal.returns-in-Ok-clause-counts
returns-in-Ok-clause-counts g c =
    grows-added _ _ (held_over g.D.SwapDisk.blocks c.args.self.now.tiles) (held_over g.D.SwapDisk.blocks c.put.new.self) c.in_ok-name.name c.args.tile refl refl c.put.ensures.continues c.in-Ok.ensures.put

pub invariant_of-self-in-Err : goal.invariant_of-self-in-Err
invariant_of-self-in-Err g c =
    let none : map.get c.args.self.now.owners c.in_ok-name.name ≡ None = search rules in
    record {
      counted = counted-same (held_over g.D.SwapDisk.blocks c.args.self.now.tiles) (held_over g.D.SwapDisk.blocks c.put.new.self) c.args.self.now.owners c.remove.new.self c.args.self.now.counted c.in-Err.ensures.unchanged
          (added-removed c.args.self.now.owners c.add.new.self c.remove.new.self c.in_ok-name.name none c.in_ok-add.ensures.added c.remove.ensures);
    }

pub returns-clause-unchanged : goal.returns-clause-unchanged
returns-clause-unchanged g c =
    let none : map.get c.args.self.now.owners c.in_ok-name.name ≡ None = search rules in
    ap₂ with_counts c.in-Err.ensures.unchanged
    (added-removed c.args.self.now.owners c.add.new.self c.remove.new.self c.in_ok-name.name none c.in_ok-add.ensures.added c.remove.ensures)

pub returns-clause-cause : goal.returns-clause-cause
returns-clause-cause g c =
    cause-crowded _ _ (length c.put.new.self.below.tiles.entries) (map.len (with_tile (held_over g.D.SwapDisk.blocks c.args.self.now.tiles) c.in_ok-name.name c.args.tile).lengths)
    (map.len (held_over g.D.SwapDisk.blocks c.args.self.now.tiles).lengths + 1) c.in-Err.refused c.put.ensures.continues c.in-Err.ensures.cause c.in-Err.ensures.resident
    (len-added (held_over g.D.SwapDisk.blocks c.args.self.now.tiles) c.in_ok-name.name c.args.tile)
