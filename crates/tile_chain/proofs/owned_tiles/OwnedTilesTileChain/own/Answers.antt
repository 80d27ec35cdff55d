use Rattle.std.proofs.Common.{arith}
use Rattle.tile_chain.proofs.Owning.{held_over, counted-set, owned-held, stopped-held}
use Rattle.tile_chain.proofs.owned_tiles.OwnedTilesTileChain.own.Goals as goal

pub invariant_of-self : goal.invariant_of-self
invariant_of-self g c = record {
  counted = counted-set (held_over g.D.SwapDisk.blocks c.args.self.now.tiles) c.args.self.now.owners c.args.name c.args.self.now.counted c.set.new.self _ c.requires c.set.ensures;
}

pub returns-then-count-lt4294967295-clause-held : goal.returns-then-count-lt4294967295-clause-held
returns-then-count-lt4294967295-clause-held g c =
    owned-held (held_over g.D.SwapDisk.blocks c.args.self.now.tiles) c.args.self.now.owners c.set.new.self c.args.name c.owners-count.result c.owners-count.ensures.owners (omega arith) c.set.ensures

pub returns-else-count-lt4294967295-clause-held : goal.returns-else-count-lt4294967295-clause-held
returns-else-count-lt4294967295-clause-held g c =
    stopped-held (held_over g.D.SwapDisk.blocks c.args.self.now.tiles) c.args.self.now.owners c.args.self.now.owners c.args.name c.owners-count.result c.owners-count.ensures.owners (omega arith) (omega arith)
