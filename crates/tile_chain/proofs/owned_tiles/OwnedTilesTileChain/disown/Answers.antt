use Rattle.std.proofs.Common.{arith, [], refl}
use Rattle.tile_chain.proofs.Owning.{held_over, counted-removed, counted-set, fewer-held, grows-removed, kept-held, last-held}
use Rattle.tile_chain.proofs.owned_tiles.OwnedTilesTileChain.disown.Goals as goal

pub returns-then-count-clause-held : goal.returns-then-count-clause-held
returns-then-count-clause-held g c =
    kept-held (held_over g.D.SwapDisk.blocks c.args.self.now.tiles) c.args.self.now.owners c.args.self.now.owners c.args.name c.owners-count.result c.owners-count.ensures.owners (omega arith)

pub invariant_of-self : goal.invariant_of-self
invariant_of-self g c = record {
  counted = counted-set (held_over g.D.SwapDisk.blocks c.args.self.now.tiles) c.args.self.now.owners c.args.name c.args.self.now.counted c.set.new.self _ c.requires c.set.ensures;
}

pub returns-then-count-gt1-clause-held : goal.returns-then-count-gt1-clause-held
returns-then-count-gt1-clause-held g c =
    fewer-held (held_over g.D.SwapDisk.blocks c.args.self.now.tiles) c.args.self.now.owners c.set.new.self c.args.name c.owners-count.result c.owners-count.ensures.owners (λ most. absurd (omega arith)) (omega arith)
    c.set.ensures

pub invariant_of-self-2 : goal.invariant_of-self-2
invariant_of-self-2 g c = record {
  counted = counted-removed (held_over g.D.SwapDisk.blocks c.args.self.now.tiles) c.args.self.now.owners c.args.name c.args.self.now.counted (held_over g.D.SwapDisk.blocks c.forget.new.self) c.remove.new.self c.forget.ensures.held c.remove.ensures;
}

pub returns-clause-held : goal.returns-clause-held
returns-clause-held g c =
    last-held (held_over g.D.SwapDisk.blocks c.args.self.now.tiles) c.args.self.now.owners c.remove.new.self c.args.name c.owners-count.result c.owners-count.ensures.owners (held_over g.D.SwapDisk.blocks c.forget.new.self) (omega arith)
    c.forget.ensures.held c.remove.ensures

pub returns-clause-counts : goal.returns-clause-counts
returns-clause-counts g c =
    grows-removed _ _ (held_over g.D.SwapDisk.blocks c.args.self.now.tiles) (held_over g.D.SwapDisk.blocks c.forget.new.self) c.args.name [] refl refl c.forget.ensures.continues c.forget.ensures.held
