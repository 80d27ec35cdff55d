use Rattle.std.proofs.Common.{sym, subst}
use Rattle.model_buffers.specs.Layout.{facts_of}
use Rattle.op_contracts.specs.Sources.{HasBufferLength, IsTileOf}
use Rattle.buffer_view.specs.BufferTables.{buffer_images}
use Rattle.buffer_view.specs.RecentTiles.{AreRecentOver}
use Rattle.buffer_view.specs.declared.recent_tiles.GivenTile.{GivenTile}
use Rattle.buffer_view.proofs.RecentTiles.{kept-over}
use Rattle.buffer_view.proofs.sources.BufferTilesSourceTiles.tile.Given
use Rattle.buffer_view.proofs.sources.BufferTilesSourceTiles.tile.Goals.{After-keep}
use Rattle.buffer_view.proofs.sources.BufferTilesSourceTiles.tile.Goals as goal

-- the tile is kept beside those that were given before, or nothing is
module _ (g : Given.Over) (c : After-keep g) where
  over : AreRecentOver c.args.self.now.buffers.now c.keep.new.self (g.C.ChainMeaning.held c.buffer_tile.new.chain)
  over =
      let buffers = c.args.self.now.buffers.now in
      let held = g.C.ChainMeaning.held c.args.chain.now in
      let given : GivenTile = record { buffer = c.args.buffer; at = c.args.at; tile = c.in_ok-share-2.share } in
      kept-over buffers c.args.self.now.recent c.keep.new.self given held (g.C.ChainMeaning.held c.buffer_tile.new.chain) c.in_ok-tile.ensures.read.held c.keep.ensures c.requires.over (
        subst (IsTileOf (buffer_images buffers held) c.args.buffer c.args.at) (sym c.in_ok-share-2.ensures) c.in_ok-tile.ensures.bytes,
        subst (HasBufferLength (facts_of buffers.layout) c.args.buffer) (sym c.in_ok-share-2.ensures) c.in_ok-tile.ensures.length,
      )

pub returns-in_err-keep-clause-over : goal.returns-in_err-keep-clause-over
returns-in_err-keep-clause-over g c = over g (goal.at.returns-in_err-keep-clause-over g c).After-keep

pub returns-clause-over : goal.returns-clause-over
returns-clause-over g c = over g (goal.at.returns-clause-over g c).After-keep
