use Rattle.std.proofs.Common.{subst, sym}
use Rattle.std.specs.Prelude.{All}
use Rattle.plane_rect.specs.Tile.{IsWhole}
use Rattle.root_tiles.specs.Cutting.{IsCutTile, raster_cutting}
use Rattle.root_tiles.proofs.Cut.{All-both, All-cut}
use Rattle.root_tiles.proofs.cut_tiles.CutTiles.refill.Goals as goal

pub returns-in_ok-batch-clause-cut : goal.returns-in_ok-batch-clause-cut
returns-in_ok-batch-clause-cut g c =
    let raster = c.args.self.now.raster.now in
    let positions = c.in_ok-positions.positions.items in
    record {
      bytes = c.requires.bytes;
      whole = (All-both IsWhole positions c.take_positions.new.tiles (subst (All IsWhole) c.in_ok-positions.ensures c.requires.whole)).1;
      cut = subst (All (IsCutTile (raster_cutting raster))) (sym c.into_iter.ensures.rest) (All-cut raster positions c.in_ok-batch.batch.items c.in_ok-batch.ensures);
    }

pub returns-else-covered-tile_len-clause-cut : goal.returns-else-covered-tile_len-clause-cut
returns-else-covered-tile_len-clause-cut g c = record {
  bytes = c.requires.bytes;
  whole = (All-both IsWhole c.in_ok-positions.positions.items c.take_positions.new.tiles (subst (All IsWhole) c.in_ok-positions.ensures c.requires.whole)).1;
  cut = c.requires.cut;
}
