use Rattle.std.proofs.Common.{rules, ◌≡◌, List, ℕ, replicate, refl, subst}
use Rattle.std.specs.Prelude.{IsTrue}
use Rattle.model_images.specs.FromRaw.{image_from_raw}
use Rattle.model_images.specs.Paint.{put_raw}
use Rattle.plane_rect.specs.Tile.{tile_square}
use Rattle.root_tiles.proofs.Cut.{tile-cut}
use Rattle.root_tiles.proofs.cutting.Raster.cut.Goals as goal

pub returns : goal.returns
returns c =
    let raster = c.args.self.now in
    let square = tile_square c.args.at in
    let covered : IsTrue c.is_covered.result = search rules in
    let zeros : c.in_ok-zeros.zeros.items ≡ replicate c.tile_len.result 0 = search rules in
    let put : List ℕ → Type 0 = λ start. image_from_raw square raster.format c.in_ok-tile.tile ≡ put_raw (image_from_raw square raster.format start) raster.rect raster.bytes.now in
    record {
      at = refl;
      tile = tile-cut raster c.args.at c.tile_len.result c.in_ok-tile.tile c.requires.raster (c.is_covered.ensures covered c.requires.whole) c.in_ok-tile.ensures.length
          (subst put zeros c.in_ok-tile.ensures.painted);
    }
