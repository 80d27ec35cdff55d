use Rattle.model_images.specs.FromRaw.{pixels_from_raw}
use Rattle.model_images.specs.TileCounts.{tile_count}
use Rattle.root_tiles.proofs.Making.{makes-all}
use Rattle.root_tiles.proofs.makers.SplitRawTileMaker.make.Goals as goal

pub returns-clause-made : goal.returns-clause-made
returns-clause-made g c =
    let root = c.args.root.now in
    let rect = c.args.rect in
    makes-all root rect (pixels_from_raw rect root.tiles.format c.args.self.now.bytes.now) (tile_count rect) _ _ c.args.made.now.entries c.make_raw.new.made.entries
    c.requires.none c.requires.over c.make_raw.ensures.made
