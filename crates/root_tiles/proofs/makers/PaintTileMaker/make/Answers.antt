use Rattle.model_images.specs.TileCounts.{tile_count}
use Rattle.root_tiles.specs.Paints.{paint_pixels}
use Rattle.root_tiles.proofs.Making.{makes-all}
use Rattle.root_tiles.proofs.makers.PaintTileMaker.make.Goals as goal

pub returns-clause-made : goal.returns-clause-made
returns-clause-made g c =
    let root = c.args.root.now in
    let rect = c.args.rect in
    makes-all root rect (paint_pixels root.tiles.format rect c.args.self.now) (tile_count rect) _ _ c.args.made.now.entries c.make_tiles.new.made.entries
    c.requires.none c.requires.over c.make_tiles.ensures.made
