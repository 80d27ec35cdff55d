use Rattle.std.proofs.Common.{get_or}
use Rattle.pixel_formats.specs.Format.{depth}
use Rattle.pixel_formats.specs.Row.{sample_at}
use Rattle.root_tiles.proofs.Solid.{written-same}
use Rattle.root_tiles.proofs.root.Root.fill.Goals as goal

pub returns : goal.returns
returns g c =
    written-same c.write.result c.args.rect (λ u v k. sample_at (depth c.args.self.now.tiles.format) c.in_ok-tile.tile k) (λ u v k. get_or c.args.samples.now k 0) _ _ _ _
    (λ u v k known. c.in_ok-tile.ensures.samples k known) c.write.ensures
