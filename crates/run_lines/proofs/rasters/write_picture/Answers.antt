use Rattle.std.proofs.Common.{subst}
use Rattle.plane_rect.specs.Rectangle.{IsRectangle}
use Rattle.run_lines.proofs.PictureWrites.{patch-bytes, tiles-bytes, tiles-rows}
use Rattle.strip_patches.specs.Pictures.{TiledRect}
use Rattle.run_lines.proofs.rasters.write_picture.Goals as goal

pub returns-in-Patch-clause-leaves : goal.returns-in-Patch-clause-leaves
returns-in-Patch-clause-leaves g c = λ known text shows. (
  c.raw_bytes.result.now,
  patch-bytes known c.args.picture c.in-Patch.patch c.raw_bytes.result.now c.in-Patch.is shows c.raw_bytes.ensures.value c.raw_bytes.ensures.count,
  c.write_file.ensures.leaves text,
)

pub returns-in-Tiles-clause-leaves : goal.returns-in-Tiles-clause-leaves
returns-in-Tiles-clause-leaves g c = λ known text shows.
    let tiled = c.in-Tiles.tiled in
    let left = c.write_bands.ensures.leaves known text (tiles-rows known c.args.picture tiled c.in-Tiles.is shows) in
    let plane = subst (λ (t : TiledRect). IsRectangle t.rect) c.tiled.view_is c.tiled.invariant.rectangle in
    (left.0, tiles-bytes known c.args.picture tiled left.0 c.in-Tiles.is plane left.1, left.2)
