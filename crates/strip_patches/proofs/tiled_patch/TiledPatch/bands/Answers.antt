use Rattle.std.proofs.Common.{◌≡◌, length, sym, ap, arith}
use Rattle.plane_rect.specs.Tile.{strip_rectangles}
use Rattle.strip_patches.specs.Pictures.{TiledRect}
use Rattle.strip_patches.proofs.Adding.{length-strips}
use Rattle.strip_patches.proofs.tiled_patch.TiledPatch.bands.Goals as goal

pub returns : goal.returns
returns c =
    let rect = c.self.inside.rect in
    let same : length (strip_rectangles c.args.self.now.rect) ≡ length (strip_rectangles rect) =
    ap (λ (t : TiledRect). length (strip_rectangles t.rect)) (sym c.self.view_is) in
    omega (arith, same, length-strips rect)
