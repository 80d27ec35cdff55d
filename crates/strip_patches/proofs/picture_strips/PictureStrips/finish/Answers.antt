use Rattle.std.proofs.Common.{length, refl, sym, subst}
use Rattle.model_images.specs.Image.{Image}
use Rattle.model_images.specs.Level.{level}
use Rattle.model_images.proofs.LevelLaws.{level-zero}
use Rattle.plane_rect.specs.Tile.{strip_rectangles}
use Rattle.strip_patches.specs.Pictures.{HasRows}
use Rattle.strip_patches.specs.Shown.{HasStripsOf, Shows, level_in, rect_in, source_in}
use Rattle.strip_patches.specs.declared.picture.Picture.TheVariants.{Tiles}
use Rattle.strip_patches.specs.declared.picture_strips.PictureStrips.{PictureStrips}
use Rattle.strip_patches.proofs.picture_strips.PictureStrips.finish.Goals as goal

pub returns-in-Tiles-clause-image : goal.returns-in-Tiles-clause-image
returns-in-Tiles-clause-image c =
    let tiled = c.in-Tiles.tiled in
    subst
    (λ (strips : PictureStrips). (image : Image) → HasStripsOf image (length (strip_rectangles (source_in strips))) strips
    → Shows (level image (level_in strips)) (rect_in strips) (Tiles tiled))
    (sym c.in-Tiles.is)
    (λ image has. (refl, subst (λ (shown : Image). HasRows shown (length (strip_rectangles tiled.rect)) tiled) (sym (level-zero image)) has))
