-- The part of a box by which alone a rectangle can be read under a policy.
use Rattle.std.specs.Prelude.{◌≡◌, ℕ, ◌+◌, ◌-◌, ◌<◌, ◌≤◌}
use Rattle.model_images.specs.Abyss.{abyss_at, wrapped}
use Rattle.model_images.specs.Image.{Image, at, image_from_fn}
use Rattle.model_images.specs.Paint.{cut}
use Rattle.pixel_formats.specs.Format.{channels}
use Rattle.pixel_formats.specs.declared.abyss.Abyss.{Abyss}
use Rattle.plane_rect.specs.Rectangle.{Includes, Inside, IsRectangle, Rectangle, plane_side}
use Rattle.view_reads.specs.declared.policies.Side.{Side}
use Rattle.view_reads.specs.declared.policies.Source.{Source}

-- the image with its pixels in their order at another rectangle of as many columns and rows
abbrev pub moved : Image → Rectangle → Image
moved image box =
    image_from_fn box image.format
    (λ u v. at image (u - box.first_column + image.box.first_column) (v - box.first_row + image.box.first_row))

-- A part of a box, put at a rectangle of its size, has for each image over the box the samples that a policy gives in a
-- rectangle.
pub record IsEnough (policy : Abyss) (box r : Rectangle) (source : Source) : Type 0 where
  pub rectangle : IsRectangle box → IsRectangle source.part
  pub inside : Includes box source.part
  pub width : source.placed.width ≡ source.part.width
  pub height : source.placed.height ≡ source.part.height
  pub samples : (image : Image) (u v c : ℕ) → image.box ≡ box → Inside u v r → c < channels image.format
      → abyss_at (moved (cut image source.part) source.placed) policy u v c ≡ abyss_at image policy u v c

-- Along one side of a box of so many columns or rows, a part put elsewhere has what is there periodically of so many from a
-- first one on.
pub record IsLoopSide (start len first count : ℕ) (side : Side) : Type 0 where
  pub some : 0 < side.count
  pub low : start ≤ side.from
  pub high : side.from + side.count ≤ start + len
  pub plane : side.to + side.count ≤ plane_side
  pub same : (n : ℕ) → first ≤ n → n < first + count → wrapped side.to side.count n - side.to + side.from ≡ wrapped start len n
