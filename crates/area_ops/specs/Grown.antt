-- Parts of images that are grown by a radius, and what of them is in the image's box.
use Rattle.std.specs.Prelude.{ℕ, ◌+◌, ◌-◌, ◌*◌, ◌<◌, ◌≤◌, List, length, max, min}
use Rattle.plane_rect.specs.Rectangle.{Rectangle, end_column, end_row, spanning}
use Rattle.pixel_formats.specs.Format.{channels, depth}
use Rattle.pixel_formats.specs.declared.abyss.Abyss.{Abyss}
use Rattle.model_images.specs.Image.{Image}
use Rattle.model_operations.specs.Windows.{read_before}
use Rattle.area_kernels.specs.Parts.{HoldsPart, grown}

-- the positions of a box that are in a part grown by a radius
abbrev pub near_part : ℕ → Rectangle → Rectangle → Rectangle
near_part radius box part =
    spanning
    (max (part.first_column - radius) box.first_column)
    (max (part.first_row - radius) box.first_row)
    (min (end_column part + radius) (end_column box))
    (min (end_row part + radius) (end_row box))

-- a rectangle in columns and rows that count from those with which a part begins that is grown by a radius
abbrev pub counted_part : ℕ → Rectangle → Rectangle → Rectangle
counted_part radius part r =
    spanning
    (r.first_column + radius - part.first_column)
    (r.first_row + radius - part.first_row)
    (end_column r + radius - part.first_column)
    (end_row r + radius - part.first_row)

-- Some position of a box is in a part grown by a radius.
pub record IsNear (radius : ℕ) (box part : Rectangle) : Type 0 where
  pub columns : max (part.first_column - radius) box.first_column < min (end_column part + radius) (end_column box)
  pub rows : max (part.first_row - radius) box.first_row < min (end_row part + radius) (end_row box)

-- A rectangle is in a part grown by a radius.
pub record IsPartNear (radius : ℕ) (part r : Rectangle) : Type 0 where
  pub first_column : part.first_column ≤ r.first_column + radius
  pub first_row : part.first_row ≤ r.first_row + radius
  pub end_column : end_column r ≤ end_column part + radius
  pub end_row : end_row r ≤ end_row part + radius

-- Rows of bytes have what is read of an image under a policy for a part grown by a radius, and at least sixteen samples
-- after it.
pub record HoldsGrown (image : Image) (radius : ℕ) (policy : Abyss) (part : Rectangle) (bytes : List ℕ) : Type 0 where
  pub room : depth image.format * (grown radius part.height * (grown radius part.width * channels image.format) + 16) ≤ length bytes
  pub samples : HoldsPart image.format (grown radius part.width) (grown radius part.height) bytes (read_before radius image policy)
      part.first_column part.first_row
