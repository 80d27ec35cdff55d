-- Images whose samples are in memory one by one.
use Rattle.std.specs.Prelude.{ℕ, ◌<◌, ◌≤◌, List, slice_index}
use Rattle.plane_rect.specs.Rectangle.{InLimits, IsRectangle, plane_side}
use Rattle.pixel_formats.specs.Format.{max_sample}
use Rattle.pixel_formats.specs.declared.format.Format.{Format}
use Rattle.model_images.specs.Image.{Image, IsImage}

-- none of these samples is above the largest of a format
abbrev pub AreSamples : Format → List ℕ → Type 0
AreSamples format samples = (k : ℕ) → slice_index samples k ≤ max_sample format

-- an image over a rectangle in limits, none of whose samples is above the largest of its format
pub record IsPicture (image : Image) : Type 0 where
  pub rectangle : IsRectangle image.box
  pub limits : InLimits image.box
  pub whole : IsImage image
  pub range : AreSamples image.format image.samples

-- the position of a column and a row is in the plane
abbrev pub IsPosition : ℕ → ℕ → Type 0
IsPosition u v = (u < plane_side) × (v < plane_side)
