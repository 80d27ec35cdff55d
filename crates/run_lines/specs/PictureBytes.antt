-- The bytes that are written of pictures.
use Rattle.std.specs.Prelude.{◌≡◌, ℕ, IfSome, List, Option, Result, drop, length}
use Rattle.std.specs.List.{flat_map, sum_by}
use Rattle.model_images.specs.FromRaw.{byte_count}
use Rattle.model_images.specs.Image.{Image}
use Rattle.model_images.specs.Raw.{raw}
use Rattle.model_runs.specs.Ending.{Leaves}
use Rattle.model_runs.specs.declared.ending.End.{End}
use Rattle.pixel_formats.specs.declared.format.Format.{Format}
use Rattle.plane_rect.specs.Rectangle.{Rectangle}
use Rattle.plane_rect.specs.Tile.{strip_rectangles}
use Rattle.model_runs.specs.Events.{Outcome}
use Rattle.model_runs.specs.World.{World}
use Rattle.strip_patches.specs.Pictures.{HasRows, TiledRect}

-- Bytes of a rectangle of a picture: as many as it has, and those of the image that it shows, where one is known.
pub record AreBytesOf (known : Option Image) (rect : Rectangle) (format : Format) (bytes : List ℕ) : Type 0 where
  pub count : length bytes ≡ byte_count rect format
  pub image : IfSome known (λ image. bytes ≡ raw image rect)

-- The same of rectangles one after another.
pub record AreBandsOf (known : Option Image) (rects : List Rectangle) (format : Format) (bytes : List ℕ) : Type 0 where
  pub count : length bytes ≡ sum_by (λ rect. byte_count rect format) rects
  pub image : IfSome known (λ image. bytes ≡ flat_map (raw image) rects)

-- Bytes that the bands of tiles may have, below the first so many: those of whatever image the tiles are known to be of.
abbrev pub HaveBands : TiledRect → ℕ → List ℕ → Type 0
HaveBands tiled count bytes =
    (known : Option Image) → IfSome known (λ image. HasRows image (length (strip_rectangles tiled.rect)) tiled) →
    AreBandsOf known (drop count (strip_rectangles tiled.rect)) tiled.format bytes

-- What is left where there is to be an outcome with bytes of a picture in it.
abbrev pub LeavesBytes : Option Image → Rectangle → Format → (List ℕ → Outcome) → Result (Unit {0}) End → World → World → Type 0
LeavesBytes known rect format outcome result old new =
    (bytes : List ℕ) × AreBytesOf known rect format bytes × Leaves (outcome bytes) result old new

-- The same where it is of rectangles.
abbrev pub LeavesBands : Option Image → List Rectangle → Format → (List ℕ → Outcome) → Result (Unit {0}) End → World → World → Type 0
LeavesBands known rects format outcome result old new =
    (bytes : List ℕ) × AreBandsOf known rects format bytes × Leaves (outcome bytes) result old new
