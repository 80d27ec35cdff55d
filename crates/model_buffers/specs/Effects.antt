-- What edits change, known by the images of buffers alone.
use Rattle.std.specs.Prelude.{◌≡◌, ◌≢◌, ℕ, ◌+◌, ◌<◌, List, length, Some, None}
use Rattle.plane_rect.specs.Rectangle.{Rectangle, Inside}
use Rattle.pixel_formats.specs.Format.{channels}
use Rattle.pixel_formats.specs.Row.{Pixel}
use Rattle.model_images.specs.Agreement.{AgreeOutside}
use Rattle.model_images.specs.Image.{Image, at}
use Rattle.model_buffers.specs.Layout.{find}
use Rattle.model_buffers.specs.Table.{Table, image_of, root_of}

-- A new buffer has an image, and the others are as they were.
pub record IsAdded (table : Table) (name : List ℕ) (image : Image) (after : Table) : Type 0 where
  pub new : find table.buffers name ≡ None
  pub shows : image_of after name ≡ image
  pub others : (other : List ℕ) → other ≢ name → image_of after other ≡ image_of table other
  pub roots : (other : List ℕ) → other ≢ name → root_of after other ≡ root_of table other
  pub count : length after.buffers ≡ length table.buffers + 1

-- A buffer's root bears its name, and no other buffer sees it.
pub record HasOwnRoot (table : Table) (name : List ℕ) : Type 0 where
  pub root : root_of table name ≡ Some name
  pub alone : (other : List ℕ) → other ≢ name → root_of table other ≢ Some name

-- an image has f's samples over a rectangle, as far as its box goes
abbrev pub ShowsOver : Rectangle → (ℕ → ℕ → Pixel) → Image → Type 0
ShowsOver rectangle f image =
    (u v c : ℕ) → Inside u v rectangle → Inside u v image.box → c < channels image.format → at image u v c ≡ f u v c

-- A buffer shows f's samples at each position of a rectangle, and so do the buffers of its root as far as their boxes go.
-- All other samples of all buffers are as they were.
pub record IsWritten (table : Table) (name : List ℕ) (rectangle : Rectangle) (f : ℕ → ℕ → Pixel) (after : Table) : Type 0 where
  pub named : (u v c : ℕ) → Inside u v rectangle → c < channels (image_of table name).format → at (image_of after name) u v c ≡ f u v c
  pub shown : (other : List ℕ) → root_of table other ≡ root_of table name → ShowsOver rectangle f (image_of after other)
  pub elsewhere : (other : List ℕ) → AgreeOutside (image_of table other) (image_of after other) rectangle
  pub other_roots : (other : List ℕ) → root_of table other ≢ root_of table name → image_of after other ≡ image_of table other
  pub roots : (other : List ℕ) → root_of after other ≡ root_of table other
