-- Tiles of buffers whose names are held in a chain.
use Rattle.std.specs.Prelude.{◌≡◌, ℕ, ◌*◌, ◌<◌, List, length, Option, IfSome, IsSome, is_some}
use Rattle.plane_rect.specs.Tile.{Tile}
use Rattle.pixel_formats.specs.Format.{pixel_bytes}
use Rattle.model_images.specs.Raw.{tile_bytes}
use Rattle.model_graphs.specs.Evaluation.{Buffers, buffer_image}
use Rattle.model_graphs.specs.Facts.{AreImagesOf, Facts, fact_of}
use Rattle.chain_owners.specs.Held.{Held}
use Rattle.chain_owners.specs.Owners.{Owns, Unchanged, times}

-- The bytes are those of a tile of a buffer's image, where the images are known.
abbrev pub IsTileOf : Option Buffers → List ℕ → Tile → List ℕ → Type 0
IsTileOf images buffer tile bytes = IfSome images (λ known. bytes ≡ tile_bytes (buffer_image known buffer) tile)

-- The bytes are as many as those of a tile of a buffer's format.
abbrev pub HasBufferLength : Facts → List ℕ → List ℕ → Type 0
HasBufferLength facts buffer bytes =
    IfSome (fact_of facts buffer) (λ fact. length bytes ≡ 4096 * pixel_bytes fact.format)

-- Images that are known are those of the buffers, and they are known where the chain exposes its bytes.
pub record AreExposed (facts : Facts) (held : Held) (images : Option Buffers) : Type 0 where
  pub shapes : IfSome images (AreImagesOf facts)
  pub known : IsSome held.content → IsSome images

-- What a value asks of a chain depends on nothing of the chain but that it owns the names which it holds,
-- and their bytes.
abbrev pub IsFramedCondition : List ℕ → (Held → Type 0) → Type 0
IsFramedCondition names condition =
    (old new : Held) → condition old → is_some new.content ≡ is_some old.content
    → ((name : ℕ) → 0 < times names name → Unchanged old new name) → Owns new names → condition new
