-- Patches into which bands of the rows of tiles are put.
use Rattle.std.specs.Prelude.{◌≡◌, ℕ, ◌+◌, ◌*◌, ◌%◌, ◌<◌, ◌⊎◌, All, Contains, List}
use Rattle.plane_rect.specs.Rectangle.{Inside, Rectangle}
use Rattle.plane_rect.specs.Tile.{Tile, tile_at}
use Rattle.pixel_formats.specs.Format.{channels}
use Rattle.model_images.specs.Image.{Image, at}
use Rattle.model_images.specs.Raw.{tile_bytes}
use Rattle.op_contracts.specs.TileList.{tiles_in}

-- the eight rows of a tile that follow so many bands of it
abbrev pub band_of : Tile → ℕ → Rectangle
band_of t band = record { first_column = 64 * t.column; first_row = 64 * t.row + 8 * band; width = 64; height = 8 }

-- the tiles have the bytes of an image's
abbrev pub AreOfImage : Image → List (Tile × List ℕ) → Type 0
AreOfImage image entries = All (λ (entry : Tile × List ℕ). entry.1 ≡ tile_bytes image entry.0) entries

-- So many bands of each tile were put: each sample is the image's, or the one that was there before, and then its
-- position is in no tile or in a later band.
pub record HasBands (image old : Image) (entries : List (Tile × List ℕ)) (bands : ℕ) (new : Image) : Type 0 where
  pub samples : (u v c : ℕ) → Inside u v new.box → c < channels new.format →
      (at new u v c ≡ at image u v c)
      ⊎ ((at new u v c ≡ at old u v c) × (v % 64 < 8 * bands → Contains (tiles_in entries) (tile_at u v) → ⊥))
