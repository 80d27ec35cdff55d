-- Levels of images whose tiles are lacking.
use Rattle.std.proofs.Common.{◌≡◌, ℕ, ◌*◌, List, replicate, Option, None, ◌∙◌, ap}
use Rattle.std.specs.Option.{option_map_or}
use Rattle.std.proofs.lemmas.Bool.{cases_lt}
use Rattle.plane_rect.specs.Rectangle.{IsRectangle, Rectangle}
use Rattle.plane_rect.specs.Tile.{Tile, tile_at, tile_square}
use Rattle.pixel_formats.specs.Format.{channels, pixel_bytes}
use Rattle.pixel_formats.specs.declared.format.Format.{Format}
use Rattle.model_images.specs.FromRaw.{pixels_from_raw}
use Rattle.model_images.specs.Image.{at}
use Rattle.model_images.specs.Level.{level, tile_at_level}
use Rattle.model_images.specs.Raw.{tile_bytes}
use Rattle.model_images.specs.Tiles.{HeldTiles, held_image, held_pixels}
use Rattle.model_images.proofs.AgreeingLevels.{Inside-source_of_tile, level-zeros}
use Rattle.model_images.proofs.Laws.{at-image_from_fn, at_no_channel, at_outside}
use Rattle.model_images.proofs.Positions.{by_positions}
use Rattle.std.proofs.Common.{inl, inr}

-- a position of a tile that isn't held is 0
lacking-zero : (box : Rectangle) (format : Format) (held : HeldTiles) (u v c : ℕ) → held (tile_at u v) ≡ None → at (held_image box format held) u v c ≡ 0
lacking-zero box format held u v c none =
    by_positions _ u v box
    (λ inside. elim (cases_lt c (channels format)) [
      | inl known ↦ at-image_from_fn box format (held_pixels format held) u v c inside known
          ∙ ap (λ (o : Option (List ℕ)). option_map_or (λ bytes. pixels_from_raw (tile_square (tile_at u v)) format bytes u v c) o 0) none
      | inr beyond ↦ at_no_channel (held_image box format held) u v c beyond
    ])
    (λ out. at_outside (held_image box format held) u v c out)

pub level-lacking : (box : Rectangle) (format : Format) (held : HeldTiles) (z : ℕ) (tile : Tile) → IsRectangle box
    → ((other : Tile) → tile_at_level other z ≡ tile → held other ≡ None)
    → tile_bytes (level (held_image box format held) z) tile ≡ replicate (4096 * pixel_bytes format) 0
level-lacking box format held z tile is lacking =
    level-zeros (held_image box format held) z (tile_square tile) is
    (λ u v c source. lacking-zero box format held u v c (lacking (tile_at u v) ((Inside-source_of_tile u v tile z).0 source)))
