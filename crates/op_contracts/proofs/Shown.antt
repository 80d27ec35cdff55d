-- Samples that windows show.
use Rattle.std.proofs.Common.{◌≡◌, ℕ, suc, ◌+◌, ◌*◌, ◌<◌, List, [], ◌∷◌, Bool, true, false, cond, length, All, Option, Some, ap, ◌∙◌, arith}
use Rattle.std.specs.Map.{lookup}
use Rattle.std.specs.Option.{option_map_or}
use Rattle.plane_rect.specs.Rectangle.{Inside, offset}
use Rattle.plane_rect.specs.Tile.{Tile, same_tile, tile_at, tile_square}
use Rattle.pixel_formats.specs.Format.{channels, depth, pixel_bytes}
use Rattle.pixel_formats.specs.Row.{sample_at}
use Rattle.pixel_formats.specs.declared.format.Format.{Format}
use Rattle.model_images.specs.FromRaw.{pixels_from_raw}
use Rattle.model_images.specs.Image.{at}
use Rattle.model_images.specs.Tiles.{held_pixels}
use Rattle.model_images.proofs.Laws.{at-image_from_fn}
use Rattle.model_graphs.specs.Windows.{HasTileLength, Window, tiles_of, window_image}

-- the sample of a position of the box, by the bytes that the window has of its tile
pub shown-of : (window : Window) (u v c : ℕ) (found : Option (List ℕ)) → Inside u v window.bounds → c < channels window.format
    → tiles_of window (tile_at u v) ≡ found
    → at (window_image window) u v c
    ≡ option_map_or (λ bytes. sample_at (depth window.format) bytes (offset (tile_square (tile_at u v)) u v * channels window.format + c)) found 0
shown-of window u v c found inside known e =
    at-image_from_fn window.bounds window.format (held_pixels window.format (tiles_of window)) u v c inside known
    ∙ ap (λ (o : Option (List ℕ)). option_map_or (λ bytes. pixels_from_raw (tile_square (tile_at u v)) window.format bytes u v c) o 0) e

-- what is found among tiles of one length has that length
first-long : (format : Format) (entry : Tile × List ℕ) (bytes : List ℕ) (rest : Option (List ℕ)) (b : Bool) → HasTileLength format entry
    → (rest ≡ Some bytes → length bytes ≡ 4096 * pixel_bytes format) → cond b (Some entry.1) rest ≡ Some bytes
    → length bytes ≡ 4096 * pixel_bytes format
first-long format entry bytes rest true long others e = let is : entry.1 ≡ bytes = cc in rw (← is) long
first-long format entry bytes rest false long others e = others e

pub found-long : (format : Format) (tile : Tile) (entries : List (Tile × List ℕ)) (bytes : List ℕ) → All (HasTileLength format) entries
    → lookup (same_tile tile) entries ≡ Some bytes → length bytes ≡ 4096 * pixel_bytes format
found-long format tile [] bytes long e = absurd (cc e)
found-long format tile (entry ∷ entries) bytes long e =
    first-long format entry bytes (lookup (same_tile tile) entries) (same_tile tile entry.0) (long 0 entry (omega arith))
    (found-long format tile entries bytes (λ k d below. long (suc k) d (omega (arith, below)))) e
