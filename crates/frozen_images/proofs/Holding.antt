-- Tiles that are held one after another.
use Rattle.std.proofs.Common.{◌≡◌, ℕ, ◌*◌, List, Bool, true, false, cond, length, Option, Some, None, Result, Ok, Err, refl, sym, subst}
use Rattle.std.specs.Prelude.{IfOk, IfSome}
use Rattle.std.specs.Map.{lookup}
use Rattle.plane_rect.specs.Rectangle.{Rectangle}
use Rattle.plane_rect.specs.SameTile.{same_tile-true}
use Rattle.plane_rect.specs.Tile.{Tile, same_tile}
use Rattle.pixel_formats.specs.Format.{pixel_bytes}
use Rattle.pixel_formats.specs.declared.format.Format.{Format}
use Rattle.model_images.specs.FromRaw.{AreBytes}
use Rattle.model_images.specs.Tiles.{AreTileBytes, AreZeroOutside}
use Rattle.model_images.specs.Raw.{tile_bytes}
use Rattle.model_images.proofs.HeldTiles.{tile-held, tile-lacking}
use Rattle.frozen_images.specs.Frozen.{AreFrozen, FrozenTiles, bytes_in, frozen_image, zero_bytes}

abbrev frozen : Rectangle → Format → List (Tile × List ℕ) → FrozenTiles
frozen box format tiles = record { box = box; format = format; tiles = tiles }

-- what holds of a tile's bytes and of those that were held holds of those that are
looked-up : (P : List ℕ → Type 0) (b : Bool) (bytes : List ℕ) (before : Option (List ℕ)) → (b ≡ true → P bytes) → IfSome before P → IfSome (cond b (Some bytes) before) P
looked-up P true bytes before one held = one refl
looked-up P false bytes before one held = held

pub frozen-more : (box : Rectangle) (format : Format) (old new : List (Tile × List ℕ)) (at : Tile) (bytes : List ℕ)
    → ((tile : Tile) → lookup (same_tile tile) new ≡ cond (same_tile at tile) (Some bytes) (lookup (same_tile tile) old))
    → AreFrozen (frozen box format old) → length bytes ≡ 4096 * pixel_bytes format → AreBytes bytes → AreZeroOutside box format at bytes
    → AreFrozen (frozen box format new)
frozen-more box format old new at bytes updates are whole small zero = record {
  bytes = λ tile.
      subst (λ (found : Option (List ℕ)). IfSome found (AreTileBytes format)) (sym (updates tile))
      (looked-up (AreTileBytes format) (same_tile at tile) bytes (lookup (same_tile tile) old) (λ same. record { whole = whole; small = small }) (are.bytes tile));
  zero = λ tile.
      subst (λ (found : Option (List ℕ)). IfSome found (AreZeroOutside box format tile)) (sym (updates tile))
      (looked-up (AreZeroOutside box format tile) (same_tile at tile) bytes (lookup (same_tile tile) old)
      (λ same. subst (λ (t : Tile). AreZeroOutside box format t bytes) (same_tile-true at tile same) zero) (are.zero tile));
}

-- what follows of the value of a result
pub on-ok : {X E : Type 0} (result : Result X E) (P Q : X → Type 0) → IfOk result P → ((x : X) → P x → Q x) → IfOk result Q
on-ok (Ok x) P Q is then = then x is
on-ok (Err e) P Q is then = tt

-- ---- tiles of the image

pub tile-there : (held : FrozenTiles) (at : Tile) (bytes : List ℕ) → AreFrozen held → bytes_in held at ≡ Some bytes → bytes ≡ tile_bytes (frozen_image held) at
tile-there held at bytes are is =
    sym
    (tile-held held.format (bytes_in held) held.box at bytes is
    (subst (λ (found : Option (List ℕ)). IfSome found (AreTileBytes held.format)) is (are.bytes at))
    (subst (λ (found : Option (List ℕ)). IfSome found (AreZeroOutside held.box held.format at)) is (are.zero at)))

pub tile-nowhere : (held : FrozenTiles) (at : Tile) → bytes_in held at ≡ None → zero_bytes held.format ≡ tile_bytes (frozen_image held) at
tile-nowhere held at is = sym (tile-lacking held.format (bytes_in held) held.box at is)
