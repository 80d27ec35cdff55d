-- The laws of images that tiles hold.
use Rattle.std.proofs.Common.{◌≡◌, ◌≢◌, ℕ, ◌*◌, ◌<◌, List, replicate, Option, Some, None, refl, sym, ap, ◌∙◌}
use Rattle.std.specs.Prelude.{IfSome, unwrap_or}
use Rattle.std.specs.Option.{option_map_or}
use Rattle.plane_rect.specs.Rectangle.{Includes, Rectangle, Inside}
use Rattle.plane_rect.specs.Tile.{Meets, Tile, tile_at, tile_square}
use Rattle.plane_rect.proofs.TileLists.{Inside-tile_square}
use Rattle.pixel_formats.specs.Format.{channels, pixel_bytes}
use Rattle.pixel_formats.specs.declared.format.Format.{Format}
use Rattle.model_images.specs.Agreement.{AgreeElsewhere, AgreeEverywhere}
use Rattle.model_images.specs.FromRaw.{pixels_from_raw}
use Rattle.model_images.specs.Image.{Image, IsImage, at}
use Rattle.model_images.specs.Paint.{cut}
use Rattle.model_images.specs.Raw.{tile_bytes}
use Rattle.model_images.specs.Tiles.{AreTileBytes, AreZeroAround, AreZeroOutside, HeldTiles, held_image, held_pixels, tile_or_zeros}
use Rattle.model_images.proofs.Agreeing.{at-by_channels}
use Rattle.model_images.proofs.FromRawLaws.{raw-is}
use Rattle.model_images.proofs.Laws.{at-image_from_fn, at_outside, generated_equal, image_from_fn-at}
use Rattle.model_images.proofs.Positions.{by_positions}
use Rattle.model_images.proofs.RawLaws.{pixels-zero, raw-samples, raw-zeros}

module _ (format : Format) (held : HeldTiles) where
  -- what is read of a position of a tile
  tile_pixel : Tile → ℕ → ℕ → ℕ → ℕ
  tile_pixel tile u v c = option_map_or (λ bytes. pixels_from_raw (tile_square tile) format bytes u v c) (held tile) 0

  in-tile : (tile : Tile) (u v c : ℕ) → Inside u v (tile_square tile) → held_pixels format held u v c ≡ tile_pixel tile u v c
  unfolding tile_pixel
  in-tile tile u v c there = ap (λ (t : Tile). tile_pixel t u v c) (sym ((Inside-tile_square u v tile).0 there))

  pub pixel-held : (tile : Tile) (bytes : List ℕ) (u v c : ℕ) → held tile ≡ Some bytes → Inside u v (tile_square tile)
      → held_pixels format held u v c ≡ pixels_from_raw (tile_square tile) format bytes u v c
  unfolding tile_pixel
  pixel-held tile bytes u v c e there =
      in-tile tile u v c there ∙ ap (λ (o : Option (List ℕ)). option_map_or (λ bytes. pixels_from_raw (tile_square tile) format bytes u v c) o 0) e

  pixel-lacking : (tile : Tile) (u v c : ℕ) → held tile ≡ None → Inside u v (tile_square tile) → held_pixels format held u v c ≡ 0
  unfolding tile_pixel
  pixel-lacking tile u v c e there =
      in-tile tile u v c there ∙ ap (λ (o : Option (List ℕ)). option_map_or (λ bytes. pixels_from_raw (tile_square tile) format bytes u v c) o 0) e

  module _ (box : Rectangle) where
    abbrev image : Image
    image = held_image box format held

    pub tile-held : (tile : Tile) (bytes : List ℕ) → held tile ≡ Some bytes → AreTileBytes format bytes → AreZeroOutside box format tile bytes
        → tile_bytes image tile ≡ bytes
    tile-held tile bytes e are zero_outside =
        raw-is image (tile_square tile) bytes are.small are.whole
        (λ u v c there known. by_positions _ u v box
        (λ inside. at-image_from_fn box format (held_pixels format held) u v c inside known ∙ pixel-held tile bytes u v c e there)
        (λ out. at_outside image u v c out ∙ sym (zero_outside u v c there out known)))

    pub tile-lacking : (tile : Tile) → held tile ≡ None → tile_bytes image tile ≡ replicate (4096 * pixel_bytes format) 0
    tile-lacking tile e =
        raw-zeros image (tile_square tile)
        (λ u v c there known. by_positions _ u v box
        (λ inside. at-image_from_fn box format (held_pixels format held) u v c inside known ∙ pixel-lacking tile u v c e there)
        (λ out. at_outside image u v c out))

    pub tile-either : (tile : Tile) → IfSome (held tile) (AreTileBytes format) → IfSome (held tile) (AreZeroOutside box format tile)
        → tile_bytes image tile ≡ tile_or_zeros format held tile
    tile-either tile are zero_outside = of (held tile) refl are zero_outside
      where
        of : (o : Option (List ℕ)) → held tile ≡ o → IfSome o (AreTileBytes format) → IfSome o (AreZeroOutside box format tile)
            → tile_bytes image tile ≡ unwrap_or o (replicate (4096 * pixel_bytes format) 0)
        of (Some bytes) e are zero_outside = tile-held tile bytes e are zero_outside
        of None e are zero_outside = tile-lacking tile e

  -- a position outside a box around which the tiles are zero
  pixel-around : (box : Rectangle) (u v c : ℕ) → AreZeroAround box format held → ¬ Inside u v box → c < channels format → held_pixels format held u v c ≡ 0
  pixel-around box u v c around out known = of (held (tile_at u v)) (around (tile_at u v))
    where
      there : Inside u v (tile_square (tile_at u v))
      there = (Inside-tile_square u v (tile_at u v)).1 refl

      of : (o : Option (List ℕ)) → IfSome o (AreZeroOutside box format (tile_at u v))
          → option_map_or (λ bytes. pixels_from_raw (tile_square (tile_at u v)) format bytes u v c) o 0 ≡ 0
      of (Some bytes) zeros = zeros u v c there out known
      of None zeros = refl

  sample : (box : Rectangle) (u v c : ℕ) → AreZeroAround box format held → c < channels format → at (held_image box format held) u v c ≡ held_pixels format held u v c
  sample box u v c around known = by_positions _ u v box
      (λ inside. at-image_from_fn box format (held_pixels format held) u v c inside known)
      (λ out. at_outside (held_image box format held) u v c out ∙ sym (pixel-around box u v c around out known))

  pub boxes-agree : (a b : Rectangle) → AreZeroAround a format held → AreZeroAround b format held → AgreeEverywhere (held_image a format held) (held_image b format held)
  boxes-agree a b around_a around_b = record {
    format = refl;
    samples = λ u v c. at-by_channels (held_image a format held) (held_image b format held) u v c refl (λ known.
        sample a u v c around_a known ∙ sym (sample b u v c around_b known));
  }

pub one_tile-changes : (a b : Rectangle) (format : Format) (held later : HeldTiles) (tile : Tile) → AreZeroAround a format held → AreZeroAround b format later
    → ((other : Tile) → other ≢ tile → later other ≡ held other) → AgreeElsewhere (held_image a format held) (held_image b format later) (tile_square tile)
one_tile-changes a b format held later tile around_a around_b others = record {
  format = refl;
  samples = λ u v c out. at-by_channels (held_image a format held) (held_image b format later) u v c refl (λ known.
      sample format held a u v c around_a known
      ∙ ap (λ (o : Option (List ℕ)). option_map_or (λ bytes. pixels_from_raw (tile_square (tile_at u v)) format bytes u v c) o 0)
      (sym (others (tile_at u v) (λ same. out ((Inside-tile_square u v tile).1 (sym same)))))
      ∙ sym (sample format later b u v c around_b known));
}

-- a position is read of the tile's bytes, or of zeros
pixel-or-zeros : (format : Format) (tile : Tile) (o : Option (List ℕ)) (u v c : ℕ)
    → option_map_or (λ bytes. pixels_from_raw (tile_square tile) format bytes u v c) o 0
    ≡ pixels_from_raw (tile_square tile) format (unwrap_or o (replicate (4096 * pixel_bytes format) 0)) u v c
pixel-or-zeros format tile (Some bytes) u v c = refl
pixel-or-zeros format tile None u v c = sym (pixels-zero (tile_square tile) format (4096 * pixel_bytes format) u v c)

pub image-held : (image : Image) (held : HeldTiles) → IsImage image
    → ((tile : Tile) → Meets tile image.box → tile_or_zeros image.format held tile ≡ tile_bytes image tile) → held_image image.box image.format held ≡ image
image-held image held whole tiles =
    generated_equal image.box image.format (held_pixels image.format held) (at image)
    (λ u v c inside known.
    let tile = tile_at u v in
    pixel-or-zeros image.format tile (held tile) u v c
    ∙ ap (λ (bytes : List ℕ). pixels_from_raw (tile_square tile) image.format bytes u v c) (tiles tile (u, v, inside, refl))
    ∙ raw-samples image (tile_square tile) u v c ((Inside-tile_square u v tile).1 refl) known)
    ∙ image_from_fn-at image whole

pub part-held : (box part : Rectangle) (format : Format) (held : HeldTiles) → Includes box part → cut (held_image box format held) part ≡ held_image part format held
part-held box part format held inside =
    generated_equal part format (at (held_image box format held)) (held_pixels format held)
    (λ u v c there known. at-image_from_fn box format (held_pixels format held) u v c (inside u v there) known)
