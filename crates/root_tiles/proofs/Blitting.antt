-- Patches into which the tiles of a root are written, one after another.
use Rattle.std.proofs.Common.{◌≡◌, ℕ, inl, inr, List, [], ◌∷◌, Contains, Option, Some, None, refl, sym, ap, subst, ◌∙◌}
use Rattle.std.specs.Prelude.{IsSome}
use Rattle.std.specs.Option.{option_map, option_map_or}
use Rattle.plane_rect.specs.Rectangle.{Includes, Inside, Rectangle}
use Rattle.plane_rect.specs.Tile.{Tile, tile_at, tile_square}
use Rattle.plane_rect.proofs.Lists.{Contains-cases}
use Rattle.pixel_formats.specs.declared.format.Format.{Format}
use Rattle.model_images.specs.FromRaw.{pixels_from_raw}
use Rattle.model_images.specs.Image.{Image}
use Rattle.model_images.specs.Paint.{blank, cut, put_raw}
use Rattle.model_images.specs.Tiles.{HeldTiles, held_image, held_pixels}
use Rattle.model_images.proofs.HeldTiles.{part-held, pixel-held}
use Rattle.model_images.proofs.Laws.{IsImage-image_from_fn, at-image_from_fn}
use Rattle.root_tiles.specs.Roots.{IsPartOf, with_tile}
use Rattle.root_tiles.proofs.PatchTiles.{HasSamples, samples-last, samples-put}

-- each position of the patch has the sample of its tile, or is zero while its tile is still to come
abbrev pub Blitted : HeldTiles → Image → List Tile → Type 0
Blitted held patch rest = HasSamples (held_pixels patch.format held) patch rest

pub blitted-first : (held : HeldTiles) (box : Rectangle) (format : Format) (tiles : List Tile)
    → ((u v : ℕ) → Inside u v box → Contains tiles (tile_at u v)) → Blitted held (blank box format) tiles
blitted-first held box format tiles all = record {
  whole = IsImage-image_from_fn box format (λ u v c. 0);
  pixels = λ u v c there known. inr (at-image_from_fn box format (λ u v c. 0) u v c there known, all u v there);
}

-- a tile that isn't held is zero
pub pixel-lacking : (format : Format) (held : HeldTiles) (t : Tile) (u v c : ℕ) → held t ≡ None → t ≡ tile_at u v → held_pixels format held u v c ≡ 0
pixel-lacking format held t u v c none is =
    sym (ap (λ (tile : Tile). option_map_or (λ bytes. pixels_from_raw (tile_square (tile_at u v)) format bytes u v c) (held tile) 0) is)
    ∙ ap (λ (o : Option (List ℕ)). option_map_or (λ bytes. pixels_from_raw (tile_square (tile_at u v)) format bytes u v c) o 0) none

blitted-lacking : (held : HeldTiles) (patch : Image) (t : Tile) (rest : List Tile) → held t ≡ None → Blitted held patch (t ∷ rest) → Blitted held patch rest
blitted-lacking held patch t rest none blitted = record {
  whole = blitted.whole;
  pixels = λ u v c there known. elim (blitted.pixels u v c there known) [
    | inl is ↦ inl is
    | inr zero ↦ elim (Contains-cases t rest (tile_at u v) zero.1) [
      | inl here ↦ inl (zero.0 ∙ sym (pixel-lacking patch.format held t u v c none here))
      | inr later ↦ inr (zero.0, later)
    ]
  ];
}

blitted-there : (held : HeldTiles) (patch : Image) (t : Tile) (bytes : List ℕ) (rest : List Tile) → held t ≡ Some bytes
    → Blitted held patch (t ∷ rest) → Blitted held (put_raw patch (tile_square t) bytes) rest
blitted-there held patch t bytes rest is =
    samples-put (held_pixels patch.format held) patch t bytes rest (λ u v c there known. sym (pixel-held patch.format held t bytes u v c is there))

pub blitted-next : (held : HeldTiles) (patch new : Image) (t : Tile) (rest tiles : List Tile) → tiles ≡ t ∷ rest → new ≡ with_tile patch t (held t)
    → Blitted held patch tiles → Blitted held new rest
blitted-next held patch new t rest tiles is put blitted = of (held t) refl put
  where
    here : Blitted held patch (t ∷ rest)
    here = subst (Blitted held patch) is blitted

    of : (found : Option (List ℕ)) → held t ≡ found → new ≡ with_tile patch t found → Blitted held new rest
    of None none put = subst (λ (image : Image). Blitted held image rest) (sym put) (blitted-lacking held patch t rest none here)
    of (Some bytes) some put = subst (λ (image : Image). Blitted held image rest) (sym put) (blitted-there held patch t bytes rest some here)

-- when no tile is still to come the patch is a part of the image
pub blitted-last : (held : HeldTiles) (box : Rectangle) (format : Format) (patch : Image) (rest : List Tile) → rest ≡ [] → patch.format ≡ format
    → Includes box patch.box → Blitted held patch rest → patch ≡ cut (held_image box format held) patch.box
blitted-last held box format patch rest none same inside blitted =
    samples-last (held_pixels patch.format held) patch rest none blitted
    ∙ ap (λ (f : Format). held_image patch.box f held) same
    ∙ sym (part-held box patch.box format held inside)

pub part-known : {X : Type 0} (content : Option X) (image patch : Image) (part : Rectangle) → (IsSome content → patch ≡ cut image part)
    → IsPartOf (option_map (λ (x : X). image) content) part patch
part-known None image patch part is = tt
part-known (Some x) image patch part is = is refl
