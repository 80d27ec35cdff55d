-- Patches into which tiles are written, one after another.
use Rattle.std.proofs.Common.{◌≡◌, ℕ, ◌<◌, ◌⊎◌, inl, inr, List, [], ◌∷◌, Contains, Bool, true, false, cond, refl, sym, ap, subst, ◌∙◌, arith}
use Rattle.plane_rect.specs.Rectangle.{Inside}
use Rattle.plane_rect.specs.Tile.{Tile, tile_at, tile_square}
use Rattle.plane_rect.proofs.Lists.{Contains-cases}
use Rattle.plane_rect.proofs.TileLists.{Inside-tile_square}
use Rattle.pixel_formats.specs.Format.{channels}
use Rattle.pixel_formats.specs.Row.{Pixel}
use Rattle.model_images.specs.FromRaw.{pixels_from_raw}
use Rattle.model_images.specs.Image.{Image, IsImage, at, image_from_fn, is_inside}
use Rattle.model_images.specs.Paint.{put_raw}
use Rattle.model_images.proofs.Laws.{IsImage-image_from_fn, at-image_from_fn, generated_equal, image_from_fn-at}
use Rattle.model_images.proofs.Samples.{Inside_from, inside_where}

-- each position of the patch has f's sample, or is zero while its tile is still to come
pub record HasSamples (f : ℕ → ℕ → Pixel) (patch : Image) (rest : List Tile) : Type 0 where
  pub whole : IsImage patch
  pub pixels : (u v c : ℕ) → Inside u v patch.box → c < channels patch.format
      → (at patch u v c ≡ f u v c) ⊎ ((at patch u v c ≡ 0) × Contains rest (tile_at u v))

-- a tile with f's samples is written
pub samples-put : (f : ℕ → ℕ → Pixel) (patch : Image) (t : Tile) (bytes : List ℕ) (rest : List Tile)
    → ((u v c : ℕ) → Inside u v (tile_square t) → c < channels patch.format → pixels_from_raw (tile_square t) patch.format bytes u v c ≡ f u v c)
    → HasSamples f patch (t ∷ rest) → HasSamples f (put_raw patch (tile_square t) bytes) rest
samples-put f patch t bytes rest is before = record {
  whole = IsImage-image_from_fn patch.box patch.format painted;
  pixels = λ u v c there known. of u v c there known (is_inside u v (tile_square t)) refl;
}
  where
    painted : ℕ → ℕ → ℕ → ℕ
    painted u v c = cond (is_inside u v (tile_square t)) (pixels_from_raw (tile_square t) patch.format bytes u v c) (at patch u v c)

    new : Image
    new = put_raw patch (tile_square t) bytes

    of : (u v c : ℕ) → Inside u v patch.box → c < channels patch.format → (b : Bool) → is_inside u v (tile_square t) ≡ b
        → (at new u v c ≡ f u v c) ⊎ ((at new u v c ≡ 0) × Contains rest (tile_at u v))
    of u v c there known true e =
        let value : at new u v c ≡ pixels_from_raw (tile_square t) patch.format bytes u v c =
        at-image_from_fn patch.box patch.format painted u v c there known
        ∙ ap (λ (b : Bool). cond b (pixels_from_raw (tile_square t) patch.format bytes u v c) (at patch u v c)) e in
        inl (value ∙ is u v c (Inside_from u v (tile_square t) e) known)
    of u v c there known false e =
        let value : at new u v c ≡ at patch u v c =
        at-image_from_fn patch.box patch.format painted u v c there known
        ∙ ap (λ (b : Bool). cond b (pixels_from_raw (tile_square t) patch.format bytes u v c) (at patch u v c)) e in
        elim (before.pixels u v c there known) [
          | inl same ↦ inl (value ∙ same)
          | inr zero ↦ elim (Contains-cases t rest (tile_at u v) zero.1) [
            | inl here ↦ absurd (cc (sym e ∙ inside_where u v (tile_square t) ((Inside-tile_square u v t).1 here)))
            | inr later ↦ inr (value ∙ zero.0, later)
          ]
        ]

none-left : (tile : Tile) → Contains [] tile → ⊥
none-left tile h = omega (arith, h.1)

-- no tile is still to come
pub samples-last : (f : ℕ → ℕ → Pixel) (patch : Image) (rest : List Tile) → rest ≡ [] → HasSamples f patch rest → patch ≡ image_from_fn patch.box patch.format f
samples-last f patch rest none end =
    sym (image_from_fn-at patch end.whole)
    ∙ generated_equal patch.box patch.format (at patch) f
    (λ u v c there known. elim (end.pixels u v c there known) [
      | inl is ↦ is
      | inr left ↦ absurd (none-left (tile_at u v) (subst (λ (tiles : List Tile). Contains tiles (tile_at u v)) none left.1))
    ])
