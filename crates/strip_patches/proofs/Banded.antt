-- Patches into which the tiles of an image are put by bands of rows.
use Rattle.std.proofs.Common.{◌≡◌, ℕ, ◌+◌, ◌-◌, ◌*◌, ◌/◌, ◌%◌, ◌<◌, ◌≤◌, ◌⊎◌, inl, inr, List, [], ◌∷◌, All, Contains, Bool, true, false, cond, length, take, drop, get_or, length-drop, length-take, sym, ap, subst, ◌∙◌, arith, refl}
use Rattle.std.proofs.lemmas.Bool.{cases_lt}
use Rattle.std.proofs.lemmas.List.{get_or-drop, get_or-map, get_or-take, length-map}
use Rattle.std.proofs.Math.Nat.{mul-le-mul_right}
use Rattle.std.proofs.lemmas.Nat.{mul-add-lt}
use Rattle.plane_rect.specs.Rectangle.{Inside, IsRectangle, Rectangle, meet, offset, spanning}
use Rattle.plane_rect.specs.Tile.{IsWhole, Meets, Tile, tile_at, tile_square, tiles}
use Rattle.plane_rect.proofs.Lists.{Contains-cases}
use Rattle.plane_rect.proofs.TileLists.{tiles-whole}
use Rattle.pixel_formats.specs.Format.{channels, pixel_bytes}
use Rattle.pixel_formats.specs.declared.format.Format.{Format}
use Rattle.model_images.specs.FromRaw.{pixels_from_raw}
use Rattle.model_images.specs.Image.{Image, IsImage, at, is_inside}
use Rattle.model_images.specs.Paint.{painted, put_raw}
use Rattle.model_images.specs.Raw.{tile_bytes}
use Rattle.model_images.proofs.Laws.{IsImage-image_from_fn, at-image_from_fn, generated_equal}
use Rattle.model_images.proofs.RawLaws.{raw-samples}
use Rattle.model_images.proofs.Samples.{Inside_from, inside_where}
use Rattle.op_contracts.specs.TileList.{tiles_in}
use Rattle.patch_abyss.proofs.RowPixels.{pixel_moved}
use Rattle.strip_patches.specs.Nodes.{HasPart}
use Rattle.strip_patches.specs.Bands.{HasBands, band_of}

-- a position of a tile in a row of a band is one of the band
in-band : (t : Tile) (band u v : ℕ) → t ≡ tile_at u v → 8 * band ≤ v % 64 → v % 64 < 8 * band + 8 → Inside u v (band_of t band)
in-band t band u v is from upto =
    let column : t.column ≡ u / 64 = ap (λ (t : Tile). t.column) is in
    let row : t.row ≡ v / 64 = ap (λ (t : Tile). t.row) is in
    record { column = (omega (arith, column), omega (arith, column)); row = (omega (arith, row, from), omega (arith, row, upto)) }

-- a band is in its tile
band-inside : (t : Tile) (band u v : ℕ) → band < 8 → Inside u v (band_of t band) → Inside u v (tile_square t)
band-inside t band u v low there = record { column = there.column; row = (omega (arith, there.row, low), omega (arith, there.row, low)) }

-- the bytes of a band, among those of its tile
pub band-pixels : (t : Tile) (band n : ℕ) (format : Format) (bytes piece : List ℕ) (u v c : ℕ) → Inside u v (band_of t band) → c < channels format
    → n ≡ 512 * pixel_bytes format → piece ≡ take (band * n + n - band * n) (drop (band * n) bytes)
    → pixels_from_raw (band_of t band) format piece u v c ≡ pixels_from_raw (tile_square t) format bytes u v c
band-pixels t band n format bytes piece u v c there known size is =
    let p = pixel_bytes format in
    let k = offset (band_of t band) u v in
    let j = offset (tile_square t) u v in
    let below : k < 512 = omega (arith, there.row, there.column) in
    let on : j ≡ 512 * band + k = omega (arith, there.row, there.column) in
    pixel_moved format piece bytes k j c known
    (λ b lt.
    let start : band * n ≡ 512 * band * p = ap (λ m. band * m) size ∙ omega arith in
    let split : j * p + b ≡ band * n + (k * p + b) = omega (arith, start, ap (λ m. m * p) on) in
    ap (λ (l : List ℕ). get_or l (k * p + b) 0) is
    ∙ get_or-take (band * n + n - band * n) (drop (band * n) bytes) (k * p + b) 0 (omega (arith, mul-add-lt k p b 512 below lt, size))
    ∙ get_or-drop (band * n) bytes (k * p + b) 0
    ∙ ap (λ i. get_or bytes i 0) (sym split))

-- the rectangle of a band
pub spans-band : (t : Tile) (column row band : ℕ) → column ≡ t.column → row ≡ t.row
    → spanning (column * 64) (row * 64 + band * 8) (column * 64 + 64) (row * 64 + band * 8 + 8) ≡ band_of t band
spans-band t column row band is_column is_row =
    let width : column * 64 + 64 - column * 64 ≡ 64 = omega arith in
    let height : row * 64 + band * 8 + 8 - (row * 64 + band * 8) ≡ 8 = omega arith in
    let first_column : column * 64 ≡ 64 * t.column = omega (arith, is_column) in
    let first_row : row * 64 + band * 8 ≡ 64 * t.row + 8 * band = omega (arith, is_row) in
    rw (width, height, first_column, first_row) refl

-- how many bytes a band has
pub band-long : (band n p : ℕ) (bytes : List ℕ) → band < 8 → n ≡ 512 * p → length bytes ≡ 4096 * p
    → length (take (band * n + n - band * n) (drop (band * n) bytes)) ≡ 512 * p
band-long band n p bytes low size long =
    let room : (band + 1) * n ≤ 8 * n = mul-le-mul_right n (omega (arith, low)) in
    omega (arith, length-take (band * n + n - band * n) (drop (band * n) bytes), length-drop (band * n) bytes, size, long, room)

-- an image stays one
pub whole-painted : (patch : Image) (r : Rectangle) (f : ℕ → ℕ → ℕ → ℕ) → IsImage (painted patch r f)
whole-painted patch r f = IsImage-image_from_fn patch.box patch.format (λ u v c. cond (is_inside u v r) (f u v c) (at patch u v c))

-- the tiles of a rectangle of the plane begin in it
pub all-in-plane : (r : Rectangle) (entries : List (Tile × List ℕ)) → IsRectangle r → tiles_in entries ≡ tiles r → All (λ (entry : Tile × List ℕ). IsWhole entry.0) entries
all-in-plane r entries is are k d below =
    let whole : All IsWhole (tiles_in entries) = subst (All IsWhole) (sym are) (tiles-whole r is) in
    subst IsWhole (get_or-map (λ (entry : Tile × List ℕ). entry.0) entries k d d.0 below)
    (whole k d.0 (omega (arith, below, length-map entries (λ (entry : Tile × List ℕ). entry.0))))

-- what the bytes of a band are put for
pub band-put : (image : Image) (t : Tile) (band n : ℕ) (bytes piece : List ℕ) → n ≡ 512 * pixel_bytes image.format → piece ≡ take (band * n + n - band * n) (drop (band * n) bytes)
    → put_raw image (band_of t band) piece ≡ painted image (band_of t band) (pixels_from_raw (tile_square t) image.format bytes)
band-put image t band n bytes piece size is =
    let f : ℕ → ℕ → ℕ → ℕ = λ u v c. cond (is_inside u v (band_of t band)) (pixels_from_raw (band_of t band) image.format piece u v c) (at image u v c) in
    let g : ℕ → ℕ → ℕ → ℕ = λ u v c. cond (is_inside u v (band_of t band)) (pixels_from_raw (tile_square t) image.format bytes u v c) (at image u v c) in
    generated_equal image.box image.format f g
    (λ u v c there known.
    elim (is_inside u v (band_of t band)) as (λ b. is_inside u v (band_of t band) ≡ b → cond b (pixels_from_raw (band_of t band) image.format piece u v c) (at image u v c) ≡ cond b (pixels_from_raw (tile_square t) image.format bytes u v c) (at image u v c)) [
      | true ↦ λ e. band-pixels t band n image.format bytes piece u v c (Inside_from u v (band_of t band) e) known size is
      | false ↦ λ e. refl
    ] refl)

-- While a band is put, each sample is the image's or that of before; and then its position is in no tile, or in a later
-- band, or in this one of a tile that is still to come.
pub record IsInBand (image first : Image) (entries : List (Tile × List ℕ)) (band : ℕ) (rest : List (Tile × List ℕ)) (patch : Image) : Type 0 where
  pub samples : (u v c : ℕ) → Inside u v patch.box → c < channels patch.format →
      (at patch u v c ≡ at image u v c)
      ⊎ ((at patch u v c ≡ at first u v c)
      × ((v % 64 < 8 * band → Contains (tiles_in entries) (tile_at u v) → ⊥)
      × (v % 64 < 8 * (band + 1) → Contains (tiles_in entries) (tile_at u v) → Contains (tiles_in rest) (tile_at u v))))

pub band-begins : (image first : Image) (entries : List (Tile × List ℕ)) (band : ℕ) (patch : Image) → HasBands image first entries band patch
    → IsInBand image first entries band entries patch
band-begins image first entries band patch has = record {
  samples = λ u v c there known. elim (has.samples u v c there known) [
    | inl same ↦ inl same
    | inr kept ↦ inr (kept.0, (kept.1, λ low is. is))
  ];
}

none-left : (tile : Tile) → Contains [] tile → ⊥
none-left tile h = omega (arith, h.1)

pub band-ends : (image first : Image) (entries : List (Tile × List ℕ)) (band : ℕ) (rest : List (Tile × List ℕ)) (patch : Image) → rest ≡ []
    → IsInBand image first entries band rest patch → HasBands image first entries (band + 1) patch
band-ends image first entries band rest patch none has = record {
  samples = λ u v c there known. elim (has.samples u v c there known) [
    | inl same ↦ inl same
    | inr kept ↦ inr (
      kept.0,
      λ low is. none-left (tile_at u v) (subst (λ (es : List (Tile × List ℕ)). Contains (tiles_in es) (tile_at u v)) none (kept.1.1 low is)),
    )
  ];
}

-- the band of one more tile is put
pub band-goes-on : (image first : Image) (entries : List (Tile × List ℕ)) (band : ℕ) (entry : Tile × List ℕ) (rest left : List (Tile × List ℕ)) (patch new : Image) → band < 8
    → left ≡ entry ∷ rest → image.format ≡ patch.format → entry.1 ≡ tile_bytes image entry.0
    → new ≡ painted patch (band_of entry.0 band) (pixels_from_raw (tile_square entry.0) patch.format entry.1)
    → IsInBand image first entries band left patch → IsInBand image first entries band rest new
band-goes-on image first entries band entry rest left patch new low is format bytes put has =
    subst (IsInBand image first entries band rest) (sym put) record {
      samples = λ u v c there known. of u v c there known (is_inside u v square) refl;
    }
  where
    square : Rectangle
    square = band_of entry.0 band

    painter : ℕ → ℕ → ℕ → ℕ
    painter u v c = cond (is_inside u v square) (pixels_from_raw (tile_square entry.0) patch.format entry.1 u v c) (at patch u v c)

    later : (u v : ℕ) → is_inside u v square ≡ false → (8 * band ≤ v % 64) → v % 64 < 8 * (band + 1) → Contains (tiles_in left) (tile_at u v)
        → Contains (tiles_in rest) (tile_at u v)
    later u v e from upto there =
        elim (Contains-cases entry.0 (tiles_in rest) (tile_at u v) (subst (λ (es : List (Tile × List ℕ)). Contains (tiles_in es) (tile_at u v)) is there)) [
          | inl here ↦ absurd (cc (sym e ∙ inside_where u v square (in-band entry.0 band u v here from (omega (arith, upto)))))
          | inr more ↦ more
        ]

    of : (u v c : ℕ) → Inside u v patch.box → c < channels patch.format → (b : Bool) → is_inside u v square ≡ b
        → (at (painted patch square (pixels_from_raw (tile_square entry.0) patch.format entry.1)) u v c ≡ at image u v c)
        ⊎ ((at (painted patch square (pixels_from_raw (tile_square entry.0) patch.format entry.1)) u v c ≡ at first u v c)
        × ((v % 64 < 8 * band → Contains (tiles_in entries) (tile_at u v) → ⊥)
        × (v % 64 < 8 * (band + 1) → Contains (tiles_in entries) (tile_at u v) → Contains (tiles_in rest) (tile_at u v))))
    of u v c there known true e =
        let value = at-image_from_fn patch.box patch.format painter u v c there known
        ∙ ap (λ (b : Bool). cond b (pixels_from_raw (tile_square entry.0) patch.format entry.1 u v c) (at patch u v c)) e in
        inl (value
        ∙ ap (λ (f : Format). pixels_from_raw (tile_square entry.0) f entry.1 u v c) (sym format)
        ∙ ap (λ (bs : List ℕ). pixels_from_raw (tile_square entry.0) image.format bs u v c) bytes
        ∙ raw-samples image (tile_square entry.0) u v c (band-inside entry.0 band u v low (Inside_from u v square e)) (subst (λ (f : Format). c < channels f) (sym format) known))
    of u v c there known false e =
        let value = at-image_from_fn patch.box patch.format painter u v c there known
        ∙ ap (λ (b : Bool). cond b (pixels_from_raw (tile_square entry.0) patch.format entry.1 u v c) (at patch u v c)) e in
        elim (has.samples u v c there known) [
          | inl same ↦ inl (value ∙ same)
          | inr kept ↦ inr (
            value ∙ kept.0,
            (
              kept.1.0,
              λ upto listed. elim (cases_lt (v % 64) (8 * band)) [
                | inl below ↦ absurd (kept.1.0 below listed)
                | inr from ↦ later u v e from upto (kept.1.1 upto listed)
              ],
            ),
          )
        ]

-- before the first band
pub no-bands : (image old : Image) (entries : List (Tile × List ℕ)) → HasBands image old entries 0 old
no-bands image old entries = record { samples = λ u v c there known. inr (refl, λ low listed. omega (arith, low)) }

-- after the last one each position of the part of which all tiles were put has the image's sample
pub all-bands : (image old new : Image) (rect box : Rectangle) (entries : List (Tile × List ℕ)) → box ≡ image.box
    → ((tile : Tile) → Meets tile (meet rect box) → Contains (tiles_in entries) tile)
    → HasBands image old entries 8 new → HasPart image rect old new
all-bands image old new rect box entries is all has = record {
  samples = λ u v c there known. elim (has.samples u v c there known) [
    | inl same ↦ inl same
    | inr kept ↦ inr (
      kept.0,
      λ inside. kept.1 (omega arith) (all (tile_at u v) (u, v, subst (λ (r : Rectangle). Inside u v (meet rect r)) (sym is) inside, refl)),
    )
  ];
}
