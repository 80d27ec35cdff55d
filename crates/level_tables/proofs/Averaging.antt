-- The four tiles below one, and the mean of them.
use Rattle.std.proofs.Common.{◌≡◌, ℕ, ◌+◌, ◌-◌, ◌*◌, ◌/◌, ◌<◌, ◌≤◌, ◌⊎◌, List, Option, Some, None, inl, inr, refl, sym, ap, subst, ◌∙◌, arith}
use Rattle.std.proofs.lemmas.Bool.{cases_eq}
use Rattle.plane_rect.specs.Rectangle.{Inside, IsRectangle}
use Rattle.plane_rect.specs.Tile.{Tile, tile_at, tile_of, tile_square}
use Rattle.plane_rect.proofs.TileLists.{Inside-tile_square}
use Rattle.pixel_formats.specs.Format.{channels}
use Rattle.pixel_formats.specs.declared.format.Format.{Format}
use Rattle.model_images.specs.Agreement.{AgreeOver}
use Rattle.model_images.specs.FromRaw.{pixels_from_raw}
use Rattle.model_images.specs.Image.{Image, at}
use Rattle.model_images.specs.Level.{halved_image, source_of_level, tile_above}
use Rattle.model_images.specs.Paint.{blank}
use Rattle.model_images.specs.Raw.{tile_bytes}
use Rattle.model_images.proofs.Agreeing.{at-by_channels}
use Rattle.model_images.proofs.AgreeingLevels.{Inside-source_of_tile, levels-local-bytes}
use Rattle.model_images.proofs.Laws.{at-image_from_fn}
use Rattle.model_images.proofs.LevelLaws.{level-next, level-zero}
use Rattle.model_images.proofs.Painting.{at-painted, painted-outside}
use Rattle.model_images.proofs.Positions.{by_positions}
use Rattle.model_images.proofs.RawLaws.{raw-samples}
use Rattle.level_tables.specs.Found.{IsInHalf, half_origin, image_of_four, square_below, tile_below, with_found}
use Rattle.level_tables.specs.declared.four_tiles.FourTiles.{FourTiles}

-- ---- which four

-- one of two along a side
side : (first n : ℕ) → half_origin ≤ first → n / 2 + half_origin ≡ first → (n ≡ 2 * (first - half_origin) + 0) ⊎ (n ≡ 2 * (first - half_origin) + 1)
side first n wide is = elim (halves n) [ inl even ↦ inl (omega (arith, even, is)) | inr odd ↦ inr (omega (arith, odd, is)) ]
  where
    halves : (n : ℕ) → (n ≡ 2 * (n / 2)) ⊎ (n ≡ 2 * (n / 2) + 1)
    halves n = elim (cases_eq n (2 * (n / 2))) [ inl even ↦ inl even | inr odd ↦ inr (omega arith) ]

-- a tile below is one of the four
pub one-below : (tile above : Tile) → tile_above tile ≡ above
    → ((tile ≡ tile_below above 0 0) ⊎ (tile ≡ tile_below above 1 0)) ⊎ ((tile ≡ tile_below above 0 1) ⊎ (tile ≡ tile_below above 1 1))
one-below tile above is =
    let column : tile.column / 2 + half_origin ≡ above.column = ap (λ (t : Tile). t.column) is in
    let row : tile.row / 2 + half_origin ≡ above.row = ap (λ (t : Tile). t.row) is in
    elim (side above.row tile.row (omega (arith, row)) row) [
      | inl upper ↦ inl (elim (side above.column tile.column (omega (arith, column)) column) [
        | inl left ↦ inl (same left upper)
        | inr right ↦ inr (same right upper)
      ])
      | inr lower ↦ inr (elim (side above.column tile.column (omega (arith, column)) column) [
        | inl left ↦ inl (same left lower)
        | inr right ↦ inr (same right lower)
      ])
    ]
  where
    same : {m n : ℕ} → tile.column ≡ m → tile.row ≡ n → tile ≡ record { column = m; row = n }
    same {m} {n} column row =
        let joined : (of : ℕ → ℕ → Tile) → of tile.column tile.row ≡ of m n = λ of. cc in
        joined (λ column row. record { column = column; row = row })

-- ---- tiles laid into an image

box-of : (image : Image) (tile : Tile) (found : Option (List ℕ)) → (with_found image tile found).box ≡ image.box
box-of image tile None = refl
box-of image tile (Some bytes) = refl

pub format-of : (image : Image) (tile : Tile) (found : Option (List ℕ)) → (with_found image tile found).format ≡ image.format
format-of image tile None = refl
format-of image tile (Some bytes) = refl

pub square-is : (above : Tile) → IsInHalf above → IsRectangle (square_below above)
square-is above half = record {
  columns = omega (arith, half.right);
  rows = omega (arith, half.bottom);
  empty_width = λ none. absurd (omega (arith, none));
  empty_height = λ none. absurd (omega (arith, none));
}

module _ (known : Image) where
  -- what is found of a tile is the image's
  abbrev pub IsRight : Tile → Option (List ℕ) → Type 0
  IsRight tile None = (u v c : ℕ) → Inside u v (tile_square tile) → c < channels known.format → at known u v c ≡ 0
  IsRight tile (Some bytes) = bytes ≡ tile_bytes known tile

  module _ (u v c : ℕ) (few : c < channels known.format) where
    -- a sample is the image's, or zero
    record IsNear (image : Image) : Type 0 where
      inside : Inside u v image.box
      format : image.format ≡ known.format
      near : (at image u v c ≡ at known u v c) ⊎ (at image u v c ≡ 0)

    hit : (image : Image) (tile : Tile) (found : Option (List ℕ)) → IsNear image → IsRight tile found → Inside u v (tile_square tile)
        → at (with_found image tile found) u v c ≡ at known u v c
    hit image tile None is right there = elim is.near [ inl same ↦ same | inr zero ↦ zero ∙ sym (right u v c there few) ]
    hit image tile (Some bytes) is right there =
        at-painted image (tile_square tile) (pixels_from_raw (tile_square tile) image.format bytes) u v c there is.inside (rw is.format few)
        ∙ ap (λ (f : Format). pixels_from_raw (tile_square tile) f bytes u v c) is.format
        ∙ ap (λ (b : List ℕ). pixels_from_raw (tile_square tile) known.format b u v c) right
        ∙ raw-samples known (tile_square tile) u v c there few

    miss : (image : Image) (tile : Tile) (found : Option (List ℕ)) → ¬ Inside u v (tile_square tile) → at (with_found image tile found) u v c ≡ at image u v c
    miss image tile None out = refl
    miss image tile (Some bytes) out = sym (painted-outside image (tile_square tile) (pixels_from_raw (tile_square tile) image.format bytes) u v c out)

    near-next : (image : Image) (tile : Tile) (found : Option (List ℕ)) → IsNear image → IsRight tile found → IsNear (with_found image tile found)
    near-next image tile found is right = record {
      inside = rw (box-of image tile found) is.inside;
      format = format-of image tile found ∙ is.format;
      near = by_positions _ u v (tile_square tile)
          (λ there. inl (hit image tile found is right there))
          (λ out. elim is.near [
            | inl same ↦ inl (miss image tile found out ∙ same)
            | inr zero ↦ inr (miss image tile found out ∙ zero)
          ]);
    }

    stay : (image : Image) (tile : Tile) (found : Option (List ℕ)) → IsNear image → IsRight tile found → at image u v c ≡ at known u v c
        → at (with_found image tile found) u v c ≡ at known u v c
    stay image tile found is right same = by_positions _ u v (tile_square tile)
        (λ there. hit image tile found is right there) (λ out. miss image tile found out ∙ same)

  pub record AreRight (above : Tile) (four : FourTiles) : Type 0 where
    pub upper_left : IsRight (tile_below above 0 0) four.upper_left
    pub upper_right : IsRight (tile_below above 1 0) four.upper_right
    pub lower_left : IsRight (tile_below above 0 1) four.lower_left
    pub lower_right : IsRight (tile_below above 1 1) four.lower_right

  module _ (above : Tile) (four : FourTiles) (right : AreRight above four) where
    abbrev first : Image
    first = blank (square_below above) known.format

    abbrev second : Image
    second = with_found first (tile_below above 0 0) four.upper_left

    abbrev third : Image
    third = with_found second (tile_below above 1 0) four.upper_right

    abbrev fourth : Image
    fourth = with_found third (tile_below above 0 1) four.lower_left

    abbrev all : Image
    all = image_of_four known.format above four

    pub four-format : all.format ≡ known.format
    four-format =
        format-of fourth (tile_below above 1 1) four.lower_right ∙ format-of third (tile_below above 0 1) four.lower_left
        ∙ format-of second (tile_below above 1 0) four.upper_right ∙ format-of first (tile_below above 0 0) four.upper_left

    pub four-box : all.box ≡ square_below above
    four-box =
        box-of fourth (tile_below above 1 1) four.lower_right ∙ box-of third (tile_below above 0 1) four.lower_left
        ∙ box-of second (tile_below above 1 0) four.upper_right ∙ box-of first (tile_below above 0 0) four.upper_left

    inside-first : (u v a b : ℕ) → a ≤ 1 → b ≤ 1 → tile_at u v ≡ tile_below above a b → Inside u v (square_below above)
    inside-first u v a b left upper is =
        let column : tile_of u ≡ 2 * (above.column - half_origin) + a = ap (λ (t : Tile). t.column) is in
        let row : tile_of v ≡ 2 * (above.row - half_origin) + b = ap (λ (t : Tile). t.row) is in
        record { column = (omega (arith, column), omega (arith, column, left)); row = (omega (arith, row), omega (arith, row, upper)) }

    module _ (u v c : ℕ) (few : c < channels known.format) (inside : Inside u v (square_below above)) where
      near-first : IsNear u v c few first
      near-first = record {
        inside = inside;
        format = refl;
        near = inr (at-image_from_fn (square_below above) known.format (λ u v c. 0) u v c inside few);
      }

      near-second : IsNear u v c few second
      near-second = near-next u v c few first (tile_below above 0 0) four.upper_left near-first right.upper_left

      near-third : IsNear u v c few third
      near-third = near-next u v c few second (tile_below above 1 0) four.upper_right near-second right.upper_right

      near-fourth : IsNear u v c few fourth
      near-fourth = near-next u v c few third (tile_below above 0 1) four.lower_left near-third right.lower_left

      from-fourth : at fourth u v c ≡ at known u v c → at all u v c ≡ at known u v c
      from-fourth = stay u v c few fourth (tile_below above 1 1) four.lower_right near-fourth right.lower_right

      from-third : at third u v c ≡ at known u v c → at all u v c ≡ at known u v c
      from-third same = from-fourth (stay u v c few third (tile_below above 0 1) four.lower_left near-third right.lower_left same)

      from-second : at second u v c ≡ at known u v c → at all u v c ≡ at known u v c
      from-second same = from-third (stay u v c few second (tile_below above 1 0) four.upper_right near-second right.upper_right same)

      there : (a b : ℕ) → tile_at u v ≡ tile_below above a b → Inside u v (tile_square (tile_below above a b))
      there a b is = (Inside-tile_square u v (tile_below above a b)).1 (sym is)

      at-first : tile_at u v ≡ tile_below above 0 0 → at all u v c ≡ at known u v c
      at-first is = from-second (hit u v c few first (tile_below above 0 0) four.upper_left near-first right.upper_left (there 0 0 is))

      at-second : tile_at u v ≡ tile_below above 1 0 → at all u v c ≡ at known u v c
      at-second is = from-third (hit u v c few second (tile_below above 1 0) four.upper_right near-second right.upper_right (there 1 0 is))

      at-third : tile_at u v ≡ tile_below above 0 1 → at all u v c ≡ at known u v c
      at-third is = from-fourth (hit u v c few third (tile_below above 0 1) four.lower_left near-third right.lower_left (there 0 1 is))

      at-fourth : tile_at u v ≡ tile_below above 1 1 → at all u v c ≡ at known u v c
      at-fourth is = hit u v c few fourth (tile_below above 1 1) four.lower_right near-fourth right.lower_right (there 1 1 is)

    four-sample : (u v c : ℕ) → tile_above (tile_at u v) ≡ above → c < channels known.format → at all u v c ≡ at known u v c
    four-sample u v c is few = elim (one-below (tile_at u v) above is) [
      | inl upper ↦ elim upper [
        | inl left ↦ at-first u v c few (inside-first u v 0 0 (omega arith) (omega arith) left) left
        | inr right ↦ at-second u v c few (inside-first u v 1 0 (omega arith) (omega arith) right) right
      ]
      | inr lower ↦ elim lower [
        | inl left ↦ at-third u v c few (inside-first u v 0 1 (omega arith) (omega arith) left) left
        | inr right ↦ at-fourth u v c few (inside-first u v 1 1 (omega arith) (omega arith) right) right
      ]
    ]

    four-over : AgreeOver all known (source_of_level (tile_square above) 1)
    four-over u v c source =
        let is : tile_above (tile_at u v) ≡ above = (Inside-source_of_tile u v above 1).0 source in
        at-by_channels all known u v c four-format (λ few. four-sample u v c is (let P : Format → Type 0 = λ f. c < channels f in subst P four-format few))

    -- the mean of the four is a tile of the halved image
    pub four-halved : IsInHalf above → IsRectangle known.box → tile_bytes (halved_image all) above ≡ tile_bytes (halved_image known) above
    four-halved half is =
        ap (λ (image : Image). tile_bytes image above) (sym (level-next all 0 ∙ ap halved_image (level-zero all)))
        ∙ levels-local-bytes all known 1 (tile_square above) (subst IsRectangle (sym four-box) (square-is above half)) is four-format four-over
        ∙ ap (λ (image : Image). tile_bytes image above) (level-next known 0 ∙ ap halved_image (level-zero known))
