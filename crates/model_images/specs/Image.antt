-- Images. One is reached by `at`, and made by `image_from_fn`.
use Rattle.std.specs.Prelude.{◌≡◌, ℕ, ◌+◌, ◌*◌, ◌/◌, ◌%◌, Bool, ◌&&◌, nat_lt, nat_le, if◌then◌else◌, List, map, length, slice_index}
use Rattle.std.specs.List.{range_with_len}
use Rattle.plane_rect.specs.Rectangle.{Rectangle, area, offset}
use Rattle.pixel_formats.specs.Format.{channels}
use Rattle.pixel_formats.specs.Row.{Pixel}
use Rattle.pixel_formats.specs.declared.format.Format.{Format}

-- the test for `Inside`
abbrev pub is_inside : ℕ → ℕ → Rectangle → Bool
is_inside u v r = (nat_le r.first_column u && nat_lt u (r.first_column + r.width)) && (nat_le r.first_row v && nat_lt v (r.first_row + r.height))

-- A box, a format, and a sample for each position of the box and each channel: row by row from the top, each row from
-- the left, the channels of a position in their order.
pub record Image : Type 0 where
  pub box : Rectangle
  pub format : Format
  pub samples : List ℕ

-- which of the samples of n channels over a rectangle is that of a position and a channel
abbrev pub sample_index : Rectangle → ℕ → ℕ → ℕ → ℕ → ℕ
sample_index r n u v c = offset r u v * n + c

-- the column, the row and the channel of the sample of an index
abbrev pub column_of : Rectangle → ℕ → ℕ → ℕ
column_of r n i = r.first_column + (i / n) % r.width

abbrev pub row_of : Rectangle → ℕ → ℕ → ℕ
row_of r n i = r.first_row + i / n / r.width

-- how many samples of n channels a rectangle has
abbrev pub sample_count : Rectangle → ℕ → ℕ
sample_count r n = area r * n

-- what f gives for each position of a rectangle and each of n channels, in the order of samples
abbrev pub sampled : Rectangle → ℕ → (ℕ → ℕ → Pixel) → List ℕ
sampled r n f = map (λ i. f (column_of r n i) (row_of r n i) (i % n)) (range_with_len 0 (sample_count r n))

-- the image of a box and a format whose samples f gives
abbrev pub image_from_fn : Rectangle → Format → (ℕ → ℕ → Pixel) → Image
image_from_fn box format f = record { box = box; format = format; samples = sampled box (channels format) f }

-- The sample of a column, a row and a channel: 0 outside the box, and for a channel that the format lacks.
unfoldable pub at : Image → ℕ → ℕ → ℕ → ℕ
at image u v c =
    if is_inside u v image.box && nat_lt c (channels image.format) then slice_index image.samples (sample_index image.box (channels image.format) u v c) else 0

-- an image has a sample for each position and channel, and no others
abbrev pub IsImage : Image → Type 0
IsImage image = length image.samples ≡ sample_count image.box (channels image.format)
