-- Rows of pixels. A row is a list of bytes: pixels from the left, the samples of each in the order of its channels,
-- and of a sample of several bytes the least significant first.
use Rattle.std.specs.Prelude.{◌≡◌, ℕ, ◌+◌, ◌*◌, ◌/◌, ◌<◌, List, length}
use Rattle.pixel_formats.specs.declared.format.Format.{Format}
use Rattle.pixel_formats.specs.Format.{channels, depth, pixel_bytes}
pub use Rattle.pixel_formats.specs.Sample.{sample_at}

-- a pixel: its sample in each channel
abbrev pub Pixel : Type 0
Pixel = ℕ → ℕ

-- how many whole pixels a row has
abbrev pub pixel_count : Format → List ℕ → ℕ
pixel_count format row = length row / pixel_bytes format

-- pixel number k of a row
abbrev pub pixel_at : Format → List ℕ → ℕ → Pixel
pixel_at format row k = λ channel. sample_at (depth format) row (k * channels format + channel)

-- The pixels of the row are these, from the left.
abbrev pub HasPixels : Format → List ℕ → (ℕ → Pixel) → Type 0
HasPixels format row pixels =
    (k channel : ℕ) → k < pixel_count format row → channel < channels format → pixel_at format row k channel ≡ pixels k channel
