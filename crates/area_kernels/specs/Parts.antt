-- Parts of images as rows of bytes, and the squares of samples around their positions.
use Rattle.std.specs.Prelude.{◌≡◌, ℕ, ◌+◌, ◌*◌, ◌<◌, List}
use Rattle.pixel_formats.specs.declared.format.Format.{Format}
use Rattle.pixel_formats.specs.Format.{channels}
use Rattle.pixel_formats.specs.Row.{pixel_at}
use Rattle.model_images.specs.Image.{sampled}
use Rattle.model_operations.specs.Windows.{window_square}
use Rattle.area_kernels.specs.declared.area.Area.{Area}

-- The rows of bytes, one after the other, are those of a part that begins at column u and row v: at each of its positions
-- and in each channel they have the sample that f gives for the column, the row and the channel.
pub record HoldsPart (format : Format) (width height : ℕ) (bytes : List ℕ) (f : ℕ → ℕ → ℕ → ℕ) (u v : ℕ) : Type 0 where
  pub samples : (x y c : ℕ) → x < width → y < height → c < channels format → pixel_at format bytes (y * width + x) c ≡ f (u + x) (v + y) c

-- so many positions, and a radius more on both sides
abbrev pub grown : ℕ → ℕ → ℕ
grown radius n = n + 2 * radius

-- how many samples of so many channels an area operation reads
abbrev pub read_samples : Area → ℕ → ℕ
read_samples area channels = grown area.radius area.height * (grown area.radius area.width * channels)

-- how many it writes
abbrev pub written_samples : Area → ℕ → ℕ
written_samples area channels = area.height * (area.width * channels)

-- the samples of a channel in the square of a radius that begins at a column and a row
abbrev pub square_samples : ℕ → (ℕ → ℕ → ℕ → ℕ) → ℕ → ℕ → ℕ → List ℕ
square_samples radius f u v c = sampled (window_square radius u v) 1 (λ s t _. f s t c)

-- Of each part that the rows of a patch hold grown by the radius, other rows of bytes hold what is made of the square of
-- samples around each position.
abbrev pub HoldSquares : (List ℕ → ℕ) → Format → Area → List ℕ → List ℕ → Type 0
HoldSquares of_square format area patch bytes =
    (f : ℕ → ℕ → ℕ → ℕ) (u v : ℕ) → HoldsPart format (grown area.radius area.width) (grown area.radius area.height) patch f u v
    → HoldsPart format area.width area.height bytes (λ s t c. of_square (square_samples area.radius f s t c)) u v
