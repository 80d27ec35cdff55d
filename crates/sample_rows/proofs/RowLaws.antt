-- How many pixels a row has.
use Rattle.std.proofs.Common.{◌≡◌, ℕ, ◌*◌, List, length, arith}
use Rattle.pixel_formats.specs.declared.format.Format.{Format}
use Rattle.pixel_formats.specs.declared.format.Format.TheVariants.{Y8}
use Rattle.pixel_formats.specs.Format.{pixel_bytes}
use Rattle.pixel_formats.specs.Row.{pixel_count}

-- a row of n pixels has n whole pixels
pub pixel_count_of : (f : Format) (row : List ℕ) (n : ℕ) → length row ≡ n * pixel_bytes f → pixel_count f row ≡ n
pixel_count_of Y8 row n long = omega arith
pixel_count_of f row n long = omega arith
