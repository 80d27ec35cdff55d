-- What the renders of a job write.
use Rattle.std.specs.Prelude.{ℕ, ◌<◌, ◌≤◌, ◌*◌, All, List, [], length, unwrap_or}
use Rattle.outside_io.specs.Files.{Files, file}
use Rattle.model_runs.specs.MadeJob.{render_file}

-- the bytes of at most 512 by 384 pixels of three
pub record IsRaster (bytes : List ℕ) : Type 0 where
  pub few : length bytes ≤ 512 * 384 * 3
  pub small : All (λ byte. byte ≤ 255) bytes

-- each of the 28 files that the renders write is such a raster, where it is there
abbrev pub HaveRasters : Files → Type 0
HaveRasters files = (number : ℕ) → number < 28 → IsRaster (unwrap_or (file files (render_file number)) [])
