-- The sum of the bytes of a job's rasters.
use Rattle.std.proofs.Common.{◌≡◌, ℕ, ◌+◌, ◌*◌, ◌≤◌, List, [], length, sum, sym, subst, arith}
use Rattle.std.specs.Prelude.{All, unwrap_or}
use Rattle.std.specs.List.{range_with_len, sum_by}
use Rattle.std.proofs.lemmas.List.Elements.{All-from_get_or}
use Rattle.std.proofs.lemmas.List.FromFn.{get_or-range_with_len}
use Rattle.std.proofs.lemmas.List.Sums.{sum-map, sum_by-le}
use Rattle.outside_io.specs.Files.{Files, file}
use Rattle.model_runs.specs.MadeJob.{render_file, render_sum}
use Rattle.made_jobs.specs.Rasters.{HaveRasters, IsRaster}

-- the sum of the bytes of a render's file
abbrev pub file_sum : Files → ℕ → ℕ
file_sum files number = sum (unwrap_or (file files (render_file number)) [])

-- the largest sum of a raster
abbrev pub most : ℕ
most = 150405120

raster_sum : (bytes : List ℕ) → IsRaster bytes → sum bytes ≤ most
raster_sum bytes is =
    let bound : sum bytes ≤ length bytes * 255 = sum_by-le (λ byte. byte) 255 bytes is.small in
    omega (arith, bound, is.few)

pub sums_within : (files : Files) → HaveRasters files → render_sum files ≤ 4211343360
unfolding render_sum
sums_within files have =
    let numbers = range_with_len 0 28 in
    let each : All (λ number. file_sum files number ≤ most) numbers =
    All-from_get_or (λ number. file_sum files number ≤ most) numbers 0
    (λ i within. subst (λ (number : ℕ). file_sum files number ≤ most) (sym (get_or-range_with_len 0 28 i 0 within)) (raster_sum (unwrap_or (file files (render_file (0 + i))) []) (have (0 + i) (omega (arith, within))))) in
    let whole : render_sum files ≡ sum_by (file_sum files) numbers = sum-map (file_sum files) numbers in
    let bound : sum_by (file_sum files) numbers ≤ 28 * most = sum_by-le (file_sum files) most numbers each in
    omega (arith, whole, bound)
