use Rattle.std.proofs.Common.{◌≡◌, ℕ, ◌+◌, ◌*◌, ◌<◌}
use Rattle.pixel_formats.specs.Sample.{sample_at}
use Rattle.area_kernels.proofs.rows.copy_rows.Given as goal

abbrev pub invariant-loop-y : goal.invariant-loop-y
invariant-loop-y g l =
    let d = g.L.Lanes.depth in
    (y i : ℕ) → y < l.y → i < l.count → sample_at d l.to (y * l.count + i) ≡ sample_at d l.from (y * l.stride + i)
