use Rattle.std.proofs.Common.{◌≡◌, All, map}
use Rattle.std.specs.List.{range_with_len}
use Rattle.point_ops.specs.Generated.{opaque_pixel}
use Rattle.patch_abyss.specs.Samples.{IsSampleOf}
use Rattle.point_ops.proofs.checker.opaque_samples.Given as goal

abbrev pub invariant-loop-channel : goal.invariant-loop-channel
invariant-loop-channel l = record {
  samples : l.samples.items ≡ map (opaque_pixel l.fn.format l.fn.value) (range_with_len 0 l.channel);
  each : All (IsSampleOf l.fn.format) l.samples.items;
}
