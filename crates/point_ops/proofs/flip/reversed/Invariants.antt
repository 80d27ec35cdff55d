use Rattle.std.proofs.Common.{◌≡◌}
use Rattle.std.specs.List.{flat_map, range_with_len}
use Rattle.point_ops.specs.Flipped.{chunk_from_end}
use Rattle.point_ops.proofs.flip.reversed.Given as goal

abbrev pub invariant-loop-number : goal.invariant-loop-number
invariant-loop-number l =
    l.bytes.items ≡ flat_map (chunk_from_end l.chunks l.n l.count) (range_with_len 0 l.number)
