use Rattle.std.proofs.Common.{◌≡◌, ◌-◌}
use Rattle.std.specs.List.{flat_map, range_with_len}
use Rattle.point_ops.specs.Generated.{by_square}
use Rattle.point_ops.proofs.checker.alternated.Given as goal

abbrev pub invariant-loop-index : goal.invariant-loop-index
invariant-loop-index l =
    l.bytes.items ≡ flat_map (by_square l.size l.even l.odd) (range_with_len l.fn.indices.start (l.index - l.fn.indices.start))
