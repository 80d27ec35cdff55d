use Rattle.std.proofs.Common.{◌≡◌, ◌-◌}
use Rattle.std.specs.List.{flat_map, range_with_len}
use Rattle.plane_rect.specs.Rectangle.{end_column}
use Rattle.point_ops.specs.Generated.{by_square, opaque_pixel}
use Rattle.point_ops.proofs.Squares.{IsPixel, checkerboard-made}
use Rattle.point_ops.proofs.checker.checker_bytes.Goals as goal

pub returns : goal.returns
returns c =
    let out = c.args.out.now in
    let format = c.args.format in
    let size = c.args.size in
    let first = c.in_ok-first.first.items in
    let second = c.in_ok-second.second.items in
    let even = c.in_ok-even.even.items in
    let odd = c.in_ok-odd.odd.items in
    let one : IsPixel format (opaque_pixel format c.args.v1) first = record { count = c.in_ok-first.ensures.count; samples = c.in_ok-first.ensures.pixel } in
    let other : IsPixel format (opaque_pixel format c.args.v2) second = record { count = c.in_ok-second.ensures.count; samples = c.in_ok-second.ensures.pixel } in
    let is : even ≡ flat_map (by_square size first second) (range_with_len out.first_column (end_column out - out.first_column)) =
    rw (c.deref.ensures.value, c.deref-2.ensures.value, c.first_column-start.ensures.value, c.end_column-end.ensures.value) at c.in_ok-even.ensures in
    let beside : odd ≡ flat_map (by_square size second first) (range_with_len out.first_column (end_column out - out.first_column)) =
    rw (c.deref-3.ensures.value, c.deref-4.ensures.value, c.first_column-start.ensures.value, c.end_column-end.ensures.value) at c.in_ok-odd.ensures in
    checkerboard-made format size c.args.v1 c.args.v2 out first second even odd c.alternated-3.result one other is beside
    (rw (c.deref-5.ensures.value, c.deref-6.ensures.value, c.first_row.ensures.value, c.end_row.ensures.value) at c.alternated-3.ensures)
