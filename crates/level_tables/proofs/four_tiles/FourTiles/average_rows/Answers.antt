use Rattle.std.proofs.Common.{◌≡◌, ℕ, ◌+◌, ◌-◌, ◌*◌, ◌≤◌, length, length-drop, length-take, drop, ap, arith}
use Rattle.std.proofs.Math.Nat.{mul-le-mul_right}
use Rattle.pixel_formats.specs.Format.{pixel_bytes}
use Rattle.level_tables.proofs.FourMeans.{HasMeans-next}
use Rattle.level_tables.proofs.four_tiles.FourTiles.average_rows.Goals as goal

pub loop-row-preserved : goal.loop-row-preserved
loop-row-preserved c =
    let count = 64 * c.pixel_bytes.result in
    let row = c.loop-row.row in
    let bytes = c.loop-row.bytes in
    let is : count ≡ 64 * pixel_bytes c.args.format = ap (λ (n : ℕ). 64 * n) c.pixel_bytes.ensures in
    let few : row + 1 ≤ 64 = omega (arith, c.loop-row-test.true) in
    let room : row * count + (row * count + count - row * count) ≤ length bytes =
    omega (arith, mul-le-mul_right count few, is, c.requires.count, c.loop-row.auto.bytes) in
    HasMeans-next c.args.format c.args.self.now row bytes c.average_row.new.to (row * count) (row * count + count - row * count)
    c.loop-row.invariant (ap (λ (m : ℕ). row * m) is) (omega (arith, is)) room
    (omega (arith, c.average_row.ensures.len, length-take (row * count + count - row * count) (drop (row * count) bytes), length-drop (row * count) bytes, room, is))
    c.average_row.ensures.pixels
