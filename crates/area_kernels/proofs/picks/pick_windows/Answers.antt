use Rattle.std.proofs.Common.{◌≡◌, ℕ, ◌+◌, ◌-◌, ◌*◌, ◌≤◌, ap, arith}
use Rattle.std.proofs.Math.Nat.{mul-le-mul_left, mul-le-mul_right}
use Rattle.pixel_formats.specs.Sample.{sample_at}
use Rattle.area_kernels.proofs.Sweeps.{PickedOf-more}
use Rattle.area_kernels.proofs.picks.pick_windows.Goals as goal

pub loop-picked-preserved : goal.loop-picked-preserved
loop-picked-preserved g c =
    let P = g.P.Pick.pick in
    let s = sample_at g.L.Lanes.depth in
    let n = c.loop-picked.picked in
    let by = c.args.by in
    let valid = c.args.valid in
    let some = c.loop-picked.invariant.some in
    record {
      some = omega arith;
      few = omega arith;
      windows = PickedOf-more P g.met.P.Pick.picks by valid n n (valid + by - 2 * n * by) (n * 2) (s c.args.samples.now) (s c.loop-picked.samples) (s c.pick_each.new.samples) some (omega arith) (omega arith) c.loop-picked.invariant.windows
          (λ i lt. omega (arith, lt)) c.pick_each.ensures;
    }

pub pick_each-requires-2 : goal.pick_each-requires-2
pick_each-requires-2 g c =
    let n = c.loop-picked.picked in
    let by = c.args.by in
    let valid = c.args.valid in
    let size = c.args.size in
    let some : 1 ≤ n = c.loop-picked.invariant.some in
    let few = c.loop-picked.invariant.few in
    let all : size - n + n ≡ size = omega arith in
    let within : valid + by - size * by + (size - n) * by + 16 ≤ valid + 16 = omega (arith, c.requires.few, ap (λ (m : ℕ). m * by) all, mul-le-mul_right by some) in
    omega (arith, mul-le-mul_left g.L.Lanes.depth within, c.requires.room, c.loop-picked.auto.samples)

pub returns : goal.returns
returns g c =
    let P = g.P.Pick.pick in
    let s = sample_at g.L.Lanes.depth in
    let n = c.loop-picked.picked in
    let by = c.args.by in
    let valid = c.args.valid in
    let size = c.args.size in
    let some = c.loop-picked.invariant.some in
    let few = c.loop-picked.invariant.few in
    let all : size - n + n ≡ size = omega arith in
    (PickedOf-more P g.met.P.Pick.picks by valid n (size - n) (valid + by - size * by) size (s c.args.samples.now) (s c.loop-picked.samples) (s c.pick_each-2.new.samples) some (omega arith) (omega arith) c.loop-picked.invariant.windows
    (λ i lt. omega (arith, lt, ap (λ (m : ℕ). m * by) all)) c.pick_each-2.ensures).windows
