use Rattle.std.proofs.Common.{◌≡◌, ◌+◌, ◌*◌, ◌≤◌, length, subst, arith}
use Rattle.simd_samples.proofs.VectorLaws.{vectors_fit}
use Rattle.simd_samples.proofs.vectors.load_three.Goals as goal

pub load_at-requires : goal.load_at-requires
load_at-requires g c =
    let same : 16 * c.args.from + 0 + 16 ≡ 16 * c.args.from + 16 = omega arith in
    subst (λ k. g.L.Lanes.depth * k ≤ length c.args.src.now) same (vectors_fit g.L.Lanes.depth g.L.Lanes.BYTES c.args.from 0 _ g.met.L.Lanes.sixteen (omega arith) c.requires)

pub load_at-requires-2 : goal.load_at-requires-2
load_at-requires-2 g c = vectors_fit g.L.Lanes.depth g.L.Lanes.BYTES c.args.from 16 _ g.met.L.Lanes.sixteen (omega arith) c.requires

pub load_at-requires-3 : goal.load_at-requires-3
load_at-requires-3 g c = vectors_fit g.L.Lanes.depth g.L.Lanes.BYTES c.args.from 32 _ g.met.L.Lanes.sixteen (omega arith) c.requires
