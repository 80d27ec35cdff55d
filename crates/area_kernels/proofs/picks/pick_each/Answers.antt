use Rattle.std.proofs.Common.{◌≡◌, ℕ, ◌+◌, ◌*◌, subst, arith}
use Rattle.pixel_formats.specs.Sample.{sample_at}
use Rattle.area_kernels.proofs.Sweeps.{PickedBelow, PickedBelow-more}
use Rattle.area_kernels.proofs.picks.pick_each.Goals as goal

pub loop-block-preserved : goal.loop-block-preserved
loop-block-preserved g c =
    let s = sample_at g.L.Lanes.depth in
    let old = s c.args.samples.now in
    let new = s c.pick_block.new.samples in
    let next : 16 * c.loop-block.block + 16 ≡ 16 * (c.loop-block.block + 1) = omega arith in
    subst (λ (n : ℕ). PickedBelow g.P.Pick.pick c.args.by n old new) next
    (PickedBelow-more g.P.Pick.pick c.args.by (16 * c.loop-block.block) old (s c.loop-block.samples) new c.loop-block.invariant
    c.pick_block.ensures.here c.pick_block.ensures.before c.pick_block.ensures.after)
