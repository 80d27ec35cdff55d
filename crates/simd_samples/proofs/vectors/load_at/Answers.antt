use Rattle.std.proofs.Common.{◌+◌, ◌∙◌, refl}
use Rattle.simd_samples.proofs.SliceLaws.{part_from, sample_at-shift}
use Rattle.simd_samples.proofs.vectors.load_at.Goals as goal

pub returns : goal.returns
returns g c j lt =
    let d = g.L.Lanes.depth in
    c.load.ensures j lt
    ∙ sample_at-shift d _ c.args.src.now c.args.from c.first_byte.result j (c.args.from + j) c.first_byte.ensures refl (λ p. part_from c.args.src.now c.first_byte.result p)
