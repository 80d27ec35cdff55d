use Rattle.std.proofs.Common.{ℕ, ◌+◌, ◌*◌, ◌∙◌}
use Rattle.sample_rows.specs.Groups.{group_at, groups}
use Rattle.sample_rows.specs.SizeLaws.{lane_index}
use Rattle.sample_rows.proofs.vectors.VectorsPairKernel.block.Goals as goal

pub returns : goal.returns
returns g c k i lt within =
    let L = g.L.Lanes in
    let K = g.K.VectorKernel in
    let index = lane_index K.count K.size g.met.K.VectorKernel.sixteen k in
    let row = groups K.size L.depth in
    c.store.ensures.here (k * K.size + i) (index i lt within)
    ∙ c.vector.ensures k i lt within
    ∙ g.met.K.VectorKernel.value_of_groups c.args.self.now.kernel (λ (j : ℕ). L.lane c.load.result (k * K.size + j)) (λ (j : ℕ). L.lane c.load-2.result (k * K.size + j))
    (group_at row c.args.a.now k) (group_at row c.args.b.now k)
    (λ j inside. c.load.ensures (k * K.size + j) (index j lt inside)) (λ j inside. c.load-2.ensures (k * K.size + j) (index j lt inside)) i within
