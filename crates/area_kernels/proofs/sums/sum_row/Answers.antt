use Rattle.std.proofs.Common.{◌≡◌, ℕ, ◌+◌, ◌*◌, ◌<◌, ◌≤◌, subst, arith}
use Rattle.pixel_formats.specs.Sample.{max_sample_of}
use Rattle.area_kernels.specs.Sequences.{sum_of}
use Rattle.area_kernels.proofs.SumLaws.{SumsBelow, SumsBelow-clear, SumsBelow-made, SumsBelow-more, sample_within, sum-next, sum-slid}
use Rattle.area_kernels.proofs.sums.sum_row.Goals as goal

pub loop-x-preserved : goal.loop-x-preserved
loop-x-preserved g c =
    let n = c.args.channels in
    let reach = c.args.reach in
    let width = c.args.width in
    let s = g.C.ColumnSums.sum c.args.row.now in
    let x = c.loop-x.x in
    let within : x < width = omega arith in
    let room : 129 * (129 * max_sample_of g.L.Lanes.depth) < g.F.FourSums.limit = omega (arith, g.met.C.ColumnSums.square_room) in
    let small : (k : ℕ) → k < n → (m : ℕ) → m ≤ reach → s ((x + m) * n + k) ≤ 129 * max_sample_of g.L.Lanes.depth =
    λ k channel m le. c.requires.small ((x + m) * n + k) (sample_within n width reach x k m within channel le) in
    let whole : (k : ℕ) → k < n → g.F.FourSums.lane c.wrapping_add-whole.result k ≡ sum_of (reach + 1) (λ m. s ((x + m) * n + k)) =
    λ k channel.
    sum-next g.F.FourSums.limit (129 * max_sample_of g.L.Lanes.depth) room (λ m. s ((x + m) * n + k)) reach (g.F.FourSums.lane c.loop-x.sum k) (g.F.FourSums.lane c.four-entering.result k) (g.F.FourSums.lane c.wrapping_add-whole.result k) c.requires.few (small k channel)
    (c.wrapping_add-whole.ensures k (omega arith)) (c.loop-x.invariant.next k channel) (c.four-entering.ensures k (omega arith)) in
    record {
      made = SumsBelow-more s n reach width (g.S.SquareSums.sum c.loop-x.squares) (g.S.SquareSums.sum c.store_at.new.self) x (g.F.FourSums.lane c.wrapping_add-whole.result) c.requires.channels within c.store_at.ensures.here whole
          c.store_at.ensures.before c.store_at.ensures.after c.loop-x.invariant.made;
      next = λ k channel.
          sum-slid g.F.FourSums.limit (129 * max_sample_of g.L.Lanes.depth) room s n k x reach (g.F.FourSums.lane c.wrapping_add-whole.result k) (g.F.FourSums.lane c.four-leaving.result k) (g.F.FourSums.lane c.wrapping_sub-sum.result k) c.requires.few (small k channel) (c.wrapping_sub-sum.ensures k (omega arith)) (whole k channel)
          (c.four-leaving.ensures k (omega arith));
    }

pub returns-clause-made : goal.returns-clause-made
returns-clause-made g c =
    let n = c.args.channels in
    let reach = c.args.reach in
    let width = c.args.width in
    let s = g.C.ColumnSums.sum c.args.row.now in
    let done : c.loop-x.x ≡ width = omega arith in
    SumsBelow-made s n reach width (g.S.SquareSums.sum c.loop-x.squares) (g.S.SquareSums.sum c.store_at-2.new.self) c.store_at-2.ensures.before
    (subst (λ (m : ℕ). SumsBelow s n reach width m (g.S.SquareSums.sum c.loop-x.squares)) done c.loop-x.invariant.made)

pub returns-clause-clear : goal.returns-clause-clear
returns-clause-clear g c =
    let n = c.args.channels in
    let reach = c.args.reach in
    let width = c.args.width in
    let s = g.C.ColumnSums.sum c.args.row.now in
    let done : c.loop-x.x ≡ width = omega arith in
    SumsBelow-clear s n reach width (g.S.SquareSums.sum c.loop-x.squares) (g.S.SquareSums.sum c.store_at-2.new.self) (g.F.FourSums.lane c.zeros.result) c.store_at-2.ensures.here c.zeros.ensures c.store_at-2.ensures.after
    (subst (λ (m : ℕ). SumsBelow s n reach width m (g.S.SquareSums.sum c.loop-x.squares)) done c.loop-x.invariant.made)
