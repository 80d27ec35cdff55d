use Rattle.std.proofs.Common.{◌≡◌, ℕ, ◌%◌, ◌+◌, ◌*◌, ◌/◌, ◌<◌, length, refl, sym, ap, ◌∙◌, arith}
use Rattle.std.proofs.Math.Nat.{mul-pos}
use Rattle.sample_rows.specs.Groups.{group_bytes}
use Rattle.sample_rows.proofs.BlockLaws.{HaveBlocks, begun, short, whole_blocks}
use Rattle.sample_rows.proofs.GroupLaws.{MapsTriples-extended}
use Rattle.sample_rows.proofs.blocks.transform_triples.Given
use Rattle.sample_rows.proofs.blocks.transform_triples.Goals.{After-WRITTEN}
use Rattle.sample_rows.proofs.blocks.transform_triples.Goals as goal

module _ (g : Given.Over) (c : After-WRITTEN g) where
  -- a row that is read has as many whole blocks as the one that is written
  blocks_of : (m v other : ℕ) → m % v ≡ 0 → m / v ≡ length c.args.dst.now / group_bytes g.K.TripleKernel.to → 0 < v → other ≡ g.K.TripleKernel.count * v
      → HaveBlocks (length c.args.dst.now) m (group_bytes g.K.TripleKernel.to) v g.K.TripleKernel.count c.WRITTEN.result other
  blocks_of m v other whole same some at_other = record {
    whole = c.requires.first.written;
    whole_other = whole;
    same = same;
    some_u = g.met.K.TripleKernel.written_blocks.some_group;
    some_v = some;
    some = g.met.K.TripleKernel.some_groups;
    at_block = c.WRITTEN.ensures ∙ g.met.K.TripleKernel.written_blocks.whole;
    at_other = at_other;
  }

  first_blocks : HaveBlocks (length c.args.dst.now) (length c.args.a.now) (group_bytes g.K.TripleKernel.to) (group_bytes g.K.TripleKernel.first) g.K.TripleKernel.count c.WRITTEN.result g.K.TripleKernel.FIRST
  first_blocks =
      blocks_of (length c.args.a.now) (group_bytes g.K.TripleKernel.first) g.K.TripleKernel.FIRST c.requires.first.read c.requires.first.same_count g.met.K.TripleKernel.first_blocks.some_group g.met.K.TripleKernel.first_blocks.whole

  second_blocks : HaveBlocks (length c.args.dst.now) (length c.args.b.now) (group_bytes g.K.TripleKernel.to) (group_bytes g.K.TripleKernel.second) g.K.TripleKernel.count c.WRITTEN.result g.K.TripleKernel.SECOND
  second_blocks =
      blocks_of (length c.args.b.now) (group_bytes g.K.TripleKernel.second) g.K.TripleKernel.SECOND c.requires.second.read c.requires.second.same_count g.met.K.TripleKernel.second_blocks.some_group g.met.K.TripleKernel.second_blocks.whole

  third_blocks : HaveBlocks (length c.args.dst.now) (length c.args.c.now) (group_bytes g.K.TripleKernel.to) (group_bytes g.K.TripleKernel.third) g.K.TripleKernel.count c.WRITTEN.result g.K.TripleKernel.THIRD
  third_blocks =
      blocks_of (length c.args.c.now) (group_bytes g.K.TripleKernel.third) g.K.TripleKernel.THIRD c.requires.third.read c.requires.third.same_count g.met.K.TripleKernel.third_blocks.some_group g.met.K.TripleKernel.third_blocks.whole

  written_blocks : HaveBlocks (length c.args.dst.now) (length c.args.dst.now) (group_bytes g.K.TripleKernel.to) (group_bytes g.K.TripleKernel.to) g.K.TripleKernel.count c.WRITTEN.result g.K.TripleKernel.WRITTEN
  written_blocks =
      blocks_of (length c.args.dst.now) (group_bytes g.K.TripleKernel.to) g.K.TripleKernel.WRITTEN c.requires.first.written refl g.met.K.TripleKernel.written_blocks.some_group g.met.K.TripleKernel.written_blocks.whole

pub nonzero_div-blocks : goal.nonzero_div-blocks
nonzero_div-blocks g c =
    let some = mul-pos g.met.K.TripleKernel.some_groups g.met.K.TripleKernel.written_blocks.some_group in
    omega (arith, some, c.WRITTEN.ensures ∙ g.met.K.TripleKernel.written_blocks.whole)

pub nonzero_rem-dst : goal.nonzero_rem-dst
nonzero_rem-dst g c =
    let some = mul-pos g.met.K.TripleKernel.some_groups g.met.K.TripleKernel.written_blocks.some_group in
    omega (arith, some, c.WRITTEN-2.ensures ∙ g.met.K.TripleKernel.written_blocks.whole)

pub transform_block-requires-clause-first : goal.transform_block-requires-clause-first
transform_block-requires-clause-first g c = begun (first_blocks g (goal.at.transform_block-requires-clause-first g c).After-WRITTEN) (c.loop-block.block + 1) (omega arith)

pub transform_rest-requires-clause-first_begun : goal.transform_rest-requires-clause-first_begun
transform_rest-requires-clause-first_begun g c = begun (first_blocks g (goal.at.transform_rest-requires-clause-first_begun g c).After-WRITTEN) (length c.args.dst.now / c.WRITTEN.result) (omega arith)

pub transform_rest-requires-clause-first_short : goal.transform_rest-requires-clause-first_short
transform_rest-requires-clause-first_short g c = short (first_blocks g (goal.at.transform_rest-requires-clause-first_short g c).After-WRITTEN)

pub transform_block-requires-clause-second : goal.transform_block-requires-clause-second
transform_block-requires-clause-second g c = begun (second_blocks g (goal.at.transform_block-requires-clause-second g c).After-WRITTEN) (c.loop-block.block + 1) (omega arith)

pub transform_rest-requires-clause-second_begun : goal.transform_rest-requires-clause-second_begun
transform_rest-requires-clause-second_begun g c = begun (second_blocks g (goal.at.transform_rest-requires-clause-second_begun g c).After-WRITTEN) (length c.args.dst.now / c.WRITTEN.result) (omega arith)

pub transform_rest-requires-clause-second_short : goal.transform_rest-requires-clause-second_short
transform_rest-requires-clause-second_short g c = short (second_blocks g (goal.at.transform_rest-requires-clause-second_short g c).After-WRITTEN)

pub transform_block-requires-clause-third : goal.transform_block-requires-clause-third
transform_block-requires-clause-third g c = begun (third_blocks g (goal.at.transform_block-requires-clause-third g c).After-WRITTEN) (c.loop-block.block + 1) (omega arith)

pub transform_rest-requires-clause-third_begun : goal.transform_rest-requires-clause-third_begun
transform_rest-requires-clause-third_begun g c = begun (third_blocks g (goal.at.transform_rest-requires-clause-third_begun g c).After-WRITTEN) (length c.args.dst.now / c.WRITTEN.result) (omega arith)

pub transform_rest-requires-clause-third_short : goal.transform_rest-requires-clause-third_short
transform_rest-requires-clause-third_short g c = short (third_blocks g (goal.at.transform_rest-requires-clause-third_short g c).After-WRITTEN)

pub transform_rest-requires-clause-written_short : goal.transform_rest-requires-clause-written_short
transform_rest-requires-clause-written_short g c =
    omega (arith, short (written_blocks g (goal.at.transform_rest-requires-clause-written_short g c).After-WRITTEN))

pub loop-block-preserved : goal.loop-block-preserved
loop-block-preserved g c =
    let K = g.K.TripleKernel in
    let block = c.loop-block.block in
    MapsTriples-extended K.first K.second K.third K.to (K.value c.args.kernel.now) c.args.a.now c.args.b.now c.args.c.now c.loop-block.dst c.transform_block.new.dst (block * K.count) (block * K.WRITTEN) ((block + 1) * K.count)
    (omega (arith, ap (λ w. block * w) g.met.K.TripleKernel.written_blocks.whole)) c.loop-block.invariant c.transform_block.ensures.kept
    (λ k i lt within. c.transform_block.ensures.made k i (omega arith) within)

pub returns-then-dst-WRITTEN-gt0 : goal.returns-then-dst-WRITTEN-gt0
returns-then-dst-WRITTEN-gt0 g c =
    let K = g.K.TripleKernel in
    let blocks = length c.args.dst.now / c.WRITTEN.result in
    let old = c.loop-block.dst in
    let new = c.transform_rest.new.dst in
    let same_total : length new / group_bytes K.to ≡ length old / group_bytes K.to = ap (λ l. l / group_bytes K.to) c.transform_rest.auto.dst in
    let all : c.loop-block.block ≡ blocks = omega arith in
    MapsTriples-extended K.first K.second K.third K.to (K.value c.args.kernel.now) c.args.a.now c.args.b.now c.args.c.now old new (blocks * K.count) (blocks * K.WRITTEN) (length new / group_bytes K.to)
    (omega (arith, ap (λ w. blocks * w) g.met.K.TripleKernel.written_blocks.whole))
    (λ k i lt within. c.loop-block.invariant k i (omega (arith, ap (λ b. b * K.count) all)) within) c.transform_rest.ensures.kept
    (λ k i lt within. c.transform_rest.ensures.made k i (omega (arith, same_total)) within)

pub returns-else-dst-WRITTEN-gt0 : goal.returns-else-dst-WRITTEN-gt0
returns-else-dst-WRITTEN-gt0 g c k i lt within =
    let K = g.K.TripleKernel in
    let old = c.args.dst.now in
    let long = length old in
    let blocks = long / c.WRITTEN.result in
    let all : c.loop-block.block ≡ blocks = omega arith in
    let same_total : length c.loop-block.dst / group_bytes K.to ≡ long / group_bytes K.to = ap (λ l. l / group_bytes K.to) c.loop-block.auto.dst in
    let none : long % c.WRITTEN.result ≡ 0 =
    ap (λ l. l % c.WRITTEN.result) (sym c.loop-block.auto.dst) ∙ ap (λ w. length c.loop-block.dst % w) (c.WRITTEN.ensures ∙ sym c.WRITTEN-2.ensures) ∙ omega (arith, c.if-dst-WRITTEN-gt0.false) in
    c.loop-block.invariant k i (omega (
      arith,
      lt,
      same_total,
      ap (λ b. b * K.count) all,
      whole_blocks (written_blocks g (goal.at.returns-else-dst-WRITTEN-gt0 g c).After-WRITTEN) none,
    )) within
