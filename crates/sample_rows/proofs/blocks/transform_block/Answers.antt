use Rattle.std.proofs.Common.{◌≡◌, ℕ, ◌+◌, ◌-◌, ◌*◌, ◌≤◌, List, length, take, drop, ap, sym, ◌∙◌, arith}
use borrow.Rule.Slice.PartMut.{put_mid}
use Rattle.sample_rows.specs.Groups.{group_at}
use Rattle.simd_samples.proofs.SliceLaws.{length-part_from, part_from, part_written}
use Rattle.sample_rows.proofs.GroupLaws.{group_at-block}
use Rattle.sample_rows.proofs.blocks.transform_block.Goals as goal

-- a row from a position on
abbrev part : List ℕ → ℕ → List ℕ
part row at = take (length row - at) (drop at row)

pub returns-clause-made : goal.returns-clause-made
returns-clause-made g c k i lt within =
    let K = g.K.TripleKernel in
    let L = g.met.K.TripleKernel in
    let block = c.args.block in
    let dst = c.args.dst.now in
    let to = c.WRITTEN.result * block in
    let room : to ≤ length dst = omega (arith, c.requires.written, ap (λ n. n * block) c.WRITTEN.ensures) in
    let first : group_at K.first (part c.args.a.now (c.FIRST.result * block)) k ≡ group_at K.first c.args.a.now (block * K.count + k) =
    λ t j. group_at-block K.first (part c.args.a.now (c.FIRST.result * block)) c.args.a.now c.FIRST.result K.count block k (c.FIRST.ensures ∙ L.first_blocks.whole) (part_from c.args.a.now (c.FIRST.result * block)) j t in
    let second : group_at K.second (part c.args.b.now (c.SECOND.result * block)) k ≡ group_at K.second c.args.b.now (block * K.count + k) =
    λ t j. group_at-block K.second (part c.args.b.now (c.SECOND.result * block)) c.args.b.now c.SECOND.result K.count block k (c.SECOND.ensures ∙ L.second_blocks.whole) (part_from c.args.b.now (c.SECOND.result * block)) j t in
    let third : group_at K.third (part c.args.c.now (c.THIRD.result * block)) k ≡ group_at K.third c.args.c.now (block * K.count + k) =
    λ t j. group_at-block K.third (part c.args.c.now (c.THIRD.result * block)) c.args.c.now c.THIRD.result K.count block k (c.THIRD.ensures ∙ L.third_blocks.whole) (part_from c.args.c.now (c.THIRD.result * block)) j t in
    let made = c.block.new.dst in
    sym (group_at-block K.to made (put_mid to (length dst - to) dst made) c.WRITTEN.result K.count block k (c.WRITTEN.ensures ∙ L.written_blocks.whole)
    (λ p. part_written dst made to (length dst - to) p (omega arith) (c.block.auto.dst ∙ length-part_from dst to)) i)
    ∙ c.block.ensures k i lt within
    ∙ (λ t. K.value c.args.kernel.now (first t) (second t) (third t) i)
