use Rattle.std.proofs.Common.{◌≡◌, ℕ, ◌+◌, ◌-◌, ◌*◌, ◌<◌, ◌≤◌, length, get_or, ap, sym, ◌∙◌, arith}
use Rattle.std.proofs.Math.Nat.{le-div_iff_mul-le, lt_of_mul-lt-mul_right}
use Rattle.std.proofs.lemmas.List.{get_or-take}
use borrow.Rule.Slice.PartMut.{put_mid}
use Rattle.sample_rows.specs.Groups.{group_at, group_bytes}
use Rattle.simd_samples.proofs.SliceLaws.{length-part_from, part_from, part_written}
use Rattle.sample_rows.proofs.GroupLaws.{group_at-below, group_at-block}
use Rattle.sample_rows.proofs.blocks.transform_rest.Goals as goal

pub returns-clause-made : goal.returns-clause-made
returns-clause-made g c k i lt within =
    let K = g.K.TripleKernel in
    let L = g.met.K.TripleKernel in
    let blocks = c.args.blocks in
    let dst = c.args.dst.now in
    let to = c.WRITTEN.result * blocks in
    let bytes : to ≡ blocks * K.count * group_bytes K.to = omega (arith, ap (λ n. n * blocks) (c.WRITTEN.ensures ∙ L.written_blocks.whole)) in
    let room : to ≤ length dst = omega (arith, c.requires.written_begun, ap (λ n. n * blocks) c.WRITTEN.ensures) in
    let far : (blocks * K.count + k + 1) * group_bytes K.to ≤ length dst = (le-div_iff_mul-le L.written_blocks.some_group).0 (omega (arith, lt)) in
    let few : blocks * K.count + k < (blocks + 1) * K.count =
    lt_of_mul-lt-mul_right (group_bytes K.to) (omega (arith, far, L.written_blocks.some_group, c.requires.written_short, ap (λ n. (blocks + 1) * n) L.written_blocks.whole)) in
    let part = c.copy_from_slice.new.self in
    let made = c.block.new.dst in
    let first : group_at K.first c.padded-first.result k ≡ group_at K.first c.args.a.now (blocks * K.count + k) =
    λ t j. group_at-block K.first c.padded-first.result c.args.a.now c.FIRST.result K.count blocks k (c.FIRST.ensures ∙ L.first_blocks.whole) (λ p. c.padded-first.ensures p ∙ part_from c.args.a.now (c.FIRST.result * blocks) p) j t in
    let second : group_at K.second c.padded-second.result k ≡ group_at K.second c.args.b.now (blocks * K.count + k) =
    λ t j. group_at-block K.second c.padded-second.result c.args.b.now c.SECOND.result K.count blocks k (c.SECOND.ensures ∙ L.second_blocks.whole) (λ p. c.padded-second.ensures p ∙ part_from c.args.b.now (c.SECOND.result * blocks) p) j t in
    let third : group_at K.third c.padded-third.result k ≡ group_at K.third c.args.c.now (blocks * K.count + k) =
    λ t j. group_at-block K.third c.padded-third.result c.args.c.now c.THIRD.result K.count blocks k (c.THIRD.ensures ∙ L.third_blocks.whole) (λ p. c.padded-third.ensures p ∙ part_from c.args.c.now (c.THIRD.result * blocks) p) j t in
    let long : length part ≡ length dst - to = c.copy_from_slice.auto.self ∙ length-part_from dst to in
    sym (group_at-block K.to part (put_mid to (length dst - to) dst part) c.WRITTEN.result K.count blocks k (c.WRITTEN.ensures ∙ L.written_blocks.whole) (λ p. part_written dst part to (length dst - to) p (omega arith) long) i)
    ∙ group_at-below K.to part made (k + 1) (length part) k i (omega (arith, far)) (omega arith) within
    (λ p near. ap (λ l. get_or l p 0) c.copy_from_slice.ensures.after ∙ get_or-take _ made p 0 (omega (arith, near, c.copy_from_slice.auto.self)))
    ∙ c.block.ensures k i (omega (arith, few)) within
    ∙ (λ t. K.value c.args.kernel.now (first t) (second t) (third t) i)
