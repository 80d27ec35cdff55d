use Rattle.std.proofs.Common.{◌≤◌, length, ◌∙◌, arith}
use Rattle.simd_samples.proofs.SliceLaws.{length-part_from, sample_at-after, sample_at-kept, sample_at-written}
use Rattle.simd_samples.proofs.vectors.store_at.Goals as goal

pub returns-clause-here : goal.returns-clause-here
returns-clause-here g c j lt =
    let dst = c.args.dst.now in
    let to = c.first_byte.result in
    let room : to ≤ length dst = omega (arith, c.requires, c.first_byte.ensures) in
    sample_at-written g.L.Lanes.depth c.args.from to dst c.store.new.dst c.first_byte.ensures room (c.store.auto.dst ∙ length-part_from dst to) j
    ∙ c.store.ensures.here j lt

pub returns-clause-before : goal.returns-clause-before
returns-clause-before g c i lt =
    let dst = c.args.dst.now in
    let to = c.first_byte.result in
    let room : to ≤ length dst = omega (arith, c.requires, c.first_byte.ensures) in
    sample_at-kept g.L.Lanes.depth c.args.from to dst c.store.new.dst c.first_byte.ensures room (c.store.auto.dst ∙ length-part_from dst to) i lt

pub returns-clause-after : goal.returns-clause-after
returns-clause-after g c i far =
    let dst = c.args.dst.now in
    let to = c.first_byte.result in
    let room : to ≤ length dst = omega (arith, c.requires, c.first_byte.ensures) in
    sample_at-after g.L.Lanes.depth c.args.from to dst c.store.new.dst c.first_byte.ensures room (c.store.auto.dst ∙ length-part_from dst to) 16
    (λ k past. c.store.ensures.after k (omega (arith, past, g.met.L.Lanes.sixteen))) i far
