use Rattle.std.proofs.Common.{◌≡◌, ℕ, List, ◌+◌, ◌++◌, ap, ◌∙◌, sym, arith}
use Rattle.std.specs.List.{flat_map, range_with_len}
use Rattle.point_ops.specs.Flipped.{chunk_from_end}
use Rattle.point_ops.proofs.Squares.{flat-more}
use Rattle.point_ops.proofs.flip.reversed.Goals as goal

pub loop-number-preserved : goal.loop-number-preserved
loop-number-preserved c =
    let chunk = chunk_from_end c.args.chunks.now c.args.n c.args.count in
    let i = c.loop-number.number in
    let there : 0 + i ≡ i = omega arith in
    c.in_ok-extend_from_slice.ensures.items
    ∙ ap (λ (xs : List ℕ). xs ++ chunk i) c.loop-number.invariant
    ∙ sym (flat-more chunk 0 i ∙ ap (λ (n : ℕ). flat_map chunk (range_with_len 0 i) ++ chunk n) there)
