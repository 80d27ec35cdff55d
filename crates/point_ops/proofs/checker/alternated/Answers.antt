use Rattle.std.proofs.Common.{◌≡◌, ℕ, List, ◌-◌, Bool, cond, ◌++◌, ap, ◌∙◌, sym, arith}
use Rattle.std.specs.List.{flat_map, range_with_len}
use Rattle.point_ops.specs.Generated.{by_square}
use Rattle.point_ops.proofs.Squares.{one-more}
use Rattle.point_ops.proofs.checker.alternated.Goals as goal
use Rattle.point_ops.proofs.checker.alternated.Goals.{then-is_even, else-is_even}

pub loop-index-preserved : goal.loop-index-preserved
loop-index-preserved c =
    let even = c.args.even.now in
    let odd = c.args.odd.now in
    let size = c.args.size in
    let u = c.loop-index.index in
    let start = c.args.indices.start in
    let added : c.if-is_even.extend_from_slice.now ≡ by_square size even odd u =
    elim c.if-is_even.branch [
      | then-is_even w ↦ ap (λ s. s.now) w.extend_from_slice-is ∙ sym (ap (λ (b : Bool). cond b even odd) (sym c.is_even.ensures ∙ w.if-is_even.true))
      | else-is_even w ↦ ap (λ s. s.now) w.extend_from_slice-is ∙ sym (ap (λ (b : Bool). cond b even odd) (sym c.is_even.ensures ∙ w.if-is_even.false))
    ] in
    c.in_ok-extend_from_slice.ensures.items
    ∙ ap (λ (xs : List ℕ). xs ++ c.if-is_even.extend_from_slice.now) c.loop-index.invariant
    ∙ ap (λ (xs : List ℕ). flat_map (by_square size even odd) (range_with_len start (u - start)) ++ xs) added
    ∙ sym (one-more (by_square size even odd) start u c.loop-index.auto.index)

pub returns : goal.returns
returns c =
    let last : c.loop-index.index ≡ c.args.indices.end = omega (arith, c.loop-index-test.false, c.loop-index.auto.index-end c.requires.indices) in
    c.loop-index.invariant
    ∙ ap (λ (n : ℕ). flat_map (by_square c.args.size c.args.even.now c.args.odd.now) (range_with_len c.args.indices.start (n - c.args.indices.start))) last
