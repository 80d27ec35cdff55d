use Rattle.std.proofs.Common.{◌≡◌, ◌+◌, arith, max, min, ◌∙◌, sym, ap}
use Rattle.plane_rect.specs.Rectangle.{Rectangle, end_row, end_column}
use Rattle.operation_regions.proofs.Spans.{clipped-rectangle, sides}
use Rattle.operation_regions.proofs.moves.placed_within.Goals as goal

pub returns : goal.returns
returns c =
    let some = sides c.args.size.now (sym c.is_empty.ensures.value ∙ c.if-is_empty.false) in
    let width : c.size.inside.w ≡ c.args.size.now.width = ap (λ (r : Rectangle). r.width) c.size.view_is in
    let height : c.size.inside.h ≡ c.args.size.now.height = ap (λ (r : Rectangle). r.height) c.size.view_is in
    let l : c.max.result ≡ max (min c.args.first_column (end_column c.args.within.now)) c.args.within.now.first_column = omega arith in
    let t : c.max-2.result ≡ max (min c.args.first_row (end_row c.args.within.now)) c.args.within.now.first_row = omega arith in
    let r : c.up_to-3.result ≡ min (c.args.first_column + c.args.size.now.width) (end_column c.args.within.now) = omega arith in
    let b : c.up_to-4.result ≡ min (c.args.first_row + c.args.size.now.height) (end_row c.args.within.now) = omega arith in
    c.spanning.ensures ∙ rw (l, t, r, b)
    (clipped-rectangle c.args.first_column c.args.first_row c.args.size.now.width c.args.size.now.height c.args.within.now some.0 some.1)
