use Rattle.std.proofs.Common.{◌≡◌, ◌+◌, ◌-◌, arith, ◌∙◌, sym, ap}
use Rattle.plane_rect.specs.Rectangle.{Rectangle, end_row, end_column}
use Rattle.model_images.specs.Abyss.{nearest}
use Rattle.operation_regions.proofs.Spans.{meet-moved_into}
use Rattle.operation_regions.proofs.areas.nearest_positions.Goals as goal

pub returns : goal.returns
returns c =
    let part = c.args.part.now in
    let within = c.args.within.now in
    let width : c.within.inside.w ≡ within.width = ap (λ (r : Rectangle). r.width) c.within.view_is in
    let height : c.within.inside.h ≡ within.height = ap (λ (r : Rectangle). r.height) c.within.view_is in
    let l : c.nearest.result ≡ nearest within.first_column within.width (part.first_column - c.args.by) = omega arith in
    let t : c.nearest-2.result ≡ nearest within.first_row within.height (part.first_row - c.args.by) = omega arith in
    let r : c.nearest-3.result ≡ nearest within.first_column within.width (end_column part + c.args.by - 1) = omega arith in
    let b : c.nearest-4.result ≡ nearest within.first_row within.height (end_row part + c.args.by - 1) = omega arith in
    c.spanning.ensures ∙ rw (l, t, r, b)
    (sym (meet-moved_into c.args.by part within
    (sym c.is_empty.ensures.value ∙ c.if-is_empty.false)
    (sym c.is_empty-else-is_empty.ensures.value ∙ c.if-is_empty-2.false)))
