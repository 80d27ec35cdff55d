use Rattle.std.proofs.Common.{◌≡◌, ◌+◌, ◌-◌, max, min, arith, ◌∙◌, sym}
use Rattle.plane_rect.specs.Rectangle.{end_row, end_column}
use Rattle.operation_regions.proofs.Spans.{meet-surrounded}
use Rattle.operation_regions.proofs.areas.surrounded.Goals as goal

pub returns : goal.returns
returns c =
    let part = c.args.part.now in
    let within = c.args.within.now in
    let l : c.max.result ≡ max (part.first_column - c.args.by) within.first_column = omega arith in
    let t : c.max-2.result ≡ max (part.first_row - c.args.by) within.first_row = omega arith in
    let r : c.min.result ≡ min (end_column part + c.args.by) (end_column within) = omega arith in
    let b : c.min-2.result ≡ min (end_row part + c.args.by) (end_row within) = omega arith in
    c.spanning.ensures ∙ rw (l, t, r, b)
    (sym (meet-surrounded c.args.by part within (sym c.is_empty.ensures.value ∙ c.if-is_empty.false)))
