use Rattle.std.proofs.Common.{◌≡◌, ap, arith}
use Rattle.plane_rect.specs.Rectangle.{Rectangle}
use Rattle.plane_rect.proofs.RectangleLaws.{part_row-fits, area-fits}
use Rattle.plane_rect.proofs.rect.Rect.part_row.Goals as goal

pub returns-clause-in_area : goal.returns-clause-in_area
returns-clause-in_area c =
    let fits = part_row-fits c.args.self.now c.args.part.now c.args.row c.first_column.ensures.rectangle c.requires.part c.requires.row in
    let width : c.part.inside.w ≡ c.args.part.now.width = ap (λ (r : Rectangle). r.width) c.part.view_is in
    omega (arith, fits, c.offset-start.ensures.value, c.first_column.ensures.value)

pub overflow_add-result : goal.overflow_add-result
overflow_add-result c =
    let small = area-fits c.args.self.now c.offset-start.ensures.rectangle in
    let end = returns-clause-in_area c in
    omega (arith, small, end)
