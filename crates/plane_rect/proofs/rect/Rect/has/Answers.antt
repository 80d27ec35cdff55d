use Rattle.std.proofs.Common.{◌≡◌, arith, ap, sym, ◌∙◌}
use Rattle.std.proofs.lemmas.Int.{ints, to_z-of_z}
use Rattle.plane_rect.specs.Rectangle.{Rectangle, plane_coordinate}
use Rattle.plane_rect.proofs.Rectangles.{plane_coordinate-plane_index}
use Rattle.plane_rect.proofs.rect.Rect.has.Goals as goal

pub returns-then-is_within : goal.returns-then-is_within
returns-then-is_within c =
    let first_column : plane_coordinate c.args.self.now.first_column ≡ c.self.inside.x = ap (λ (r : Rectangle). plane_coordinate r.first_column) (sym c.self.view_is) ∙ plane_coordinate-plane_index c.self.inside.x c.self.invariant.column_in_plane in
    let first_row : plane_coordinate c.args.self.now.first_row ≡ c.self.inside.y = ap (λ (r : Rectangle). plane_coordinate r.first_row) (sym c.self.view_is) ∙ plane_coordinate-plane_index c.self.inside.y c.self.invariant.row_in_plane in
    rw (first_column, first_row) (grind (arith, ints, to_z-of_z))
