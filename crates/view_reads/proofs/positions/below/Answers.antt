use Rattle.std.proofs.Common.{◌≡◌, subst, sym}
use Rattle.plane_rect.specs.Rectangle.{IsRectangle, end_column, end_row, spanning}
use Rattle.plane_rect.proofs.RectangleLaws.{IsRectangle-spanning}
use Rattle.view_reads.proofs.Sources.{below-positions, twice}
use Rattle.view_reads.proofs.positions.below.Goals as goal

pub returns-clause-positions : goal.returns-clause-positions
returns-clause-positions c = λ u v.
    let r = c.args.rect.now in
    let is : c.spanning.result ≡ spanning (twice r.first_column) (twice r.first_row) (twice (end_column r)) (twice (end_row r)) =
    rw (
      c.doubled.ensures.value,
      c.doubled-2.ensures.value,
      c.doubled-3.ensures.value,
      c.doubled-4.ensures.value,
      c.first_column.ensures.value,
      c.first_row.ensures.value,
      c.end_column.ensures.value,
      c.end_row.ensures.value,
    ) at c.spanning.ensures in
    rw is (below-positions u v r c.first_column.ensures.rectangle.columns c.first_column.ensures.rectangle.rows)

pub returns-clause-rectangle : goal.returns-clause-rectangle
returns-clause-rectangle c =
    subst IsRectangle (sym c.spanning.ensures)
    (IsRectangle-spanning c.doubled.result c.doubled-2.result c.doubled-3.result c.doubled-4.result c.doubled-3.ensures.in_plane c.doubled-4.ensures.in_plane)
