use Rattle.std.proofs.Common.{◌≡◌, sym, ap, subst, refl}
use Rattle.plane_rect.specs.Rectangle.{Includes, Rectangle}
use Rattle.model_graphs.specs.Windows.{Window}
use Rattle.op_contracts.proofs.Lent.{tile-are}
use Rattle.op_contracts.proofs.part_bytes.lent_tile.Goals as goal

pub returns-then-contains : goal.returns-then-contains
returns-then-contains c =
    let window = c.args.window.now in
    let rect = c.args.rect.now in
    let bounds : c.window.inside.bounds ≡ window.bounds = ap (λ (w : Window). w.bounds) c.window.view_is in
    let inside : Includes window.bounds rect = subst (λ (box : Rectangle). Includes box rect) bounds (c.if-contains.ensures.positions.0 refl) in
    tile-are window rect c.in_ok-whole_tile.field-0 c.in_ok-bytes.bytes.now c.requires c.in_ok-whole_tile.ensures inside (sym c.in_ok-bytes.ensures)
