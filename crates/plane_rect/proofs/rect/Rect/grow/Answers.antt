use Rattle.std.proofs.Common.{◌≡◌, ◌+◌, ◌-◌, rules, arith, sym, ◌∙◌}
use Rattle.plane_rect.specs.Rectangle.{spanning, end_column, end_row}
use Rattle.plane_rect.proofs.Moved.{grown-positions}
use Rattle.plane_rect.proofs.rect.Rect.grow.Goals as goal

pub returns-clause-positions : goal.returns-clause-positions
returns-clause-positions c u v =
    let r = c.args.self.now in
    let value : c.spanning.result ≡ spanning (r.first_column - c.args.by) (r.first_row - c.args.by) (end_column r + c.args.by) (end_row r + c.args.by) = search rules in
    rw value (grown-positions c.args.by u v r (sym c.is_empty.ensures.value ∙ c.if-is_empty.false) (omega arith) (omega arith))
