use Rattle.std.proofs.Common.{◌≡◌, rules}
use Rattle.plane_rect.specs.Rectangle.{halved}
use Rattle.plane_rect.proofs.Moved.{halved-positions}
use Rattle.plane_rect.proofs.rect.Rect.halved.Goals as goal

pub returns-clause-positions : goal.returns-clause-positions
returns-clause-positions c u v =
    let value : c.spanning.result ≡ halved c.args.self.now = search rules in
    rw value (halved-positions u v c.args.self.now c.first_column.ensures.rectangle)
