use Rattle.std.proofs.Common.{◌≡◌}
use Rattle.plane_rect.specs.Rectangle.{meet}
use Rattle.plane_rect.proofs.Rectangles.{Inside-meet}
use Rattle.plane_rect.proofs.rect.Rect.meet.Goals as goal

pub returns-clause-positions : goal.returns-clause-positions
returns-clause-positions c u v =
    let value : c.spanning.result ≡ meet c.args.self.now c.args.other.now = cc in
    rw value (Inside-meet u v c.args.self.now c.args.other.now)
