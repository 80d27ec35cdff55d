use Rattle.std.proofs.Common.{◌≡◌, rules}
use Rattle.plane_rect.specs.Rectangle.{hull}
use Rattle.plane_rect.proofs.Differences.{hull-minimum}
use Rattle.plane_rect.proofs.rect.Rect.hull.Goals as goal

pub returns-clause-minimum : goal.returns-clause-minimum
returns-clause-minimum c r p q =
    let value : c.spanning.result ≡ hull c.args.self.now c.args.other.now = search rules in
    rw value (hull-minimum c.args.self.now c.args.other.now r p q)
