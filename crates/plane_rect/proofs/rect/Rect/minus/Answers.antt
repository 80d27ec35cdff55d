use Rattle.std.proofs.Common.{◌≡◌, rules}
use Rattle.plane_rect.specs.Parts.{parts_of}
use Rattle.plane_rect.specs.Rectangle.{minus}
use Rattle.plane_rect.proofs.Differences.{minus-positions, parts-disjoint, parts-some}
use Rattle.plane_rect.proofs.rect.Rect.minus.Goals as goal

-- what is returned where the two meet
value : (c : goal.After-gather-2) → c.gather-2.result ≡ parts_of (minus c.args.self.now c.args.other.now)
value c = search rules

pub returns-clause-positions : goal.returns-clause-positions
returns-clause-positions c u v = rw (value c) (minus-positions u v c.args.self.now c.args.other.now)

pub returns-clause-disjoint : goal.returns-clause-disjoint
returns-clause-disjoint c = rw (value c) (parts-disjoint c.args.self.now c.args.other.now)

pub returns-clause-some : goal.returns-clause-some
returns-clause-some c = rw (value c) (parts-some c.args.self.now c.args.other.now)
