use Rattle.std.proofs.Common.{◌≡◌, filter, take}
use Rattle.plane_rect.specs.Parts.{parts_of}
use Rattle.plane_rect.specs.Rectangle.{has_positions}
use Rattle.plane_rect.proofs.sets.Parts.gather.Given as goal

abbrev pub invariant-loop-rectangle : goal.invariant-loop-rectangle
invariant-loop-rectangle l = l.gathered ≡ parts_of (filter has_positions (take l.rectangle-index l.rectangle-items))
