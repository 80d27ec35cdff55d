use Rattle.area_ops.proofs.Squares.{area-given}
use Rattle.area_ops.proofs.laws.areas_in_range.Goals as goal

pub returns : goal.returns
returns c = area-given
