use Rattle.area_kernels.proofs.Squares.{HoldsPart-min}
use Rattle.area_kernels.proofs.extremes.area_min.Goals as goal

pub returns : goal.returns
returns c f u v held = HoldsPart-min c.args.format c.args.area c.pick_format.new.dst f u v (c.pick_format.ensures f u v held)
