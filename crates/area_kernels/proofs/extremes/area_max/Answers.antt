use Rattle.area_kernels.proofs.Squares.{HoldsPart-max}
use Rattle.area_kernels.proofs.extremes.area_max.Goals as goal

pub returns : goal.returns
returns c f u v held = HoldsPart-max c.args.format c.args.area c.pick_format.new.dst f u v (c.pick_format.ensures f u v held)
