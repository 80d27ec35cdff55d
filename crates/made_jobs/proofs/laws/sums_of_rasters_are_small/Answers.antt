use Rattle.made_jobs.proofs.RasterSums.{sums_within}
use Rattle.made_jobs.proofs.laws.sums_of_rasters_are_small.Goals as goal

pub returns : goal.returns
returns c = sums_within
