use Rattle.std.proofs.Common.{◌∙◌}
use Rattle.strip_renders.proofs.fresh.made_or_evaluated.Goals as goal

pub returns-clause-bytes : goal.returns-clause-bytes
returns-clause-bytes g c = λ images known tiles made. c.in_ok-apply_job.ensures ∙ c.in_ok-job.ensures.bytes images known tiles
