use Rattle.std.proofs.Common.{◌*◌, ◌∙◌, ap}
use Rattle.model_runs.specs.MadeJob.{draws, made_raster, made_script, state_after_draws}
use Rattle.made_jobs.proofs.job.make_script.Goals as goal

pub returns-clause-script : goal.returns-clause-script
unfolding made_script
returns-clause-script c = rw c.new-generator.ensures at c.in_ok-script.ensures.text

pub returns-clause-raster : goal.returns-clause-raster
unfolding made_raster
returns-clause-raster c =
    c.in_ok-raster.ensures ∙ ap (draws (512 * 384 * 3)) (c.in_ok-script.ensures.state ∙ ap (state_after_draws (24 * 7)) c.new-generator.ensures)
