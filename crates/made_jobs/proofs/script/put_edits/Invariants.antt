use Rattle.std.proofs.Common.{◌≡◌, ◌+◌, ◌-◌, ◌*◌, ◌++◌}
use Rattle.model_runs.specs.MadeJob.{state_after_draws}
use Rattle.made_jobs.proofs.Texts.{text_of_edits}
use Rattle.made_jobs.proofs.script.put_edits.Given as goal

-- what is written and what is still to come are all edits
abbrev pub invariant-loop-edit : goal.invariant-loop-edit
invariant-loop-edit l = record {
  text : l.initial.text.items ++ text_of_edits 1 l.count l.initial.generator.state ≡ l.text.items ++ text_of_edits (l.edit + 1) (l.count - l.edit) l.generator.state;
  state : state_after_draws (l.count * 7) l.initial.generator.state ≡ state_after_draws ((l.count - l.edit) * 7) l.generator.state;
}
