use Rattle.std.proofs.Common.{◌≡◌, ◌-◌, ◌++◌}
use Rattle.model_runs.specs.MadeJob.{draws}
use Rattle.made_jobs.proofs.generator.Generator.draw_bytes.Given as goal

-- what is drawn and what is still to come are all draws
abbrev pub invariant-loop-draw : goal.invariant-loop-draw
invariant-loop-draw l = draws l.count l.initial.self.state ≡ l.bytes.items ++ draws (l.count - l._draw) l.self.state
