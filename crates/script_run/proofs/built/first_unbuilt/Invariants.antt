use Rattle.std.proofs.Common.{◌≡◌, drop}
use Rattle.model_runs.specs.Built.{first_unbuilt}
use Rattle.script_run.proofs.built.first_unbuilt.Given as goal

abbrev pub invariant-loop-line : goal.invariant-loop-line
invariant-loop-line l = first_unbuilt l.fn.lines ≡ first_unbuilt (drop l.line-index l.lines)
