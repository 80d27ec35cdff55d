use Rattle.std.proofs.Common.{◌≡◌, take}
use Rattle.plain_images.specs.Evaluation.{inputs_among}
use Rattle.plain_images.proofs.evaluation.inputs_among.Given as goal

abbrev pub invariant-loop-position : goal.invariant-loop-position
invariant-loop-position l = l.inputs.items ≡ inputs_among l.before (take l.position-index l.positions)
