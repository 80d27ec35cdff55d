use Rattle.std.proofs.Common.{◌≡◌, ◌++◌, drop}
use Rattle.roi_planner.specs.Inputs.{all_inputs, inputs_among}
use Rattle.roi_planner.proofs.inputs.all_inputs.Given as goal

abbrev pub invariant-loop-node : goal.invariant-loop-node
invariant-loop-node g l =
    l.all.items ++ inputs_among l.nodes (drop l.node-index l.nodes) ≡ all_inputs l.nodes
