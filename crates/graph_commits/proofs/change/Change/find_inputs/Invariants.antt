use Rattle.std.proofs.Common.{◌≡◌, ◌++◌, ◌&&◌, drop, map}
use Rattle.model_graphs.specs.Facts.{specs_of}
use Rattle.model_graphs.specs.Node.{index_of}
use Rattle.model_states.specs.Damage.{have_same_shapes, new_boxes}
use Rattle.graph_commits.proofs.change.Change.find_inputs.Given as goal

abbrev pub invariant-loop-name : goal.invariant-loop-name
invariant-loop-name g l =
    (l.inputs.positions.items ++ map (index_of (specs_of l.self.new.nodes)) (drop l.name-index l.names)
    ≡ map (index_of (specs_of l.self.new.nodes)) l.names)
    × (l.inputs.boxes.items ++ new_boxes l.self (drop l.name-index l.names) ≡ new_boxes l.self l.names)
    × ((l.same && have_same_shapes l.self (drop l.name-index l.names)) ≡ have_same_shapes l.self l.names)
