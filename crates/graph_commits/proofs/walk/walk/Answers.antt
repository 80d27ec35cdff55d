use Rattle.std.proofs.Common.{◌<◌, length, sym, []}
use Rattle.model_graphs.specs.Facts.{shapes_of_facts}
use Rattle.model_states.specs.Valid.{steps_of}
use Rattle.graph_commits.specs.States.{shapes_unless_refused}
use Rattle.graph_commits.proofs.WalkLaws.{boxes_more, walk_goes}
use Rattle.graph_commits.proofs.walk.walk.Goals as goal

pub loop-node-preserved : goal.loop-node-preserved
loop-node-preserved g c =
    let meanings = g.K.Op.OpMeaning.meanings in
    let buffers = shapes_of_facts c.args.buffers.now in
    let inside : c.loop-node.node-index < length c.args.draft.now = rw c.nodes-nodes.ensures at c.loop-node-test.true in
    let is = rw c.nodes-nodes.ensures at (sym c.node-item.is) in
    let given = rw c.deref.ensures.value at c.in_ok-shape.ensures.ok in
    rw c.in_ok-push.ensures.items (
      walk_goes meanings buffers c.loop-node.known.items c.args.draft.now c.loop-node.node-index c.node-item.result c.in_ok-shape.shape
          (shapes_unless_refused meanings buffers [] (steps_of c.args.draft.now)) inside is given c.loop-node.invariant.0,
      boxes_more c.loop-node.known.items c.in_ok-shape.shape c.loop-node.invariant.1 c.in_ok-shape.ensures.rectangle,
    )
