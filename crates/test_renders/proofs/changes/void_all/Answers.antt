use Rattle.test_renders.proofs.changes.void_all.Goals as goal

pub loop-node-preserved : goal.loop-node-preserved
loop-node-preserved g c =
    record {
      over = c.void_one.ensures.over;
      sized = λ nodes sized. c.void_one.ensures.sized nodes (c.loop-node.invariant.sized nodes sized);
    }
