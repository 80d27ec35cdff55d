use Rattle.std.proofs.Common.{List, map, sym, subst}
use Rattle.frozen_images.specs.Scenes.{facts_in}
use Rattle.model_operations.specs.Meanings.{int_meanings}
use Rattle.node_cache.specs.HandTiles.{hand_size}
use Rattle.node_cache.specs.Stores.{Sized}
use Rattle.test_renders.specs.Ready.{AreReady}
use Rattle.test_renders.proofs.ReadyLaws.{ready-taken}
use Rattle.test_sessions.proofs.renders.frozen.invert_frozen.Goals as goal

pub answer-second-requires-clause-ready : goal.answer-second-requires-clause-ready
answer-second-requires-clause-ready g c κs within =
    let canvas = c.answer-first.new.canvas in
    let facts = facts_in canvas.sources.buffers.now in
    let nodes = canvas.graph.latest.nodes in
    subst (λ (sizes : List Sized). AreReady int_meanings facts nodes sizes) (sym c.trim.ensures.sizes)
    (ready-taken int_meanings facts nodes (map hand_size canvas.cache.tiles.entries) canvas.cache.capacity c.answer-first.ensures.ready)
