use Rattle.std.proofs.Common.{◌≡◌, ◌+◌, None, length, List, map, refl, sym, ap, subst, ◌∙◌, Some, Err}
use Rattle.model_graphs.specs.declared.node.NodeFact.{NodeFact}
use Rattle.model_graphs.specs.Facts.{specs_of}
use Rattle.model_graphs.specs.Node.{index_of}
use Rattle.model_images.specs.Level.{level}
use Rattle.model_images.specs.Paint.{cut}
use Rattle.model_states.specs.Cache.{AreRight, Cached}
use Rattle.model_states.specs.Edits.{has_node}
use Rattle.model_states.specs.State.{image_of}
use Rattle.chain_owners.specs.Cause.{HasSwapCause}
use Rattle.frozen_images.specs.Scenes.{images_in}
use Rattle.node_cache.specs.HandTiles.{hand_bytes}
use Rattle.node_tiles.specs.Stated.{scene_of, shape_at}
use Rattle.render_workers.specs.Requests.{pairs_requested, request}
use Rattle.scene_viewers.specs.declared.refused.ViewRefused.TheVariants.{UnknownNode}
use Rattle.scene_viewers.specs.Frames.{LacksNode, unknown_node}
use Rattle.scene_viewers.proofs.Framed.{known-right, if-unknown, not-false, unknown-of}
use Rattle.scene_viewers.proofs.frames.frame.Goals as goal

pub returns-in-Ok-clause-right : goal.returns-in-Ok-clause-right
returns-in-Ok-clause-right g c = λ right.
    let m = g.K.Op.OpMeaning.meanings in
    let images = images_in c.args.scene.now.buffers in
    let nodes = c.nodes.result.now in
    let old : List Cached = map hand_bytes c.args.cache.now.tiles.entries in
    let new : List Cached = map hand_bytes c.render-done.new.cache.tiles.entries in
    let was : AreRight m (scene_of nodes images) old = subst (λ (ns : List (NodeFact g.row.K-Op.Denot)). AreRight m (scene_of ns images) old) (sym c.nodes.ensures.nodes) right in
    let is = c.in-Ok.ensures.right images (ap (λ b. Some (images_in b)) c.tiles-sources.ensures) (record { list = old; known = refl; right = was }) in
    subst (λ (ns : List (NodeFact g.row.K-Op.Denot)). AreRight m (scene_of ns images) new) c.nodes.ensures.nodes (known-right m nodes images new is)

pub returns-in-Ok-clause-shown : goal.returns-in-Ok-clause-shown
unfolding level
returns-in-Ok-clause-shown g c = λ right.
    let m = g.K.Op.OpMeaning.meanings in
    let images = images_in c.args.scene.now.buffers in
    let nodes = c.nodes.result.now in
    let old : List Cached = map hand_bytes c.args.cache.now.tiles.entries in
    let was : AreRight m (scene_of nodes images) old = subst (λ (ns : List (NodeFact g.row.K-Op.Denot)). AreRight m (scene_of ns images) old) (sym c.nodes.ensures.nodes) right in
    let is = c.in-Ok.ensures.shown images old (ap (λ b. Some (images_in b)) c.tiles-sources.ensures) refl was in
    c.into_patch.ensures.image (image_of m (scene_of nodes images) c.args.node) c.args.rect is.shows
    ∙ ap (λ (ns : List (NodeFact g.row.K-Op.Denot)). cut (image_of m (scene_of ns images) c.args.node) c.args.rect) c.nodes.ensures.nodes

pub returns-in-Ok-clause-shape : goal.returns-in-Ok-clause-shape
returns-in-Ok-clause-shape g c = record {
  box = c.into_patch.ensures.rect ∙ c.in-Ok.ensures.rect;
  format = c.into_patch.ensures.format ∙ c.in-Ok.ensures.format
      ∙ ap (λ (ns : List (NodeFact g.row.K-Op.Denot)). (shape_at ns (index_of (specs_of ns) c.args.node)).format) c.nodes.ensures.nodes;
}

pub returns-in-Ok-clause-known : goal.returns-in-Ok-clause-known
returns-in-Ok-clause-known g c =
    not-false (has_node (specs_of c.args.scene.now.nodes) c.args.node)
    (λ is. absurd (cc (c.in-Ok.ensures.unknown (ap (λ (ns : List (NodeFact g.row.K-Op.Denot)). has_node (specs_of ns) c.args.node) c.nodes.ensures.nodes ∙ is))))

pub returns-in-Ok-clause-unknown : goal.returns-in-Ok-clause-unknown
returns-in-Ok-clause-unknown g c = λ is. absurd (cc (c.in-Ok.ensures.unknown (ap (λ (ns : List (NodeFact g.row.K-Op.Denot)). has_node (specs_of ns) c.args.node) c.nodes.ensures.nodes ∙ is)))

pub returns-in-Err-clause-right : goal.returns-in-Err-clause-right
returns-in-Err-clause-right g c = λ right.
    let m = g.K.Op.OpMeaning.meanings in
    let images = images_in c.args.scene.now.buffers in
    let nodes = c.nodes.result.now in
    let old : List Cached = map hand_bytes c.args.cache.now.tiles.entries in
    let new : List Cached = map hand_bytes c.render-done.new.cache.tiles.entries in
    let was : AreRight m (scene_of nodes images) old = subst (λ (ns : List (NodeFact g.row.K-Op.Denot)). AreRight m (scene_of ns images) old) (sym c.nodes.ensures.nodes) right in
    let is = c.in-Err.ensures.right images (ap (λ b. Some (images_in b)) c.tiles-sources.ensures) (record { list = old; known = refl; right = was }) in
    subst (λ (ns : List (NodeFact g.row.K-Op.Denot)). AreRight m (scene_of ns images) new) c.nodes.ensures.nodes (known-right m nodes images new is)

pub returns-in-Err-clause-unknown : goal.returns-in-Err-clause-unknown
returns-in-Err-clause-unknown g c = λ is.
    let e = c.in-Err.ensures.unknown (ap (λ (ns : List (NodeFact g.row.K-Op.Denot)). has_node (specs_of ns) c.args.node) c.nodes.ensures.nodes ∙ is) in
    ap Err (c.frame_refused.ensures.there (cc e) ∙ ap UnknownNode c.number.ensures)

pub returns-in-Err-clause-exactly : goal.returns-in-Err-clause-exactly
returns-in-Err-clause-exactly g c =
    let m = g.K.Op.OpMeaning.meanings in
    if-unknown c.frame_refused.result (λ n. (c.in-Err.refused ≡ unknown_node) × (n ≡ c.number.result)) (LacksNode c.args.scene.now c.args.node)
    (λ n p. record {
      number_is = p.1 ∙ c.number.ensures;
      lacks = sym (ap (λ (ns : List (NodeFact g.row.K-Op.Denot)). has_node (specs_of ns) c.args.node) c.nodes.ensures.nodes)
          ∙ unknown-of m c.nodes.result.now (request c.args.node 0 c.args.rect) 4294967295
          (HasSwapCause (record { faults = 0; names = 0; used = None; capacity = 0 }) (record { faults = 0; names = 0; used = None; capacity = 0 })
          (0 + length (pairs_requested m c.nodes.result.now (request c.args.node 0 c.args.rect)))) c.in-Err.refused p.0 c.in-Err.ensures.cause;
    }) c.frame_refused.ensures.only
