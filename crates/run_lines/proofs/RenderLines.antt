-- What a render line is to do, by what a session holds.
use Rattle.std.proofs.Common.{◌≡◌, ℕ, ◌+◌, ◌-◌, ◌≤◌, Bool, true, false, cond, List, length, Option, Some, None, is_none, refl, sym, ap, ◌∙◌, arith}
use Rattle.std.specs.Prelude.{min, slice_index_or}
use Rattle.std.specs.Map.{values_of}
use Rattle.std.proofs.lemmas.List.{length-map}
use Rattle.chain_owners.specs.Held.{Held}
use Rattle.commit_session.specs.Parts.{Parts, cached_pairs}
use Rattle.commit_session.specs.Rendering.{looked_up_by, names_in_render}
use Rattle.chain_owners.specs.Counts.{Counts}
use Rattle.model_buffers.specs.Layout.{facts_of}
use Rattle.model_graphs.specs.Facts.{Facts, shapes_of_facts, specs_of, stated_shapes}
use Rattle.model_graphs.specs.Node.{Node, index_of}
use Rattle.model_graphs.specs.Shapes.{Shape, Shapes, no_shape}
use Rattle.model_graphs.specs.declared.node.NodeFact.{NodeFact}
use Rattle.model_images.proofs.LevelLaws.{level-format}
use Rattle.model_images.specs.FromRaw.{byte_count}
use Rattle.model_images.specs.Level.{level}
use Rattle.model_images.specs.Raw.{raw}
use Rattle.model_operations.specs.Meanings.{int_meanings}
use Rattle.model_operations.specs.declared.operation.IntOp.{IntOp}
use Rattle.model_runs.specs.Effects.{node_image, renders, renders_known, renders_named}
use Rattle.model_runs.specs.State.{Effect, RunState, refuses, scene_in}
use Rattle.model_sessions.proofs.Sources.{images_known}
use Rattle.model_sessions.specs.Sessions.{at_level_zero, render_need, with_render}
use Rattle.model_states.proofs.Stated.{scene_shape-is, stated-shapes, stated_only}
use Rattle.model_states.specs.Cache.{Pair, all_looked_up, by_pair, itself, needed_pairs, uncounted, with_bytes}
use Rattle.model_states.specs.Damage.{IsStated}
use Rattle.model_states.specs.Edits.{has_node}
use Rattle.model_states.specs.Need.{need, wide}
use Rattle.model_states.specs.State.{Scene, node_shapes, stated_nodes}
use Rattle.model_states.specs.Valid.{stated}
use Rattle.node_tiles.specs.Stated.{shape_at}
use Rattle.outside_io.specs.Files.{Files}
use Rattle.pixel_formats.specs.declared.format.Format.{Format}
use Rattle.plane_rect.specs.Rectangle.{Rectangle}
use Rattle.render_workers.specs.Requests.{Request, pairs_requested, request, strips_needed}
use Rattle.run_lines.specs.Carried.{most_of_line}
use Rattle.run_lines.proofs.BandBytes.{length-raw}
use Rattle.run_lines.proofs.CachedNames.{as-many-names}
use Rattle.run_lines.proofs.LookingUp.{applied-alone}
use Rattle.run_lines.specs.States.{Holds}
use Rattle.model_runs.specs.declared.cause.Cause.TheVariants as causes

module _ (exposed : Bool) (capacity line : ℕ) (state : RunState) (files : Files) (parts : Parts IntOp) (held : Held) (shelf : Option Files) (name : List ℕ) (z : ℕ) (r : Rectangle) (target : List ℕ)
    (holds : Holds exposed capacity state files parts held shelf) (stated_is : IsStated int_meanings parts.graph.latest) where
  abbrev facts : List (NodeFact IntOp)
  facts = parts.graph.latest.nodes

  abbrev scene : Scene IntOp
  scene = scene_in state

  abbrev asked : Request
  asked = request name z r

  abbrev pub rendered : Effect
  rendered = renders_named capacity line state name z r target

  abbrev pub planned : List ℕ
  planned = raw (level (node_image state name) z) r

  -- ---- the nodes are those of the last state

  nodes-same : specs_of facts ≡ scene.nodes
  nodes-same = holds.session.retained.latest.nodes

  facts-same : facts ≡ stated_nodes int_meanings scene
  facts-same =
      let of = holds.session.retained.latest in
      let table = state.session.history.workspace.retained.latest.table in
      stated_only int_meanings (shapes_of_facts parts.graph.latest.buffers) facts stated_is
      ∙ ap (stated int_meanings (shapes_of_facts parts.graph.latest.buffers)) nodes-same
      ∙ ap (λ (f : Facts). stated int_meanings (shapes_of_facts f) scene.nodes) (of.facts ∙ sym (ap facts_of of.table.layout))
      ∙ ap (λ (shapes : Shapes). stated int_meanings shapes scene.nodes) (sym (images_known table))

  need-same : strips_needed int_meanings facts asked ≡ render_need int_meanings scene name z r
  need-same =
      ap (λ (fs : List (NodeFact IntOp)). need int_meanings fs (index_of (specs_of facts) name) (at_level_zero z r)) facts-same
      ∙ ap (λ (ns : List (Node IntOp)). need int_meanings (stated_nodes int_meanings scene) (index_of ns name) (at_level_zero z r)) nodes-same

  pairs-same : pairs_requested int_meanings facts asked ≡ needed_pairs scene.nodes (render_need int_meanings scene name z r)
  pairs-same =
      ap (λ (ns : List (Node IntOp)). needed_pairs ns (strips_needed int_meanings facts asked)) nodes-same
      ∙ ap (needed_pairs scene.nodes) need-same

  pub has-same : has_node (specs_of facts) name ≡ has_node scene.nodes name
  has-same = ap (λ (ns : List (Node IntOp)). has_node ns name) nodes-same

  pub wide-same : wide parts.capacity (strips_needed int_meanings facts asked) ≡ wide capacity (render_need int_meanings scene name z r)
  wide-same = ap (λ (n : ℕ). wide n (strips_needed int_meanings facts asked)) holds.as_many ∙ ap (wide capacity) need-same

  -- ---- what the line does

  pub render-unknown : has_node (specs_of facts) name ≡ false → rendered ≡ refuses line state causes.UnknownNode
  render-unknown none = ap (λ (b : Bool). cond b (renders_known capacity line state name z r target) (refuses line state causes.UnknownNode)) (sym has-same ∙ none)

  known : has_node (specs_of facts) name ≡ true → rendered ≡ renders_known capacity line state name z r target
  known there = ap (λ (b : Bool). cond b (renders_known capacity line state name z r target) (refuses line state causes.UnknownNode)) (sym has-same ∙ there)

  by-width : (o : Option ℕ) → wide parts.capacity (strips_needed int_meanings facts asked) ≡ o →
      renders_known capacity line state name z r target ≡ cond (is_none o) (renders capacity line state name z r target) (refuses line state causes.Strip)
  by-width o is = ap (λ (o : Option ℕ). cond (is_none o) (renders capacity line state name z r target) (refuses line state causes.Strip)) (sym wide-same ∙ is)

  pub render-wide : (needed : ℕ) → has_node (specs_of facts) name ≡ true → wide parts.capacity (strips_needed int_meanings facts asked) ≡ Some needed → rendered ≡ refuses line state causes.Strip
  render-wide needed there is = known there ∙ by-width (Some needed) is

  pub render-narrow : has_node (specs_of facts) name ≡ true → wide parts.capacity (strips_needed int_meanings facts asked) ≡ None → rendered ≡ renders capacity line state name z r target
  render-narrow there is = known there ∙ by-width None is

  -- ---- its bytes

  format-same : (shape_at facts (index_of (specs_of facts) name)).format ≡ (node_image state name).format
  format-same =
      let shape : Shape → Format = λ s. s.format in
      ap (λ (fs : List (NodeFact IntOp)). shape (slice_index_or (stated_shapes fs) (index_of (specs_of facts) name) no_shape)) facts-same
      ∙ ap (λ (shapes : List Shape). shape (slice_index_or shapes (index_of (specs_of facts) name) no_shape)) (stated-shapes int_meanings _ scene.nodes)
      ∙ ap (λ (ns : List (Node IntOp)). shape (slice_index_or (node_shapes int_meanings scene) (index_of ns name) no_shape)) nodes-same
      ∙ ap shape (scene_shape-is int_meanings scene name)

  -- those that were written are as many
  pub render-length : (bytes : List ℕ) → length bytes ≡ byte_count r (shape_at facts (index_of (specs_of facts) name)).format → length planned ≡ length bytes
  render-length bytes count =
      let image = level (node_image state name) z in
      length-raw image r ∙ ap (byte_count r) (level-format (node_image state name) z ∙ sym format-same) ∙ sym count

  -- ---- how many names the chain has

  applied-next : (with_render int_meanings capacity state.session name z r).cached.applied ≡ state.session.cached.applied + (looked_up_by int_meanings parts asked).applied
  applied-next =
      let pairs = needed_pairs scene.nodes (render_need int_meanings scene name z r) in
      let cached = state.session.cached in
      let by : ℕ → List Pair → List Pair → ℕ = λ n list ps. cached.applied + (all_looked_up itself itself (Some n) (uncounted list) ps).applied in
      applied-alone (with_bytes int_meanings scene) (Some capacity) cached pairs (λ pair. refl)
      ∙ ap (λ (list : List Pair). by capacity list pairs) holds.session.cached.pairs
      ∙ ap (λ (n : ℕ). by n (cached_pairs parts) pairs) (sym holds.as_many)
      ∙ ap (by parts.capacity (cached_pairs parts)) (sym pairs-same)

  names-most : (names cached listed pairs capacity most applied now next : ℕ) → listed ≡ cached → pairs ≡ cached → most ≡ capacity → cached ≤ now → next ≡ now + applied →
      names - listed + min most (pairs + applied) + 1 ≤ names - cached + 0 + min capacity next + 1
  names-most names cached listed pairs capacity most applied now next a b c few d = omega (arith, a, b, c, few, d)

  pub render-names : (counts : Counts) → names_in_render int_meanings parts asked counts ≤ most_of_line capacity state counts.names (renders capacity line state name z r target)
  render-names counts =
      let list = state.session.cached.list in
      let pairs : length (cached_pairs parts) ≡ length list = ap length (sym holds.session.cached.pairs) ∙ length-map list by_pair in
      names-most counts.names (length list) (length (values_of parts.entries)) (length (cached_pairs parts)) capacity parts.capacity (looked_up_by int_meanings parts asked).applied state.session.cached.applied
      (with_render int_meanings capacity state.session name z r).cached.applied (sym (as-many-names parts.entries held list holds.session.cached)) pairs holds.as_many holds.applied applied-next
