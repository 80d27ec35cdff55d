-- Stated nodes by their positions: shapes, steps, and what is there of their inputs.
use Rattle.std.proofs.Common.{◌≡◌, ℕ, ◌<◌, ◌⊎◌, Bool, true, false, List, length, get_or, map, Option, Some, None, inl, inr, refl, sym, ap, ◌∙◌, subst, arith}
use Rattle.std.specs.Prelude.{IsSome, option_map, slice_get}
use Rattle.std.proofs.lemmas.List.{length-map}
use Rattle.std.proofs.lemmas.Option.{get_or_from_slice_get, slice_get-map, slice_get_within}
use Rattle.plane_rect.specs.Rectangle.{Inside, Rectangle, meet}
use Rattle.plane_rect.specs.Tile.{Meets, Tile, tile_square, meets}
use Rattle.plane_rect.proofs.Differences.{no_positions}
use Rattle.plane_rect.proofs.Rectangles.{Inside-meet}
use Rattle.plane_rect.proofs.TileLists.{Inside-tile_square}
use Rattle.model_graphs.specs.declared.buffer.BufferFact.{BufferFact}
use Rattle.model_graphs.specs.declared.node.Body.{Body}
use Rattle.model_graphs.specs.declared.node.Body.TheVariants.{Source, Compute}
use Rattle.model_graphs.specs.declared.node.NodeFact.{NodeFact}
use Rattle.model_graphs.specs.Facts.{Facts, fact_of, shape_of_fact, shapes_of_facts, specs_of, stated_shape, stated_shapes}
use Rattle.model_graphs.specs.Meanings.{Meanings}
use Rattle.model_graphs.specs.Node.{Apply, FromBuffer, Node, Step, index_of, step_of}
use Rattle.model_graphs.specs.Shapes.{Shape, no_shape, shape_in}
use Rattle.model_states.specs.Serving.{IsSourceAt}
use Rattle.model_states.specs.Valid.{AreStated, steps_of}
use Rattle.model_states.proofs.Shapes.{shape_in-facts}
use Rattle.model_states.proofs.Suited.{IsSuited, suited_at}
use Rattle.roi_planner.specs.Inputs.{inputs_of}
use Rattle.node_tiles.specs.Held.{HeldTiles, held_bytes}
use Rattle.node_tiles.specs.Inputs.{AreInputsThere, IsThere, required_of}
use Rattle.node_tiles.specs.Stated.{IsReady, part_at, shape_at}

-- a tile of a position of a rectangle meets it
pub meets-true : (tile : Tile) (r : Rectangle) → Meets tile r → meets tile r ≡ true
meets-true tile r met = by (meets tile r) refl
  where
    by : (b : Bool) → meets tile r ≡ b → b ≡ true
    by true e = refl
    by false e =
        let u = met.0 in
        let v = met.1 in
        let square : Inside u v (tile_square tile) = (Inside-tile_square u v tile).1 met.3 in
        absurd (no_positions u v (meet (tile_square tile) r) e ((Inside-meet u v (tile_square tile) r).1 (square, met.2)))

known-fact : (found : Option BufferFact) (shape : Option Shape) → shape ≡ option_map shape_of_fact found → IsSome shape → IsSome found
known-fact None shape is some = absurd (let e = is in let none : shape ≡ None = is in cc)
known-fact (Some fact) shape is some = refl

module _ {Op : Type 0} where
  -- ---- a node at its position

  pub spec-at : (nodes : List (NodeFact Op)) (n : ℕ) (fact : NodeFact Op) → slice_get nodes n ≡ Some fact → slice_get (specs_of nodes) n ≡ Some fact.spec
  spec-at nodes n fact found =
      let spec : NodeFact Op → Node Op = λ fact. fact.spec in
      slice_get-map spec nodes n ∙ ap (option_map spec) found

  pub step-at : (nodes : List (NodeFact Op)) (n : ℕ) (fact : NodeFact Op) → slice_get nodes n ≡ Some fact → slice_get (steps_of (specs_of nodes)) n ≡ Some (step_of (specs_of nodes) fact.spec.body)
  step-at nodes n fact found =
      let step : Node Op → Step Op = λ node. step_of (specs_of nodes) node.body in
      slice_get-map step (specs_of nodes) n ∙ ap (option_map step) (spec-at nodes n fact found)

  pub shape-at : (nodes : List (NodeFact Op)) (n : ℕ) (fact : NodeFact Op) → slice_get nodes n ≡ Some fact → shape_at nodes n ≡ stated_shape fact
  shape-at nodes n fact found =
      let shape : NodeFact Op → Shape = λ fact. stated_shape fact in
      get_or_from_slice_get (stated_shapes nodes) n (shape fact) no_shape (slice_get-map shape nodes n ∙ ap (option_map shape) found)

  -- a ready tile is of an operation
  module _ (nodes : List (NodeFact Op)) (meanings : Meanings Op) (held : HeldTiles) (n : ℕ) (tile : Tile) (ready : IsReady meanings nodes held n tile) where
    pub ready-inside : n < length nodes
    ready-inside =
        let spec : NodeFact Op → Node Op = λ fact. fact.spec in
        let step : Node Op → Step Op = λ node. step_of (specs_of nodes) node.body in
        omega (arith, slice_get_within (steps_of (specs_of nodes)) n (Apply ready.operation ready.inputs) ready.step, length-map (specs_of nodes) step, length-map nodes spec)

    pub ready-body : (fact : NodeFact Op) → slice_get nodes n ≡ Some fact → (buffer : List ℕ) → fact.spec.body ≡ Source buffer → ⊥
    ready-body fact found buffer is =
        let own : slice_get (steps_of (specs_of nodes)) n ≡ Some (FromBuffer buffer) =
        step-at nodes n fact found ∙ ap (λ (body : Body Op). Some (step_of (specs_of nodes) body)) is in
        cc (own, ready.step)

  module _ (meanings : Meanings Op) (facts : Facts) (nodes : List (NodeFact Op)) (stated : AreStated meanings (shapes_of_facts facts) nodes) where
    pub suited : (n : ℕ) (fact : NodeFact Op) → slice_get nodes n ≡ Some fact
        → IsSuited meanings (shapes_of_facts facts) (stated_shapes nodes) n (step_of (specs_of nodes) fact.spec.body)
    suited n fact found =
        subst (λ (shapes : List Shape). IsSuited meanings (shapes_of_facts facts) shapes n (step_of (specs_of nodes) fact.spec.body)) (sym stated.shapes)
        (suited_at meanings (shapes_of_facts facts) (specs_of nodes) n fact.spec stated.valid (spec-at nodes n fact found))

    -- the buffer of a source is known
    pub buffer-known : (n : ℕ) (fact : NodeFact Op) (buffer : List ℕ) → slice_get nodes n ≡ Some fact → fact.spec.body ≡ Source buffer → IsSome (fact_of facts buffer)
    buffer-known n fact buffer found is =
        let valid = (subst (λ (body : Body Op). IsSuited meanings (shapes_of_facts facts) (stated_shapes nodes) n (step_of (specs_of nodes) body)) is (suited n fact found)).valid in
        known-fact (fact_of facts buffer) (shape_in (shapes_of_facts facts) buffer) (shape_in-facts facts buffer) valid

    -- ---- what is there

    module _ (held : HeldTiles) where
      there-body : (n : ℕ) (fact : NodeFact Op) (tile : Tile) → slice_get nodes n ≡ Some fact
          → IsSourceAt (steps_of (specs_of nodes)) n ⊎ IsSome (held_bytes held n tile) → (body : Body Op) → fact.spec.body ≡ body → IsThere facts held body n tile
      there-body n fact tile found either (Source buffer) is = buffer-known n fact buffer found is
      there-body n fact tile found (inr some) (Compute operation names) is = some
      there-body n fact tile found (inl source) (Compute operation names) is =
          let own : slice_get (steps_of (specs_of nodes)) n ≡ Some (Apply operation (map (index_of (specs_of nodes)) names)) =
          step-at nodes n fact found ∙ ap (λ (body : Body Op). Some (step_of (specs_of nodes) body)) is in
          let other : slice_get (steps_of (specs_of nodes)) n ≡ Some (FromBuffer source.0) = source.1 in
          absurd (cc (own, other))

      -- what a ready tile requires of its inputs is there
      pub ready-there : (n : ℕ) (fact : NodeFact Op) (tile : Tile) (operation : Op) (names : List (List ℕ)) → slice_get nodes n ≡ Some fact
          → fact.spec.body ≡ Compute operation names → IsReady meanings nodes held n tile
          → AreInputsThere meanings facts held nodes operation (inputs_of nodes (Compute operation names)) (part_at nodes n tile)
      ready-there n fact tile operation names found is ready = record {
        each = λ i input inside there. record {
          each = λ needed met.
              let positions = map (index_of (specs_of nodes)) names in
              let own : Some (Apply ready.operation ready.inputs) ≡ Some (Apply operation positions) =
              sym ready.step ∙ step-at nodes n fact found ∙ ap (λ (body : Body Op). Some (step_of (specs_of nodes) body)) is in
              let same : ready.operation ≡ operation = cc in
              let inputs : ready.inputs ≡ positions = cc in
              let served = rw (same, inputs) at (ready.served i needed) in
              there-body (get_or positions i 0) input needed there
              (served inside (meets-true needed (required_of meanings operation (inputs_of nodes (Compute operation names)) (part_at nodes n tile) i) met))
              input.spec.body refl;
        };
      }
