-- Operations suit the boxes that are stated of their inputs.
use Rattle.std.proofs.Common.{◌≡◌, ℕ, zero, suc, ◌+◌, arith, List, [], ◌∷◌, map, length, refl, sym, ap, ◌∙◌, subst, Option, Some, None, IsSome}
use Rattle.std.specs.Prelude.{IsSomeAnd, slice_get, slice_index_or}
use Rattle.std.proofs.lemmas.List.{length-map}
use Rattle.plane_rect.specs.Rectangle.{InLimits, Rectangle}
use Rattle.model_graphs.specs.declared.node.Body.{Body}
use Rattle.model_graphs.specs.declared.node.Body.TheVariants.{Compute}
use Rattle.model_graphs.specs.declared.node.NodeFact.{NodeFact}
use Rattle.model_graphs.specs.Facts.{shapes_of_facts, specs_of, stated_shapes}
use Rattle.model_graphs.specs.Meanings.{Meanings}
use Rattle.model_graphs.specs.Node.{Node, index_of}
use Rattle.model_graphs.specs.Shapes.{Shape, no_shape}
use Rattle.model_states.specs.Damage.{Change, inputs_of, new_boxes, side_shape}
use Rattle.model_states.specs.Valid.{Suits, input_boxes, shapes_of}
use Rattle.model_states.proofs.Suited.{suits_all}
use Rattle.op_contracts.specs.Applying.{bounds_of}
use Rattle.op_contracts.proofs.Bounds.{bounds-valid}
use Rattle.graph_commits.specs.States.{IsGraphState}

module _ {Op : Type 0} (meanings : Meanings Op) where
  pub spec_at : (facts : List (NodeFact Op)) (i : ℕ) (fact : NodeFact Op) → slice_get facts i ≡ Some fact → slice_get (specs_of facts) i ≡ Some fact.spec
  spec_at [] i fact at = absurd (cc)
  spec_at (first ∷ facts) zero fact at = let same : first ≡ fact = cc in ap (λ (f : NodeFact Op). Some f.spec) same
  spec_at (first ∷ facts) (suc i) fact at = spec_at facts i fact at

  boxes_named : (known : List Shape) (nodes : List (Node Op)) (inputs : List (List ℕ)) →
      input_boxes known (map (index_of nodes) inputs) ≡ map (λ name. (slice_index_or known (index_of nodes name) no_shape).box) inputs
  boxes_named known nodes [] = refl
  boxes_named known nodes (input ∷ inputs) =
      ap (λ boxes. (slice_index_or known (index_of nodes input) no_shape).box ∷ boxes) (boxes_named known nodes inputs)

  is_some : (o : Option Rectangle) → IsSomeAnd o InLimits → IsSome o
  is_some None h = absurd h
  is_some (Some r) h = refl

  module _ (change : Change Op) (state : IsGraphState meanings change.new) (i : ℕ) (fact : NodeFact Op) (operation : Op) (inputs : List (List ℕ))
      (at : slice_get change.new.nodes i ≡ Some fact) (is : fact.spec.body ≡ Compute operation inputs) where
    suits : Suits meanings (shapes_of meanings (shapes_of_facts change.new.buffers) (specs_of change.new.nodes)) operation (map (index_of (specs_of change.new.nodes)) inputs)
    suits =
        suits_all meanings (shapes_of_facts change.new.buffers) (specs_of change.new.nodes) i fact.spec operation inputs state.stated.valid
        (spec_at change.new.nodes i fact at) is

    boxes_are : input_boxes (shapes_of meanings (shapes_of_facts change.new.buffers) (specs_of change.new.nodes)) (map (index_of (specs_of change.new.nodes)) inputs) ≡ new_boxes change inputs
    boxes_are =
        ap (λ known. input_boxes known (map (index_of (specs_of change.new.nodes)) inputs)) (sym state.stated.shapes)
        ∙ boxes_named (stated_shapes change.new.nodes) (specs_of change.new.nodes) inputs

    inputs_suit : length inputs ≡ meanings.input_count operation
    inputs_suit = sym (length-map inputs (index_of (specs_of change.new.nodes))) ∙ suits.arity

    bounds_there : IsSome (bounds_of meanings operation (new_boxes change inputs))
    bounds_there =
        let box : IsSomeAnd (meanings.box operation (new_boxes change inputs)) InLimits =
        subst (λ boxes. IsSomeAnd (meanings.box operation boxes) InLimits) boxes_are suits.box in
        subst IsSome (sym (bounds-valid meanings operation (new_boxes change inputs) box)) (is_some (meanings.box operation (new_boxes change inputs)) box)

    -- what was found of the inputs suits as well

    boxes_found : (boxes : List Rectangle) → boxes ≡ new_boxes change (inputs_of fact.spec.body) → boxes ≡ new_boxes change inputs
    boxes_found boxes found = found ∙ ap (λ (body : Body Op). new_boxes change (inputs_of body)) is

    pub boxes_suit : (boxes : List Rectangle) → boxes ≡ new_boxes change (inputs_of fact.spec.body) → length boxes ≡ meanings.input_count operation
    boxes_suit boxes found =
        ap length (boxes_found boxes found) ∙ length-map inputs (λ (name : List ℕ). (side_shape change.new name).box) ∙ inputs_suit

    pub positions_suit : (positions : List ℕ) → positions ≡ map (index_of (specs_of change.new.nodes)) (inputs_of fact.spec.body) →
        0 + length positions ≡ meanings.input_count operation
    positions_suit positions found =
        let many : length positions ≡ meanings.input_count operation =
        ap length (found ∙ ap (λ (body : Body Op). map (index_of (specs_of change.new.nodes)) (inputs_of body)) is) ∙ suits.arity in
        omega (arith, many)

    pub bounds_found : (boxes : List Rectangle) → boxes ≡ new_boxes change (inputs_of fact.spec.body) → IsSome (bounds_of meanings operation boxes)
    bounds_found boxes found =
        subst (λ (boxes : List Rectangle). IsSome (bounds_of meanings operation boxes)) (sym (boxes_found boxes found)) bounds_there
