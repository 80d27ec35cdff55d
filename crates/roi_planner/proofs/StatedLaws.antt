-- Nodes that are stated over some buffers, by their positions.
use Rattle.std.proofs.Common.{◌≡◌, ℕ, ◌<◌, List, [], length, get_or, map, Option, Some, None, refl, sym, ap, ◌∙◌, subst, arith, IsSome}
use Rattle.std.specs.Prelude.{IsSomeAnd, slice_get}
use Rattle.std.proofs.lemmas.List.{get_or-map, length-map}
use Rattle.std.proofs.lemmas.Option.{slice_get-get_or}
use Rattle.plane_rect.specs.Rectangle.{InLimits, Rectangle}
use Rattle.plane_rect.specs.Tile.{Tile}
use Rattle.model_graphs.specs.declared.node.Body.{Body}
use Rattle.model_graphs.specs.declared.node.Body.TheVariants.{Source, Compute}
use Rattle.model_graphs.specs.declared.node.NodeFact.{NodeFact}
use Rattle.model_graphs.specs.Facts.{specs_of, stated_shape, stated_shapes}
use Rattle.model_graphs.specs.Meanings.{Meanings}
use Rattle.model_graphs.specs.Node.{FromBuffer, Node, Step, index_of, step_of}
use Rattle.model_graphs.specs.Shapes.{Shape, no_shape}
use Rattle.model_states.specs.Need.{asked_by}
use Rattle.model_states.specs.Valid.{Suits, input_boxes}
use Rattle.model_states.proofs.Suited.{suits_all}
use Rattle.op_contracts.proofs.Bounds.{bounds-valid}
use Rattle.roi_planner.specs.Asked.{asked_of_body}
use Rattle.roi_planner.specs.Inputs.{AreStatedOverSome, Inputs, SuitsBody, all_inputs, box_at, inputs_of, step_at}

some-box : (o : Option Rectangle) → IsSomeAnd o InLimits → IsSome o
some-box None none = absurd none
some-box (Some r) limits = refl

module _ {Op : Type 0} where
  -- ---- a node at its position

  pub step_at-is : (facts : List (NodeFact Op)) (n : ℕ) (fact : NodeFact Op) → n < length facts → fact ≡ get_or facts n fact → step_at facts n ≡ step_of (specs_of facts) fact.spec.body
  step_at-is facts n fact inside is =
      let spec : NodeFact Op → Node Op = λ fact. fact.spec in
      let step : Node Op → Step Op = λ node. step_of (specs_of facts) node.body in
      let among : n < length (specs_of facts) = omega (arith, inside, length-map facts spec) in
      get_or-map step (specs_of facts) n fact.spec (FromBuffer []) among
      ∙ ap step (get_or-map spec facts n fact fact.spec inside ∙ ap spec (sym is))

  pub box_at-is : (facts : List (NodeFact Op)) (n : ℕ) (fact : NodeFact Op) → n < length facts → fact ≡ get_or facts n fact → box_at facts n ≡ fact.bounds
  box_at-is facts n fact inside is =
      let shape : NodeFact Op → Shape = λ fact. stated_shape fact in
      ap (λ (s : Shape). s.box) (get_or-map shape facts n fact no_shape inside ∙ ap shape (sym is))

  pub inputs-at : (facts : List (NodeFact Op)) (all : List Inputs) (n : ℕ) (fact : NodeFact Op) (inputs : Inputs) → all ≡ all_inputs facts → n < length facts →
      fact ≡ get_or facts n fact → inputs ≡ get_or all n inputs → inputs ≡ inputs_of facts fact.spec.body
  inputs-at facts all n fact inputs are inside is here =
      let of : NodeFact Op → Inputs = λ fact. inputs_of facts fact.spec.body in
      here ∙ ap (λ (list : List Inputs). get_or list n inputs) are ∙ get_or-map of facts n fact inputs inside ∙ ap of (sym is)

  -- what a body asks is what its step asks
  pub asked_of_body-is : (meanings : Meanings Op) (facts : List (NodeFact Op)) (body : Body Op) (box : Rectangle) (tiles : List Tile) →
      asked_of_body meanings body (inputs_of facts body) box tiles ≡ asked_by meanings (stated_shapes facts) (step_of (specs_of facts) body) box tiles
  asked_of_body-is meanings facts (Source buffer) box tiles = refl
  asked_of_body-is meanings facts (Compute operation names) box tiles = refl

  -- ---- the operation of a node suits its inputs

  pub suits-body : (meanings : Meanings Op) (facts : List (NodeFact Op)) (n : ℕ) (fact : NodeFact Op) → AreStatedOverSome meanings facts → n < length facts →
      fact ≡ get_or facts n fact → SuitsBody meanings fact.spec.body (inputs_of facts fact.spec.body) (length facts)
  suits-body meanings facts n fact stated inside is = of fact.spec.body refl
    where
      found : slice_get (specs_of facts) n ≡ Some fact.spec
      found =
          let spec : NodeFact Op → Node Op = λ fact. fact.spec in
          slice_get-get_or (specs_of facts) n fact.spec (omega (arith, inside, length-map facts spec))
          ∙ ap Some (get_or-map spec facts n fact fact.spec inside ∙ ap spec (sym is))

      of : (body : Body Op) → fact.spec.body ≡ body → SuitsBody meanings body (inputs_of facts body) (length facts)
      of (Source buffer) e = tt
      of (Compute operation names) e =
          let positions = map (index_of (specs_of facts)) names in
          let shapes = stated_shapes facts in
          let box : ℕ → Rectangle = λ i. (get_or shapes i no_shape).box in
          let shape : NodeFact Op → Shape = λ fact. stated_shape fact in
          let suits : Suits meanings shapes operation positions =
          subst (λ (shapes : List Shape). Suits meanings shapes operation positions) (sym stated.1.shapes)
          (suits_all meanings stated.0 (specs_of facts) n fact.spec operation names stated.1.valid found e) in
          let boxes = input_boxes shapes positions in
          record {
            arity = suits.arity;
            boxes = length-map positions box ∙ suits.arity;
            bounds = subst (λ (o : Option Rectangle). IsSome o) (sym (bounds-valid meanings operation boxes suits.box)) (some-box (meanings.box operation boxes) suits.box);
            among = λ k d less. let low = suits.inputs_earlier k d less in omega (arith, low, length-map facts shape);
          }
