-- A valid node's operation suits the shapes of all nodes.
use Rattle.std.proofs.Common.{◌≡◌, ℕ, zero, suc, ◌+◌, ◌<◌, List, [], ◌∷◌, ◌++◌, map, length, get_or, refl, sym, ap, ◌∙◌, subst, arith, Some, IsSome, IsSomeAnd}
use Rattle.std.specs.Prelude.{All, slice_get}
use Rattle.std.proofs.lemmas.List.{get_or_append_left, get_or_at, length-append}
use Rattle.std.proofs.lemmas.Option.{same_Some}
use Rattle.plane_rect.specs.Rectangle.{InLimits, Rectangle}
use Rattle.pixel_formats.specs.declared.format.Format.{Format}
use Rattle.model_graphs.specs.declared.node.Body.{Body}
use Rattle.model_graphs.specs.declared.node.Body.TheVariants.{Compute}
use Rattle.model_graphs.specs.Meanings.{Meanings, result_box, result_format}
use Rattle.model_graphs.specs.Node.{Apply, FromBuffer, Node, Step, index_of, step_of}
use Rattle.model_graphs.specs.Shapes.{Shape, Shapes, no_shape}
use Rattle.model_states.specs.Valid.{AreValid, AreValidSteps, IsValidStep, Suits, input_boxes, input_formats, shapes_after, shapes_of, step_shape}
use Rattle.model_states.proofs.Stated.{length-shapes_after}

pub shapes_after-keeps : {Op : Type 0} (meanings : Meanings Op) (shapes : Shapes) (known : List Shape) (steps : List (Step Op)) (i : ℕ) → i < length known →
    get_or (shapes_after meanings shapes known steps) i no_shape ≡ get_or known i no_shape
shapes_after-keeps meanings shapes known [] i less = refl
shapes_after-keeps meanings shapes known (step ∷ steps) i less =
    let next = step_shape meanings shapes known step ∷ [] in
    shapes_after-keeps meanings shapes (known ++ next) steps i (omega (arith, less, length-append known next))
    ∙ get_or_append_left known next no_shape i less

-- inputs that are known have the same shapes among all
boxes_known : (known all : List Shape) (inputs : List ℕ) → ((i : ℕ) → i < length known → get_or all i no_shape ≡ get_or known i no_shape) →
    All (λ i. i < length known) inputs → input_boxes known inputs ≡ input_boxes all inputs
boxes_known known all [] keeps earlier = refl
boxes_known known all (i ∷ inputs) keeps earlier =
    ap (λ (s : Shape). s.box ∷ input_boxes known inputs) (sym (keeps i (earlier 0 0 (omega arith))))
    ∙ ap (λ boxes. (get_or all i no_shape).box ∷ boxes) (boxes_known known all inputs keeps (λ k d less. earlier (suc k) d (omega arith)))

formats_known : (known all : List Shape) (inputs : List ℕ) → ((i : ℕ) → i < length known → get_or all i no_shape ≡ get_or known i no_shape) →
    All (λ i. i < length known) inputs → input_formats known inputs ≡ input_formats all inputs
formats_known known all [] keeps earlier = refl
formats_known known all (i ∷ inputs) keeps earlier =
    ap (λ (s : Shape). s.format ∷ input_formats known inputs) (sym (keeps i (earlier 0 0 (omega arith))))
    ∙ ap (λ formats. (get_or all i no_shape).format ∷ formats) (formats_known known all inputs keeps (λ k d less. earlier (suc k) d (omega arith)))

-- What holds of a step at a position, by the shapes of all steps.
pub record IsSuited {Op : Type 0} (meanings : Meanings Op) (shapes : Shapes) (all : List Shape) (position : ℕ) (step : Step Op) : Type 0 where
  pub valid : IsValidStep meanings shapes all step
  pub shape : get_or all position no_shape ≡ step_shape meanings shapes all step

suited-first : {Op : Type 0} (meanings : Meanings Op) (shapes : Shapes) (known all : List Shape) (step : Step Op) →
    ((i : ℕ) → i < length known → get_or all i no_shape ≡ get_or known i no_shape) → length known < length all →
    get_or all (length known) no_shape ≡ step_shape meanings shapes known step → IsValidStep meanings shapes known step →
    IsSuited meanings shapes all (length known) step
suited-first meanings shapes known all (FromBuffer buffer) keeps more here valid = record { valid = valid; shape = here }
suited-first meanings shapes known all (Apply operation inputs) keeps more here valid =
    let boxes = boxes_known known all inputs keeps valid.inputs_earlier in
    let formats = formats_known known all inputs keeps valid.inputs_earlier in
    let of : List Rectangle → List Format → Shape = λ boxes formats.
    record { box = result_box meanings operation boxes; format = result_format meanings operation formats } in
    record {
      valid = record {
        inputs_earlier = λ k d less. let low = valid.inputs_earlier k d less in omega (arith, low, more);
        arity = valid.arity;
        format = subst (λ formats. IsSome (meanings.format operation formats)) formats valid.format;
        box = subst (λ boxes. IsSomeAnd (meanings.box operation boxes) InLimits) boxes valid.box;
      };
      shape = here ∙ ap (λ boxes. of boxes (input_formats known inputs)) boxes ∙ ap (of (input_boxes all inputs)) formats;
    }

suited_among : {Op : Type 0} (meanings : Meanings Op) (shapes : Shapes) (nodes : List (Node Op)) (known all : List Shape) (rest : List (Node Op)) →
    all ≡ shapes_after meanings shapes known (map (λ (node : Node Op). step_of nodes node.body) rest) →
    AreValidSteps meanings shapes known (map (λ (node : Node Op). step_of nodes node.body) rest) →
    (i : ℕ) (node : Node Op) → slice_get rest i ≡ Some node → IsSuited meanings shapes all (length known + i) (step_of nodes node.body)
suited_among meanings shapes nodes known all [] is valid i node found = absurd (cc)
suited_among {Op} meanings shapes nodes known all (first ∷ rest) is valid zero node found =
    let step : Node Op → Step Op = λ (node : Node Op). step_of nodes node.body in
    let shape = step_shape meanings shapes known (step first) in
    let longer = known ++ shape ∷ [] in
    let steps = map step rest in
    let inside : length known < length longer = omega (arith, length-append known (shape ∷ [])) in
    let keeps : (k : ℕ) → k < length longer → get_or all k no_shape ≡ get_or longer k no_shape =
    λ k less. ap (λ (all : List Shape). get_or all k no_shape) is ∙ shapes_after-keeps meanings shapes longer steps k less in
    let count : length all ≡ length longer + length steps = ap length is ∙ length-shapes_after meanings shapes longer steps in
    let start : length known ≡ length known + 0 = omega arith in
    subst (λ n. IsSuited meanings shapes all n (step node)) start
    (subst (λ (node : Node Op). IsSuited meanings shapes all (length known) (step node)) (same_Some first node found)
    (suited-first meanings shapes known all (step first)
    (λ k less. keeps k (omega (arith, less, inside)) ∙ get_or_append_left known (shape ∷ []) no_shape k less)
    (omega (arith, count, inside))
    (keeps (length known) inside ∙ get_or_at known shape [] no_shape (length known) refl)
    valid.0))
suited_among {Op} meanings shapes nodes known all (first ∷ rest) is valid (suc i) node found =
    let shape = step_shape meanings shapes known (step_of nodes first.body) ∷ [] in
    let position : length (known ++ shape) + i ≡ length known + suc i = omega (arith, length-append known shape) in
    subst (λ n. IsSuited meanings shapes all n (step_of nodes node.body)) position
    (suited_among meanings shapes nodes (known ++ shape) all rest is valid.1 i node found)

-- the node at a position
pub suited_at : {Op : Type 0} (meanings : Meanings Op) (shapes : Shapes) (nodes : List (Node Op)) (i : ℕ) (node : Node Op) → AreValid meanings shapes nodes → slice_get nodes i ≡ Some node →
    IsSuited meanings shapes (shapes_of meanings shapes nodes) i (step_of nodes node.body)
suited_at meanings shapes nodes i node valid found =
    let start : 0 + i ≡ i = omega arith in
    subst (λ n. IsSuited meanings shapes (shapes_of meanings shapes nodes) n (step_of nodes node.body)) start
    (suited_among meanings shapes nodes [] (shapes_of meanings shapes nodes) nodes refl valid.steps i node found)

pub suits_all : {Op : Type 0} (meanings : Meanings Op) (shapes : Shapes) (nodes : List (Node Op)) (i : ℕ) (node : Node Op) (operation : Op) (inputs : List (List ℕ)) →
    AreValid meanings shapes nodes → slice_get nodes i ≡ Some node → node.body ≡ Compute operation inputs →
    Suits meanings (shapes_of meanings shapes nodes) operation (map (index_of nodes) inputs)
suits_all {Op} meanings shapes nodes i node operation inputs valid found is =
    (subst (λ (body : Body Op). IsSuited meanings shapes (shapes_of meanings shapes nodes) i (step_of nodes body)) is (suited_at meanings shapes nodes i node valid found)).valid
