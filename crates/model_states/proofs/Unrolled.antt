-- A node's image is what its body makes of the images of its inputs.
use Rattle.std.proofs.Common.{◌≡◌, ℕ, zero, suc, ◌+◌, ◌<◌, List, [], ◌∷◌, ◌++◌, map, length, get_or, refl, sym, ap, ◌∙◌, subst, arith, Some}
use Rattle.std.specs.Prelude.{All, slice_get}
use Rattle.std.proofs.lemmas.List.{length-append, get_or_at, length-map, map-append}
use Rattle.std.proofs.lemmas.Option.{same_Some}
use Rattle.model_images.specs.Image.{Image}
use Rattle.model_graphs.specs.Node.{Node, Step, index_of, step_of}
use Rattle.model_graphs.specs.declared.node.Body.{Body}
use Rattle.model_graphs.specs.declared.node.Body.TheVariants.{Source, Compute}
use Rattle.model_images.specs.Paint.{no_image}
use Rattle.model_graphs.specs.Evaluation.{Buffers, step_image, images_after}
use Rattle.model_graphs.specs.Meanings.{Meanings, result_of}
use Rattle.model_states.specs.Valid.{steps_of, IsValidStep, AreValidSteps, AreValid, step_shape}
use Rattle.model_graphs.specs.Shapes.{Shape, shape_of_image, shapes_of_images}
use Rattle.model_states.specs.State.{body_image, image_of, node_of}
use Rattle.model_states.proofs.Shapes.{step_shape-is}
use Rattle.model_states.proofs.PrefixLaws.{images_after-keeps}

-- the images of inputs at these positions
abbrev at_indices : List Image → List ℕ → List Image
at_indices known indices = map (λ i. get_or known i no_image) indices

-- the positions of the nodes of these names
abbrev pub indices_of : {Op : Type 0} → List (Node Op) → List (List ℕ) → List ℕ
indices_of nodes names = map (index_of nodes) names

-- the images of all steps after known ones
abbrev images_to : {Op : Type 0} → Meanings Op → Buffers → List Image → List (Step Op) → List Image
images_to meanings buffers known steps = images_after (result_of meanings) buffers known steps

-- inputs that are known are the same in all images
inputs_known : (known all : List Image) (indices : List ℕ) → ((i : ℕ) → i < length known → get_or all i no_image ≡ get_or known i no_image) →
    All (λ i. i < length known) indices → at_indices known indices ≡ at_indices all indices
inputs_known known all [] keeps earlier = refl
inputs_known known all (i ∷ indices) keeps earlier =
    ap (λ image. image ∷ at_indices known indices) (sym (keeps i (earlier 0 0 (omega arith))))
    ∙ ap (λ images. get_or all i no_image ∷ images) (inputs_known known all indices keeps (λ k d less. earlier (suc k) d (omega arith)))

-- what a body makes of all images
abbrev body_of_all : {Op : Type 0} → Meanings Op → Buffers → List (Node Op) → List Image → Body Op → Image
body_of_all meanings buffers nodes all body = step_image (result_of meanings) buffers all (step_of nodes body)

body_known : {Op : Type 0} (meanings : Meanings Op) (buffers : Buffers) (nodes : List (Node Op)) (known all : List Image) (body : Body Op) →
    ((i : ℕ) → i < length known → get_or all i no_image ≡ get_or known i no_image) →
    IsValidStep meanings (shapes_of_images buffers) (map shape_of_image known) (step_of nodes body) →
    body_of_all meanings buffers nodes known body ≡ body_of_all meanings buffers nodes all body
body_known meanings buffers nodes known all (Source buffer) keeps valid = refl
body_known meanings buffers nodes known all (Compute operation inputs) keeps valid =
    ap (result_of meanings operation)
    (inputs_known known all (indices_of nodes inputs) keeps
    (subst (λ n. All (λ i. i < n) (indices_of nodes inputs)) (length-map known shape_of_image) valid.inputs_earlier))

unrolled : {Op : Type 0} (meanings : Meanings Op) (buffers : Buffers) (nodes : List (Node Op)) (known : List Image) (rest : List (Node Op)) →
    AreValidSteps meanings (shapes_of_images buffers) (map shape_of_image known) (map (λ (node : Node Op). step_of nodes node.body) rest) →
    (i : ℕ) (node : Node Op) → slice_get rest i ≡ Some node →
    get_or (images_to meanings buffers known (map (λ (node : Node Op). step_of nodes node.body) rest)) (length known + i) no_image
    ≡ body_of_all meanings buffers nodes (images_to meanings buffers known (map (λ (node : Node Op). step_of nodes node.body) rest)) node.body
unrolled meanings buffers nodes known [] valid i node found = absurd (cc)
unrolled {Op} meanings buffers nodes known (first ∷ rest) valid zero node found =
    let step : Node Op → Step Op = λ (node : Node Op). step_of nodes node.body in
    let y = body_of_all meanings buffers nodes known first.body in
    let longer = known ++ y ∷ [] in
    let all = images_to meanings buffers longer (map step rest) in
    let here : length known + 0 ≡ length known = omega arith in
    let inside : length known < length longer = omega (arith, length-append known (y ∷ [])) in
    ap (λ k. get_or all k no_image) here
    ∙ images_after-keeps (result_of meanings) buffers longer (map step rest) (length known) no_image inside
    ∙ get_or_at known y [] no_image (length known) refl
    ∙ body_known meanings buffers nodes known all first.body (λ k less. images_after-keeps (result_of meanings) buffers known (map step (first ∷ rest)) k no_image less) valid.0
    ∙ ap (λ (node : Node Op). body_of_all meanings buffers nodes all node.body) (same_Some first node found)
unrolled {Op} meanings buffers nodes known (first ∷ rest) valid (suc i) node found =
    let step : Node Op → Step Op = λ (node : Node Op). step_of nodes node.body in
    let y = body_of_all meanings buffers nodes known first.body in
    let longer = known ++ y ∷ [] in
    let all = images_to meanings buffers longer (map step rest) in
    let index : length known + suc i ≡ length longer + i = omega (arith, length-append known (y ∷ [])) in
    let shapes : map shape_of_image known ++ step_shape meanings (shapes_of_images buffers) (map shape_of_image known) (step first) ∷ [] ≡ map shape_of_image longer =
    ap (λ (s : Shape). map shape_of_image known ++ s ∷ []) (step_shape-is meanings buffers known (step first)) ∙ sym (map-append shape_of_image known (y ∷ [])) in
    ap (λ k. get_or all k no_image) index
    ∙ unrolled meanings buffers nodes longer rest (subst (λ shapes. AreValidSteps meanings (shapes_of_images buffers) shapes (map step rest)) shapes valid.1) i node found

inputs_by_name : {Op : Type 0} (meanings : Meanings Op) (buffers : Buffers) (nodes : List (Node Op)) (inputs : List (List ℕ)) →
    at_indices (images_to meanings buffers [] (steps_of nodes)) (indices_of nodes inputs) ≡ map (image_of meanings (record { table = buffers; nodes = nodes })) inputs
inputs_by_name meanings buffers nodes [] = refl
inputs_by_name meanings buffers nodes (input ∷ inputs) = ap (λ images. image_of meanings (record { table = buffers; nodes = nodes }) input ∷ images) (inputs_by_name meanings buffers nodes inputs)

by_body : {Op : Type 0} (meanings : Meanings Op) (buffers : Buffers) (nodes : List (Node Op)) (body : Body Op) →
    body_of_all meanings buffers nodes (images_to meanings buffers [] (steps_of nodes)) body ≡ body_image meanings (record { table = buffers; nodes = nodes }) body
by_body meanings buffers nodes (Source buffer) = refl
by_body meanings buffers nodes (Compute operation inputs) = ap (result_of meanings operation) (inputs_by_name meanings buffers nodes inputs)

pub image_by_body : {Op : Type 0} (meanings : Meanings Op) (buffers : Buffers) (nodes : List (Node Op)) (name : List ℕ) (node : Node Op) →
    AreValid meanings (shapes_of_images buffers) nodes → node_of nodes name ≡ Some node →
    image_of meanings (record { table = buffers; nodes = nodes }) name ≡ body_image meanings (record { table = buffers; nodes = nodes }) node.body
image_by_body meanings buffers nodes name node valid found =
    let start : 0 + index_of nodes name ≡ index_of nodes name = omega arith in
    ap (λ k. get_or (images_to meanings buffers [] (steps_of nodes)) k no_image) (sym start)
    ∙ unrolled meanings buffers nodes [] nodes valid.steps (index_of nodes name) node found
    ∙ by_body meanings buffers nodes node.body
