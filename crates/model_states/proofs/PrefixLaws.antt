-- Nodes after others change no image of those.
use Rattle.std.proofs.Common.{◌≡◌, ℕ, ◌+◌, ◌≤◌, ◌<◌, Bool, true, false, not, eqb, List, [], ◌∷◌, ◌++◌, map, length, unwrap_or, get_or, IsTrue, refl, sym, ap, ◌∙◌, arith, cond, Some, None}
use Rattle.std.specs.Prelude.{nat_lt}
use Rattle.std.specs.List.{prefix_len}
use Rattle.std.specs.Str.{bytes_eq}
use Rattle.std.proofs.lemmas.Bool.Decides.{nat_tests}
use Rattle.std.proofs.lemmas.List.{length-append, map-append, get_or_append_left, get_or_past, length-map}
use Rattle.std.proofs.lemmas.List.Folds.{prefix_len-append}
use Rattle.std.proofs.lemmas.List.Sums.{prefix_len-le-length}
use Rattle.model_images.specs.Image.{Image}
use Rattle.model_graphs.specs.Node.{Node, Step, index_of, step_of}
use Rattle.model_graphs.specs.declared.node.Body.{Body}
use Rattle.model_graphs.specs.declared.node.Body.TheVariants.{Source, Compute}
use Rattle.model_images.specs.Paint.{no_image}
use Rattle.model_graphs.specs.Evaluation.{Buffers, step_image, images_after}
use Rattle.model_states.specs.Edits.{has_node}
use Rattle.model_graphs.specs.Meanings.{Meanings, result_of}
use Rattle.model_states.specs.State.{image_of}

-- ---- the position of a name

-- how many nodes stand before the first of a name
abbrev pub before_name : {Op : Type 0} → List (Node Op) → List ℕ → ℕ
before_name {Op} nodes name = prefix_len (λ (node : Node Op). not (bytes_eq node.name name)) nodes

before_name-le : {Op : Type 0} (nodes : List (Node Op)) (name : List ℕ) → before_name nodes name ≤ length nodes
before_name-le {Op} nodes name = prefix_len-le-length (λ (node : Node Op). not (bytes_eq node.name name)) nodes

pub index_of-is : {Op : Type 0} (nodes : List (Node Op)) (name : List ℕ) → index_of nodes name ≡ before_name nodes name
index_of-is nodes name = by (nat_lt (before_name nodes name) (length nodes)) refl
  where
    by : (b : Bool) → nat_lt (before_name nodes name) (length nodes) ≡ b → unwrap_or (cond b (Some (before_name nodes name)) None) (length nodes) ≡ before_name nodes name
    by true e = refl
    by false e = let le = before_name-le nodes name in let after : length nodes ≤ before_name nodes name = grind (arith, nat_tests) in omega (arith, le, after)

before_name-append : {Op : Type 0} (nodes more : List (Node Op)) (name : List ℕ) → before_name nodes name < length nodes → before_name (nodes ++ more) name ≡ before_name nodes name
before_name-append {Op} nodes more name less =
    let apart : eqb (before_name nodes name) (length nodes) ≡ false = grind (arith, nat_tests) in
    prefix_len-append (λ (node : Node Op). not (bytes_eq node.name name)) nodes more
    ∙ ap (λ b. cond b (length nodes + before_name more name) (before_name nodes name)) apart

before_name-after : {Op : Type 0} (nodes more : List (Node Op)) (name : List ℕ) → length nodes ≤ before_name nodes name → length nodes ≤ before_name (nodes ++ more) name
before_name-after {Op} nodes more name after =
    let le = before_name-le nodes name in
    let same : eqb (before_name nodes name) (length nodes) ≡ true = grind (arith, nat_tests) in
    let is : before_name (nodes ++ more) name ≡ length nodes + before_name more name =
    prefix_len-append (λ (node : Node Op). not (bytes_eq node.name name)) nodes more
    ∙ ap (λ b. cond b (length nodes + before_name more name) (before_name nodes name)) same in
    omega (arith, is)

-- ---- an input among images of nodes that stand before those that were added

-- a list that is no longer than the nodes is read equal
pub read_equal : {A Op : Type 0} (known : List A) (d : A) (nodes more : List (Node Op)) (name : List ℕ) → length known ≤ length nodes →
    get_or known (index_of (nodes ++ more) name) d ≡ get_or known (index_of nodes name) d
read_equal known d nodes more name few =
    ap (λ i. get_or known i d) (index_of-is (nodes ++ more) name)
    ∙ by (nat_lt (before_name nodes name) (length nodes)) refl
    ∙ ap (λ i. get_or known i d) (sym (index_of-is nodes name))
  where
    by : (b : Bool) → nat_lt (before_name nodes name) (length nodes) ≡ b → get_or known (before_name (nodes ++ more) name) d ≡ get_or known (before_name nodes name) d
    by true e = let less : before_name nodes name < length nodes = grind (arith, nat_tests) in ap (λ i. get_or known i d) (before_name-append nodes more name less)
    by false e =
        let after : length nodes ≤ before_name nodes name = grind (arith, nat_tests) in
        get_or_past known (before_name (nodes ++ more) name) d (omega (arith, before_name-after nodes more name after))
        ∙ sym (get_or_past known (before_name nodes name) d (omega arith))

inputs_equal : {Op : Type 0} (known : List Image) (nodes more : List (Node Op)) (inputs : List (List ℕ)) → length known ≤ length nodes →
    map (λ i. get_or known i no_image) (map (index_of (nodes ++ more)) inputs) ≡ map (λ i. get_or known i no_image) (map (index_of nodes) inputs)
inputs_equal known nodes more [] few = refl
inputs_equal known nodes more (input ∷ inputs) few =
    ap (λ image. image ∷ map (λ i. get_or known i no_image) (map (index_of (nodes ++ more)) inputs)) (read_equal known no_image nodes more input few)
    ∙ ap (λ images. get_or known (index_of nodes input) no_image ∷ images) (inputs_equal known nodes more inputs few)

step_equal : {Op : Type 0} (result : Op → List Image → Image) (buffers : Buffers) (known : List Image) (nodes more : List (Node Op)) (body : Body Op) → length known ≤ length nodes →
    step_image result buffers known (step_of (nodes ++ more) body) ≡ step_image result buffers known (step_of nodes body)
step_equal result buffers known nodes more (Source buffer) few = refl
step_equal result buffers known nodes more (Compute operation inputs) few = ap (result operation) (inputs_equal known nodes more inputs few)

-- ---- the images of all steps

pub length-images_after : {Op : Type 0} (result : Op → List Image → Image) (buffers : Buffers) (known : List Image) (steps : List (Step Op)) →
    length (images_after result buffers known steps) ≡ length known + length steps
length-images_after result buffers known [] = omega arith
length-images_after result buffers known (step ∷ steps) =
    let next = step_image result buffers known step ∷ [] in
    length-images_after result buffers (known ++ next) steps ∙ omega (arith, length-append known next)

pub images_after-append : {Op : Type 0} (result : Op → List Image → Image) (buffers : Buffers) (known : List Image) (steps more : List (Step Op)) →
    images_after result buffers known (steps ++ more) ≡ images_after result buffers (images_after result buffers known steps) more
images_after-append result buffers known [] more = refl
images_after-append result buffers known (step ∷ steps) more = images_after-append result buffers (known ++ step_image result buffers known step ∷ []) steps more

pub images_after-keeps : {Op : Type 0} (result : Op → List Image → Image) (buffers : Buffers) (known : List Image) (steps : List (Step Op)) (i : ℕ) (d : Image) → i < length known →
    get_or (images_after result buffers known steps) i d ≡ get_or known i d
images_after-keeps result buffers known [] i d less = refl
images_after-keeps result buffers known (step ∷ steps) i d less =
    let next = step_image result buffers known step ∷ [] in
    images_after-keeps result buffers (known ++ next) steps i d (omega (arith, length-append known next))
    ∙ get_or_append_left known next d i less

images_equal : {Op : Type 0} (result : Op → List Image → Image) (buffers : Buffers) (nodes more : List (Node Op)) (known : List Image) (rest : List (Node Op)) → length known + length rest ≤ length nodes →
    images_after result buffers known (map (λ (node : Node Op). step_of (nodes ++ more) node.body) rest) ≡ images_after result buffers known (map (λ (node : Node Op). step_of nodes node.body) rest)
images_equal result buffers nodes more known [] few = refl
images_equal {Op} result buffers nodes more known (node ∷ rest) few =
    let next = step_image result buffers known (step_of nodes node.body) ∷ [] in
    ap (λ image. images_after result buffers (known ++ image ∷ []) (map (λ (node : Node Op). step_of (nodes ++ more) node.body) rest)) (step_equal result buffers known nodes more node.body (omega arith))
    ∙ images_equal result buffers nodes more (known ++ next) rest (omega (arith, length-append known next))

pub nodes_after : {Op : Type 0} (meanings : Meanings Op) (buffers : Buffers) (nodes more : List (Node Op)) (name : List ℕ) → IsTrue (has_node nodes name) →
    image_of meanings (record { table = buffers; nodes = nodes ++ more }) name ≡ image_of meanings (record { table = buffers; nodes = nodes }) name
nodes_after {Op} meanings buffers nodes more name there =
    let result = result_of meanings in
    let longer : Node Op → Step Op = λ (node : Node Op). step_of (nodes ++ more) node.body in
    let first = map longer nodes in
    let has : index_of nodes name < length nodes = grind (arith, nat_tests) in
    let index : index_of (nodes ++ more) name ≡ index_of nodes name =
    index_of-is (nodes ++ more) name ∙ before_name-append nodes more name (omega (arith, has, index_of-is nodes name)) ∙ sym (index_of-is nodes name) in
    let known : index_of nodes name < length (images_after result buffers [] first) =
    omega (arith, has, length-images_after result buffers [] first, length-map nodes longer) in
    ap (λ i. get_or (images_after result buffers [] (map longer (nodes ++ more))) i no_image) index
    ∙ ap (λ steps. get_or (images_after result buffers [] steps) (index_of nodes name) no_image) (map-append longer nodes more)
    ∙ ap (λ images. get_or images (index_of nodes name) no_image) (images_after-append result buffers [] first (map longer more))
    ∙ images_after-keeps result buffers (images_after result buffers [] first) (map longer more) (index_of nodes name) no_image known
    ∙ ap (λ images. get_or images (index_of nodes name) no_image) (images_equal result buffers nodes more [] nodes (omega arith))
