-- Where nothing changes, nothing is damaged.
use Rattle.std.proofs.Common.{◌≡◌, ℕ, zero, suc, ◌+◌, Bool, true, false, not, List, [], ◌∷◌, ◌++◌, map, length, get_or, cond, refl, ap, ◌∙◌, subst, arith, Option, Some}
use Rattle.std.specs.Prelude.{slice_get}
use Rattle.std.specs.List.{AllByRecursion, IsDistinct, enumerate_from, list_all}
use Rattle.std.specs.Str.{bytes_eq}
use Rattle.std.proofs.lemmas.Bool.Decides.{nat_tests}
use Rattle.plane_rect.specs.Rectangle.{Rectangle, empty, hull, meet, is_empty}
use Rattle.plane_rect.specs.SameRectangle.{same_rectangle-itself}
use Rattle.model_graphs.specs.Node.{Node, index_of}
use Rattle.model_graphs.specs.declared.node.Body.{Body}
use Rattle.model_graphs.specs.declared.node.Body.TheVariants.{Source, Compute}
use Rattle.model_graphs.proofs.Evaluating.{same_bytes}
use Rattle.model_graphs.specs.Laws.{KeepsNothing}
use Rattle.model_graphs.specs.Meanings.{Meanings}
use Rattle.model_graphs.specs.declared.buffer.BufferFact.{BufferFact}
use Rattle.model_graphs.specs.Facts.{Facts, fact_of, specs_of}
use Rattle.model_graphs.specs.Evaluation.{Buffers, buffer_image}
use Rattle.model_states.specs.Neighbors.{AreNeighbors}
use Rattle.model_states.specs.Rectangles.{rectangle_of}
use Rattle.model_states.specs.Valid.{node_names}
use Rattle.model_graphs.specs.Shapes.{Shape}
use Rattle.model_states.specs.State.{node_of}
use Rattle.model_states.specs.Regions.{hull_of, HaveNoPosition}
use Rattle.pixel_formats.specs.Format.{same_format}
use Rattle.model_states.specs.Damage.{AreSteady, IsSteady, Side, own_change, side_shape, same_shape, same_names, same_body, inputs_of, is_unedited, damage_passed_on, damage_of_node, damages_after, damages, new_shape}
use Rattle.model_images.proofs.Laws.{AgreeOutside-refl}
use Rattle.model_states.proofs.PrefixLaws.{before_name, index_of-is}

-- ---- neighbors

some_only : {A : Type 0} (o : Option A) (a b : A) → o ≡ Some a → o ≡ Some b → a ≡ b
some_only o a b e f = cc

pub steady_itself : (facts : Facts) → AreSteady facts facts
steady_itself facts = λ name a b found again.
    subst (λ (b : BufferFact). IsSteady a b) (some_only (fact_of facts name) a b found again)
    (record { root = refl; shape = refl })

pub own_neighbor : (facts : Facts) (images : Buffers) → AreNeighbors facts facts images images []
own_neighbor facts images =
    record {
      steady = steady_itself facts;
      images = λ name a b found again. AgreeOutside-refl (buffer_image images name) (rectangle_of [] b.root);
    }

-- ---- tests of a thing against itself

pub same_shape-itself : (s : Shape) → same_shape s s ≡ true
same_shape-itself s =
    let box = same_rectangle-itself s.box in
    let format : same_format s.format s.format ≡ true = grind (arith, nat_tests) in
    rw (box, format) refl

same_names-itself : (names : List (List ℕ)) → same_names names names ≡ true
same_names-itself [] = refl
same_names-itself (name ∷ names) = rw (same_bytes name, same_names-itself names) refl

pub same_body-itself : {Op : Type 0} (same : Op → Op → Bool) → ((f : Op) → same f f ≡ true) → (body : Body Op) → same_body same body body ≡ true
same_body-itself same itself (Source buffer) = same_bytes buffer
same_body-itself same itself (Compute operation inputs) = rw (itself operation, same_names-itself inputs) refl

shapes_steady : (shape : List ℕ → Shape) (inputs : List (List ℕ)) → list_all (λ input. same_shape (shape input) (shape input)) inputs ≡ true
shapes_steady shape [] = refl
shapes_steady shape (input ∷ inputs) = rw (same_shape-itself (shape input), shapes_steady shape inputs) refl

kept-itself : {Op : Type 0} (same : Op → Op → Bool) → ((f : Op) → same f f ≡ true) → (side : Side Op) (node : Node Op) →
    is_unedited same (own_change side) node (Some node) ≡ true
kept-itself same itself side node =
    let body = same_body-itself same itself node.body in
    let shapes = shapes_steady (side_shape side) (inputs_of node.body) in
    rw body shapes

-- ---- nodes of distinct names are found

abbrev IsFound : {Op : Type 0} → List (Node Op) → Node Op → Type 0
IsFound nodes node = slice_get nodes (before_name nodes node.name) ≡ Some node

found_after : {Op : Type 0} (first : Node Op) (nodes rest : List (Node Op)) → AllByRecursion (λ name. bytes_eq first.name name ≡ false) (node_names rest) → AllByRecursion (IsFound nodes) rest → AllByRecursion (IsFound (first ∷ nodes)) rest
found_after first nodes [] apart found = tt
found_after first nodes (node ∷ rest) apart found =
    let next : 1 + before_name nodes node.name ≡ suc (before_name nodes node.name) = omega arith in
    let here : IsFound (first ∷ nodes) node =
    ap (λ b. slice_get (first ∷ nodes) (cond (not b) (1 + before_name nodes node.name) 0)) apart.0
    ∙ ap (λ i. slice_get (first ∷ nodes) i) next
    ∙ found.0 in
    (here, found_after first nodes rest apart.1 found.1)

all_found : {Op : Type 0} (nodes : List (Node Op)) → IsDistinct bytes_eq (node_names nodes) → AllByRecursion (IsFound nodes) nodes
unfolding IsDistinct
all_found [] distinct = tt
all_found (node ∷ nodes) distinct =
    let here : IsFound (node ∷ nodes) node =
    ap (λ b. slice_get (node ∷ nodes) (cond (not b) (1 + before_name nodes node.name) 0)) (same_bytes node.name) in
    (here, found_after node nodes nodes distinct.0 (all_found nodes distinct.1))

-- ---- damage

hull_nothing : (a b : Rectangle) → is_empty a ≡ true → is_empty b ≡ true → is_empty (hull a b) ≡ true
hull_nothing a b e f = rw e f

get_nothing : (rs : List Rectangle) (i : ℕ) → HaveNoPosition rs → is_empty (get_or rs i empty) ≡ true
get_nothing [] i all = refl
get_nothing (r ∷ rs) zero all = all.0
get_nothing (r ∷ rs) (suc i) all = get_nothing rs i all.1

more_nothing : (rs : List Rectangle) (r : Rectangle) → HaveNoPosition rs → is_empty r ≡ true → HaveNoPosition (rs ++ r ∷ [])
more_nothing [] r all none = (none, tt)
more_nothing (q ∷ rs) r all none = (all.0, more_nothing rs r all.1 none)

meet_nothing : (box : Rectangle) → is_empty (meet empty box) ≡ true
meet_nothing box = grind (arith, nat_tests)

hull_of_nothing : (g : ℕ × List ℕ → Rectangle) → ((n : ℕ) (name : List ℕ) → is_empty (g (n, name)) ≡ true) → (n : ℕ) (names : List (List ℕ)) → is_empty (hull_of (map g (enumerate_from n names))) ≡ true
hull_of_nothing g none n [] = refl
hull_of_nothing g none n (name ∷ names) = hull_nothing (g (n, name)) (hull_of (map g (enumerate_from (n + 1) names))) (none n name) (hull_of_nothing g none (n + 1) names)

passed_nothing : {Op : Type 0} (meanings : Meanings Op) (side : Side Op) (rs : List Rectangle) (box : Rectangle) (body : Body Op) → KeepsNothing meanings → HaveNoPosition rs →
    is_empty (damage_passed_on meanings (own_change side) rs box body) ≡ true
passed_nothing meanings side rs box (Source buffer) keeps none = meet_nothing box
passed_nothing meanings side rs box (Compute operation inputs) keeps none =
    hull_of_nothing _ (λ n name. keeps operation _ n (get_or rs (index_of (specs_of side.nodes) name) empty) (get_nothing rs (index_of (specs_of side.nodes) name) none)) 0 inputs

node_nothing : {Op : Type 0} (same : Op → Op → Bool) → ((f : Op) → same f f ≡ true) → (meanings : Meanings Op) (side : Side Op) (rs : List Rectangle) (node : Node Op) → KeepsNothing meanings → HaveNoPosition rs → IsFound (specs_of side.nodes) node →
    is_empty (damage_of_node same meanings (own_change side) rs node) ≡ true
node_nothing same itself meanings side rs node keeps none found =
    let nodes = specs_of side.nodes in
    let box = (new_shape (own_change side) (length rs)).box in
    let was = (side_shape side node.name).box in
    let there : node_of nodes node.name ≡ Some node = ap (λ i. slice_get nodes i) (index_of-is nodes node.name) ∙ found in
    let kept : is_unedited same (own_change side) node (node_of nodes node.name) ≡ true =
    ap (is_unedited same (own_change side) node) there ∙ kept-itself same itself side node in
    ap (λ b. is_empty (cond b (damage_passed_on meanings (own_change side) rs box node.body) (hull was box))) kept
    ∙ passed_nothing meanings side rs box node.body keeps none

all_nothing : {Op : Type 0} (same : Op → Op → Bool) → ((f : Op) → same f f ≡ true) → (meanings : Meanings Op) (side : Side Op) (rs : List Rectangle) (rest : List (Node Op)) → KeepsNothing meanings → HaveNoPosition rs → AllByRecursion (IsFound (specs_of side.nodes)) rest →
    HaveNoPosition (damages_after same meanings (own_change side) rs rest)
all_nothing same itself meanings side rs [] keeps none found = none
all_nothing same itself meanings side rs (node ∷ rest) keeps none found =
    let r = damage_of_node same meanings (own_change side) rs node in
    all_nothing same itself meanings side (rs ++ r ∷ []) rest keeps
    (more_nothing rs r none (node_nothing same itself meanings side rs node keeps none found.0))
    found.1

pub nothing_damaged : {Op : Type 0} (same : Op → Op → Bool) (meanings : Meanings Op) (side : Side Op) → ((f : Op) → same f f ≡ true) → KeepsNothing meanings → IsDistinct bytes_eq (node_names (specs_of side.nodes)) →
    HaveNoPosition (damages same meanings (own_change side))
nothing_damaged same meanings side itself keeps distinct =
    all_nothing same itself meanings side [] (specs_of side.nodes) keeps tt (all_found (specs_of side.nodes) distinct)
