-- Nodes by their positions, and what stands before each.
use Rattle.std.proofs.Common.{◌≡◌, ℕ, zero, suc, ◌+◌, ◌<◌, Bool, true, false, not, List, [], ◌∷◌, ◌++◌, map, length, cond, refl, sym, ap, ◌∙◌, subst, arith, Some, IsSome}
use Rattle.std.specs.Prelude.{All, slice_get}
use Rattle.std.specs.List.{AllByRecursion, IsDistinct}
use Rattle.std.specs.Str.{bytes_eq}
use Rattle.std.proofs.lemmas.List.{length-append}
use Rattle.std.proofs.lemmas.Slice.Eq.{bytes_eq-Decides}
use Rattle.model_graphs.specs.Node.{Node, Step, index_of, step_of}
use Rattle.model_graphs.specs.declared.node.Body.{Body}
use Rattle.model_graphs.specs.declared.node.Body.TheVariants.{Source, Compute}
use Rattle.model_graphs.specs.Meanings.{Meanings}
use Rattle.model_states.specs.Valid.{node_names, AreValid, AreValidSteps, IsValidStep, step_shape}
use Rattle.model_graphs.specs.Shapes.{Shape, Shapes, shape_in}
use Rattle.model_states.specs.State.{node_of}
use Rattle.model_states.proofs.PrefixLaws.{before_name, index_of-is}
use Rattle.model_states.proofs.Unrolled.{indices_of}

-- ---- the node of a name

at_name : {Op : Type 0} (nodes : List (Node Op)) (name : List ℕ) (node : Node Op) → slice_get nodes (before_name nodes name) ≡ Some node → bytes_eq node.name name ≡ true
at_name [] name node found = absurd (cc)
at_name {Op} (first ∷ nodes) name node found = by (bytes_eq first.name name) refl found (at_name nodes name node)
  where
    by : (b : Bool) → bytes_eq first.name name ≡ b → slice_get (first ∷ nodes) (cond (not b) (1 + before_name nodes name) 0) ≡ Some node →
        (slice_get nodes (before_name nodes name) ≡ Some node → bytes_eq node.name name ≡ true) → bytes_eq node.name name ≡ true
    by true e here later = let same : first ≡ node = cc in subst (λ (n : Node Op). bytes_eq n.name name ≡ true) same e
    by false e here later =
        let next : 1 + before_name nodes name ≡ suc (before_name nodes name) = omega arith in
        later (ap (λ i. slice_get (first ∷ nodes) i) (sym next) ∙ here)

pub found_name : {Op : Type 0} (nodes : List (Node Op)) (name : List ℕ) (node : Node Op) → node_of nodes name ≡ Some node → node.name ≡ name
found_name nodes name node found =
    (bytes_eq-Decides node.name name).0 (at_name nodes name node (ap (λ i. slice_get nodes i) (sym (index_of-is nodes name)) ∙ found))

-- where names are distinct, the position of a node is that of its name

of_name : {Op : Type 0} (P : List ℕ → Type 0) (nodes : List (Node Op)) (i : ℕ) (node : Node Op) → AllByRecursion P (node_names nodes) → slice_get nodes i ≡ Some node → P node.name
of_name P [] i node all found = absurd (cc)
of_name {Op} P (first ∷ nodes) zero node all found = let same : first ≡ node = cc in subst (λ (n : Node Op). P n.name) same all.0
of_name P (first ∷ nodes) (suc i) node all found = of_name P nodes i node all.1 found

before_own : {Op : Type 0} (nodes : List (Node Op)) (i : ℕ) (node : Node Op) → IsDistinct bytes_eq (node_names nodes) → slice_get nodes i ≡ Some node → before_name nodes node.name ≡ i
unfolding IsDistinct
before_own [] i node distinct found = absurd (cc)
before_own {Op} (first ∷ nodes) zero node distinct found =
    let same : first ≡ node = cc in
    let test : bytes_eq first.name node.name ≡ true = (bytes_eq-Decides first.name node.name).1 (ap (λ (n : Node Op). n.name) same) in
    ap (λ b. cond (not b) (1 + before_name nodes node.name) 0) test
before_own (first ∷ nodes) (suc i) node distinct found =
    let test = of_name (λ name. bytes_eq first.name name ≡ false) nodes i node distinct.0 found in
    let rest = before_own nodes i node distinct.1 found in
    ap (λ b. cond (not b) (1 + before_name nodes node.name) 0) test ∙ omega (arith, rest)

pub index_of_name : {Op : Type 0} (nodes : List (Node Op)) (i : ℕ) (node : Node Op) → IsDistinct bytes_eq (node_names nodes) → slice_get nodes i ≡ Some node → index_of nodes node.name ≡ i
index_of_name nodes i node distinct found = index_of-is nodes node.name ∙ before_own nodes i node distinct found

-- ---- valid steps

-- a step is valid after the shapes of those before it
abbrev pub IsValidAt : {Op : Type 0} → Meanings Op → Shapes → ℕ → Step Op → Type 0
IsValidAt meanings buffers index step = (shapes : List Shape) × (length shapes ≡ index) × IsValidStep meanings buffers shapes step

valid_among : {Op : Type 0} (meanings : Meanings Op) (buffers : Shapes) (nodes : List (Node Op)) (known : List Shape) (rest : List (Node Op)) →
    AreValidSteps meanings buffers known (map (λ (node : Node Op). step_of nodes node.body) rest) →
    (i : ℕ) (node : Node Op) → slice_get rest i ≡ Some node → IsValidAt meanings buffers (length known + i) (step_of nodes node.body)
valid_among meanings buffers nodes known [] valid i node found = absurd (cc)
valid_among {Op} meanings buffers nodes known (first ∷ rest) valid zero node found =
    let same : first ≡ node = cc in
    (known, omega arith, subst (λ (n : Node Op). IsValidStep meanings buffers known (step_of nodes n.body)) same valid.0)
valid_among meanings buffers nodes known (first ∷ rest) valid (suc i) node found =
    let shape = step_shape meanings buffers known (step_of nodes first.body) ∷ [] in
    let index : length (known ++ shape) + i ≡ length known + suc i = omega (arith, length-append known shape) in
    subst (λ n. IsValidAt meanings buffers n (step_of nodes node.body)) index
    (valid_among meanings buffers nodes (known ++ shape) rest valid.1 i node found)

valid_at : {Op : Type 0} (meanings : Meanings Op) (buffers : Shapes) (nodes : List (Node Op)) (name : List ℕ) (node : Node Op) →
    AreValid meanings buffers nodes → node_of nodes name ≡ Some node → IsValidAt meanings buffers (index_of nodes name) (step_of nodes node.body)
valid_at meanings buffers nodes name node valid found =
    let start : 0 + index_of nodes name ≡ index_of nodes name = omega arith in
    subst (λ n. IsValidAt meanings buffers n (step_of nodes node.body)) start
    (valid_among meanings buffers nodes [] nodes valid.steps (index_of nodes name) node found)

-- the buffer of a source is there
pub source_there : {Op : Type 0} (meanings : Meanings Op) (buffers : Shapes) (nodes : List (Node Op)) (name : List ℕ) (node : Node Op) (buffer : List ℕ) →
    AreValid meanings buffers nodes → node_of nodes name ≡ Some node → node.body ≡ Source buffer → IsSome (shape_in buffers buffer)
source_there {Op} meanings buffers nodes name node buffer valid found is =
    let at = subst (λ (body : Body Op). IsValidAt meanings buffers (index_of nodes name) (step_of nodes body)) is (valid_at meanings buffers nodes name node valid found) in
    at.2

-- the inputs of another node stand before it
pub inputs_before : {Op : Type 0} (meanings : Meanings Op) (buffers : Shapes) (nodes : List (Node Op)) (name : List ℕ) (node : Node Op) (operation : Op) (inputs : List (List ℕ)) →
    AreValid meanings buffers nodes → node_of nodes name ≡ Some node → node.body ≡ Compute operation inputs →
    All (λ i. i < index_of nodes name) (indices_of nodes inputs)
inputs_before {Op} meanings buffers nodes name node operation inputs valid found is =
    let at = subst (λ (body : Body Op). IsValidAt meanings buffers (index_of nodes name) (step_of nodes body)) is (valid_at meanings buffers nodes name node valid found) in
    subst (λ n. All (λ i. i < n) (indices_of nodes inputs)) at.1 at.2.inputs_earlier
