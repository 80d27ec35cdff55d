-- What is asked and needed of nodes, from the last to the first.
use Rattle.std.proofs.Common.{◌≡◌, ℕ, suc, ◌+◌, ◌<◌, ◌≤◌, List, [], ◌∷◌, ◌++◌, length, get_or, drop, drop-cons, take, map, reverse, refl, sym, ap, ◌∙◌, subst, append_assoc, arith}
use Rattle.std.proofs.Math.Seq.{take-suc}
use Rattle.std.proofs.lemmas.List.{get_or-map, length-map, length-reverse, length-take-le, reverse-append}
use Rattle.plane_rect.specs.Rectangle.{Rectangle}
use Rattle.plane_rect.specs.Tile.{Tile}
use Rattle.model_operations.specs.declared.operation.IntOp.{IntOp}
use Rattle.model_graphs.specs.declared.node.Body.TheVariants.{Compute}
use Rattle.model_graphs.specs.Shapes.{Shape, no_shape}
use Rattle.model_graphs.specs.declared.node.NodeFact.{NodeFact}
use Rattle.model_graphs.specs.Facts.{specs_of}
use Rattle.model_graphs.specs.Node.{Node, Step, FromBuffer, Apply, index_of, step_of}
use Rattle.model_states.specs.Need.{Asked, Needed, asked_by, asked_of, needed, needed_of}
use Rattle.model_states.specs.Regions.{tiles_of_any}
use Rattle.model_states.specs.Valid.{input_boxes, node_names, steps_of}
use Rattle.plain_graphs.specs.Needs.{AreBelow, asked_of_tiles, step_at}
use Rattle.model_operations.specs.Meanings.{int_meanings}

-- what tiles of an operation ask, by the positions and the boxes of its inputs
pub asked_by-indices : (shapes : List Shape) (nodes : List (Node IntOp)) (op : IntOp) (inputs : List (List ℕ)) (indices : List ℕ) (boxes : List Rectangle)
    (box : Rectangle) (tiles : List Tile)
    → indices ≡ map (index_of nodes) inputs → boxes ≡ input_boxes shapes indices
    → asked_of_tiles op boxes indices box tiles ≡ asked_by int_meanings shapes (step_of nodes (Compute op inputs)) box tiles
asked_by-indices shapes nodes op inputs indices boxes box tiles at over = rw (over, at) refl

-- ---- the last of some steps

abbrev step_in : List (Node IntOp) → Node IntOp → Step IntOp
step_in nodes node = step_of nodes node.body

reverse-take-suc : {A : Type 0} (xs : List A) (n : ℕ) (d : A) → n < length xs
    → reverse (take (suc n) xs) ≡ get_or xs n d ∷ reverse (take n xs)
reverse-take-suc xs n d inside = ap reverse (take-suc xs n d inside) ∙ reverse-append (take n xs) (get_or xs n d ∷ [])

length-before : {A : Type 0} (xs : List A) (n : ℕ) → n < length xs → length (reverse (take n xs)) ≡ n
length-before xs n inside = length-reverse (take n xs) ∙ length-take-le n xs (omega arith)

needed-cons : (shapes : List Shape) (asked : List Asked) (step : Step IntOp) (before : List (Step IntOp)) (n : ℕ) → length before ≡ n
    → needed int_meanings shapes asked (step ∷ before)
    ≡ needed int_meanings shapes (asked ++ asked_by int_meanings shapes step (get_or shapes n no_shape).box (tiles_of_any (asked_of asked n))) before
    ++ needed_of n step (tiles_of_any (asked_of asked n))
needed-cons shapes asked step before n count = rw (← count) refl

-- what is needed of some steps, by what is needed of those before the last
pub needed-last : (shapes : List Shape) (asked more : List Asked) (nodes : List (Node IntOp)) (n : ℕ)
    (tiles : List Tile) (before list : List Needed)
    → n < length nodes → tiles ≡ tiles_of_any (asked_of asked n)
    → more ≡ asked ++ asked_by int_meanings shapes (step_at nodes n) (get_or shapes n no_shape).box (tiles_of_any (asked_of asked n))
    → before ≡ needed int_meanings shapes more (reverse (take n (steps_of nodes)))
    → list ≡ before ++ needed_of n (step_at nodes n) tiles
    → list ≡ needed int_meanings shapes asked (reverse (take (suc n) (steps_of nodes)))
needed-last shapes asked more nodes n tiles before list inside of_tiles asks earlier joined =
    let steps = steps_of nodes in
    let some : n < length steps = omega (arith, length-map nodes (step_in nodes)) in
    let all = needed-cons shapes asked (step_at nodes n) (reverse (take n steps)) n (length-before steps n some) in
    joined
    ∙ ap (λ (xs : List Needed). xs ++ needed_of n (step_at nodes n) tiles) (earlier ∙ ap (λ (a : List Asked). needed int_meanings shapes a (reverse (take n steps))) asks)
    ∙ ap (λ (ts : List Tile). needed int_meanings shapes (asked ++ asked_by int_meanings shapes (step_at nodes n) (get_or shapes n no_shape).box (tiles_of_any (asked_of asked n))) (reverse (take n steps)) ++ needed_of n (step_at nodes n) ts) of_tiles
    ∙ sym all
    ∙ ap (needed int_meanings shapes asked) (sym (reverse-take-suc steps n (FromBuffer []) some))

-- the step of a node
pub step_at-is : (nodes : List (Node IntOp)) (n : ℕ) (node : Node IntOp) → n < length nodes → node ≡ get_or nodes n node
    → step_at nodes n ≡ step_of nodes node.body
step_at-is nodes n node inside is =
    get_or-map (step_in nodes) nodes n node (FromBuffer []) inside ∙ ap (step_in nodes) (sym is)

-- ---- the nodes that a need names

below-append : (end : ℕ) (xs ys : List Needed) → AreBelow end xs → AreBelow end ys → AreBelow end (xs ++ ys)
below-append end [] ys first second = second
below-append end (x ∷ xs) ys first second = (first.0, below-append end xs ys first.1 second)

below-more : (n : ℕ) (xs : List Needed) → AreBelow n xs → AreBelow (suc n) xs
below-more n [] below = tt
below-more n (x ∷ xs) below = (omega (arith, below.0), below-more n xs below.1)

needed_of-below : (n : ℕ) (step : Step IntOp) (tiles : List Tile) → AreBelow (suc n) (needed_of n step tiles)
needed_of-below n (FromBuffer buffer) tiles = tt
needed_of-below n (Apply op inputs) [] = tt
needed_of-below n (Apply op inputs) (tile ∷ tiles) = (omega arith, needed_of-below n (Apply op inputs) tiles)

pub needed-below : (n : ℕ) (step : Step IntOp) (tiles : List Tile) (before list : List Needed)
    → list ≡ before ++ needed_of n step tiles → AreBelow n before → AreBelow (suc n) list
needed-below n step tiles before list joined earlier =
    rw joined (below-append (suc n) before (needed_of n step tiles) (below-more n before earlier) (needed_of-below n step tiles))

pub below-le : (m n : ℕ) (xs : List Needed) → m ≤ n → AreBelow m xs → AreBelow n xs
below-le m n [] less below = tt
below-le m n (x ∷ xs) less below = (omega (arith, below.0), below-le m n xs less below.1)

-- the step of a stated node
pub step_at-facts : (facts : List (NodeFact IntOp)) (n : ℕ) (fact : NodeFact IntOp) → n < length facts → fact ≡ get_or facts n fact
    → step_at (specs_of facts) n ≡ step_of (specs_of facts) fact.spec.body
step_at-facts facts n fact inside is =
    let spec : NodeFact IntOp → Node IntOp = λ fact. fact.spec in
    let among : n < length (specs_of facts) = omega (arith, inside, length-map facts spec) in
    step_at-is (specs_of facts) n fact.spec among
    (ap spec is ∙ sym (get_or-map spec facts n fact fact.spec inside))

-- the name of a stated node
pub named_at : (facts : List (NodeFact IntOp)) (n : ℕ) (fact : NodeFact IntOp) → n < length facts → fact ≡ get_or facts n fact
    → get_or (node_names (specs_of facts)) n [] ≡ fact.spec.name
named_at facts n fact inside is =
    let spec : NodeFact IntOp → Node IntOp = λ fact. fact.spec in
    let name : Node IntOp → List ℕ = λ node. node.name in
    let among : n < length (specs_of facts) = omega (arith, inside, length-map facts spec) in
    get_or-map name (specs_of facts) n fact.spec [] among
    ∙ ap name (get_or-map spec facts n fact fact.spec inside)
    ∙ ap (λ (f : NodeFact IntOp). f.spec.name) (sym is)

-- ---- what is left of a list, one element further

rest_of : {X : Type 0} (xs : List X) (i : ℕ) (x : X) → i < length xs → x ≡ get_or xs i x → drop i xs ≡ x ∷ drop (i + 1) xs
rest_of xs i x inside is =
    let next : suc i ≡ i + 1 = omega arith in
    drop-cons xs i x inside ∙ ap (λ y. y ∷ drop (suc i) xs) (sym is) ∙ ap (λ n. x ∷ drop n xs) next

pub mapped-rest : {X Y : Type 0} {all : List Y} (f : X → Y) (done next : List Y) (xs : List X) (i : ℕ) (x : X) (y : Y)
    → i < length xs → x ≡ get_or xs i x → y ≡ f x → next ≡ done ++ y ∷ []
    → done ++ map f (drop i xs) ≡ all → next ++ map f (drop (i + 1) xs) ≡ all
mapped-rest f done next xs i x y inside is made pushed before =
    let rest = map f (drop (i + 1) xs) in
    ap (λ ys. ys ++ rest) pushed
    ∙ append_assoc done (y ∷ []) rest
    ∙ ap (λ first. done ++ first ∷ rest) made
    ∙ ap (λ ys. done ++ map f ys) (sym (rest_of xs i x inside is))
    ∙ before

pub below-rest : (end : ℕ) (xs : List Needed) (i : ℕ) (x : Needed) → i < length xs → x ≡ get_or xs i x → AreBelow end (drop i xs) → (x.0 < end) × AreBelow end (drop (i + 1) xs)
below-rest end xs i x inside is below = subst (AreBelow end) (rest_of xs i x inside is) below
