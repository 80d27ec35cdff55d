-- What is needed in a valid state are right pairs.
use Rattle.std.proofs.Common.{◌≡◌, ℕ, zero, suc, ◌<◌, Bool, true, false, ◌||◌, cond, List, [], ◌∷◌, ◌++◌, map, filter, reverse, take, length, get_or, inl, inr, IsTrue, IsSomeAnd, refl, sym, ap, ◌∙◌, subst, arith, Option, Some, None}
use Rattle.std.specs.Prelude.{option_map, slice_get}
use Rattle.std.specs.List.{AllByRecursion, IsDistinct, flat_map, list_any}
use Rattle.std.specs.Str.{bytes_eq}
use Rattle.std.proofs.Math.Seq.{take-suc}
use Rattle.std.proofs.lemmas.Bool.{cases_lt}
use Rattle.std.proofs.lemmas.List.{length-reverse, length-take-le, reverse-append, take_all}
use Rattle.std.proofs.lemmas.Option.{get_or_from_slice_get, same_Some, slice_get-get_or, slice_get-map}
use Rattle.plane_rect.specs.Rectangle.{Rectangle, Includes, meet}
use Rattle.plane_rect.specs.Tile.{Tile, tiles, strip_rectangles, meets}
use Rattle.plane_rect.proofs.Rectangles.{Inside-meet}
use Rattle.model_graphs.specs.Node.{Node, Step, FromBuffer, Apply, index_of, step_of}
use Rattle.model_graphs.specs.declared.node.Body.{Body}
use Rattle.model_graphs.specs.declared.node.Body.TheVariants.{Source, Compute}
use Rattle.model_states.specs.Cache.{AreRightPairs, IsComputed, IsPairOf, IsRight, needed_pairs, pair_of, with_bytes}
use Rattle.model_graphs.specs.Laws.{IsBoxed}
use Rattle.model_graphs.specs.Meanings.{Meanings}
use Rattle.model_states.specs.Need.{Asked, Needed, asked_by, asked_of, need, needed, needed_of, strip_of}
use Rattle.model_states.specs.declared.strip.Strip.{Strip}
use Rattle.model_states.specs.Regions.{hull_of, tiles_of_any}
use Rattle.model_states.specs.State.{IsValidScene, Scene, node_shapes, stated_nodes}
use Rattle.model_graphs.specs.declared.node.NodeFact.{NodeFact}
use Rattle.model_graphs.specs.Facts.{specs_of, stated_shapes}
use Rattle.model_states.proofs.Stated.{stated-nodes, stated-shapes}
use Rattle.model_states.specs.Valid.{node_names, steps_of}
use Rattle.model_graphs.specs.Shapes.{Shape, no_shape, shapes_of_images}
use Rattle.model_states.proofs.Indices.{index_of_name}
use Rattle.model_states.proofs.AskedInside.{InsideBox, all-append, asked_by_inside, asked_inside}
use Rattle.model_states.proofs.RightPairs.{meets_no_part}

-- ---- lists

all-filter : {X : Type 0} (P : X → Type 0) (test : X → Bool) (xs : List X) → ((x : X) → test x ≡ true → P x) → AllByRecursion P (filter test xs)
all-filter P test [] each = tt
all-filter P test (x ∷ xs) each = by (test x) refl (all-filter P test xs each)
  where
    by : (b : Bool) → test x ≡ b → AllByRecursion P (filter test xs) → AllByRecursion P (cond b (x ∷ filter test xs) (filter test xs))
    by true e rest = (each x e, rest)
    by false e rest = rest

all-map : {X Y : Type 0} (P : Y → Type 0) (f : X → Y) (xs : List X) → AllByRecursion (λ x. P (f x)) xs → AllByRecursion P (map f xs)
all-map P f [] all = tt
all-map P f (x ∷ xs) all = (all.0, all-map P f xs all.1)

all_of : {X : Type 0} (P Q : X → Type 0) (xs : List X) → ((x : X) → P x → Q x) → AllByRecursion P xs → AllByRecursion Q xs
all_of P Q [] step all = tt
all_of P Q (x ∷ xs) step all = (step x all.0, all_of P Q xs step all.1)

-- ---- tiles of what is asked of a box

-- a tile that meets a rectangle in a box meets the box
pub meets_whole : (t : Tile) (box part : Rectangle) → Includes box part → meets t part ≡ true → meets t box ≡ true
meets_whole t box part inside met = by (meets t box) refl
  where
    by : (b : Bool) → meets t box ≡ b → b ≡ true
    by true e = refl
    by false e = absurd (meets_no_part t box part inside e met)

either : (a b : Bool) (P : Type 0) → (a || b) ≡ true → (a ≡ true → P) → (b ≡ true → P) → P
either true b P h one other = one refl
either false b P h one other = other h

any_meets : (t : Tile) (box : Rectangle) (rs : List Rectangle) → AllByRecursion (Includes box) rs → list_any (meets t) rs ≡ true → meets t box ≡ true
any_meets t box [] inside some = absurd (cc)
any_meets t box (r ∷ rs) inside some =
    either (meets t r) (list_any (meets t) rs) (meets t box ≡ true) some
    (λ here. meets_whole t box r inside.0 here)
    (λ later. any_meets t box rs inside.1 later)

tiles_meet : (box : Rectangle) (rs : List Rectangle) → AllByRecursion (Includes box) rs → AllByRecursion (λ t. meets t box ≡ true) (tiles_of_any rs)
tiles_meet box rs inside = all-filter (λ t. meets t box ≡ true) (λ t. list_any (meets t) rs) (tiles (hull_of rs)) (λ t some. any_meets t box rs inside some)

module _ {Op : Type 0} where
  -- these steps, from the last to the first, are the first of all
  abbrev pub AreFirst : List (Step Op) → List (Step Op) → Type 0
  AreFirst all [] = Unit {0}
  AreFirst all (step ∷ before) = (slice_get all (length before) ≡ Some step) × AreFirst all before

  pub first_steps : (all : List (Step Op)) (n : ℕ) → AreFirst all (reverse (take n all))
  first_steps all zero = tt
  first_steps all (suc n) = elim (cases_lt n (length all)) [
    | inl there ↦ more n there (first_steps all n)
    | inr past ↦
        let whole : take (suc n) all ≡ take n all = take_all (suc n) all (omega (arith, past)) ∙ sym (take_all n all past) in
        subst (λ steps. AreFirst all (reverse steps)) (sym whole) (first_steps all n)
  ]
    where
      more : (n : ℕ) → n < length all → AreFirst all (reverse (take n all)) → AreFirst all (reverse (take (suc n) all))
      more n there rest =
          let none : Step Op = FromBuffer [] in
          let step = get_or all n none in
          let count : length (reverse (take n all)) ≡ n = length-reverse (take n all) ∙ length-take-le n all (omega (arith, there)) in
          let here : slice_get all (length (reverse (take n all))) ≡ Some step = ap (λ k. slice_get all k) count ∙ slice_get-get_or all n none there in
          let is : reverse (take (suc n) all) ≡ step ∷ reverse (take n all) = ap reverse (take-suc all n none there) ∙ reverse-append (take n all) (step ∷ []) in
          subst (AreFirst all) (sym is) (here, rest)

module _ {Op : Type 0} (meanings : Meanings Op) (boxed : IsBoxed meanings) where
  -- ---- what is needed

  -- A tile of an operation, which meets the box at its place.
  record IsWanted (shapes : List Shape) (all : List (Step Op)) (n : Needed) : Type 0 where
    operation : Op
    inputs : List ℕ
    step : slice_get all n.0 ≡ Some (Apply operation inputs)
    met : meets n.1 (get_or shapes n.0 no_shape).box ≡ true

  wanted_of_node : (shapes : List Shape) (all : List (Step Op)) (node : ℕ) (step : Step Op) (ts : List Tile) → slice_get all node ≡ Some step →
      AllByRecursion (λ t. meets t (get_or shapes node no_shape).box ≡ true) ts → AllByRecursion (IsWanted shapes all) (needed_of node step ts)
  wanted_of_node shapes all node (FromBuffer buffer) ts here met = tt
  wanted_of_node shapes all node (Apply operation inputs) ts here met =
      all-map (IsWanted shapes all) (λ t. (node, t)) ts
      (all_of (λ t. meets t (get_or shapes node no_shape).box ≡ true) (λ t. IsWanted shapes all (node, t)) ts
      (λ t some. record { operation = operation; inputs = inputs; step = here; met = some }) met)

  needed_wanted : (shapes : List Shape) (all : List (Step Op)) (asked : List Asked) (steps : List (Step Op)) → AreFirst all steps → AllByRecursion (InsideBox shapes) asked →
      AllByRecursion (IsWanted shapes all) (needed meanings shapes asked steps)
  needed_wanted shapes all asked [] first inside = tt
  needed_wanted shapes all asked (step ∷ before) first inside =
      let node = length before in
      let box = (get_or shapes node no_shape).box in
      let ts = tiles_of_any (asked_of asked node) in
      let more = asked_by meanings shapes step box ts in
      all-append (IsWanted shapes all) (needed meanings shapes (asked ++ more) before) (needed_of node step ts)
      (needed_wanted shapes all (asked ++ more) before first.1 (all-append (InsideBox shapes) asked more inside (asked_by_inside meanings boxed shapes step box ts)))
      (wanted_of_node shapes all node step ts first.0 (tiles_meet box (asked_of asked node) (asked_inside shapes node asked inside)))

  -- ---- pairs

  computed_step : (nodes : List (Node Op)) (body : Body Op) (operation : Op) (inputs : List ℕ) → step_of nodes body ≡ Apply operation inputs → IsComputed body
  computed_step nodes (Source buffer) operation inputs is = absurd (cc)
  computed_step nodes (Compute f names) operation inputs is = tt

  wanted_pair : (nodes : List (Node Op)) (shapes : List Shape) (n : Needed) → IsDistinct bytes_eq (node_names nodes) → IsWanted shapes (steps_of nodes) n →
      IsPairOf nodes shapes (pair_of nodes n)
  wanted_pair nodes shapes n distinct wanted =
      by (slice_get nodes n.0) refl (sym (slice_get-map (λ (node : Node Op). step_of nodes node.body) nodes n.0) ∙ wanted.step)
    where
      pair : (node : Node Op) → slice_get nodes n.0 ≡ Some node → step_of nodes node.body ≡ Apply wanted.operation wanted.inputs → IsPairOf nodes shapes (pair_of nodes n)
      pair node found step =
          let name : Node Op → List ℕ = λ node. node.name in
          let named : get_or (node_names nodes) n.0 [] ≡ node.name =
          get_or_from_slice_get (node_names nodes) n.0 node.name [] (slice_get-map name nodes n.0 ∙ ap (option_map name) found) in
          let index : index_of nodes node.name ≡ n.0 = index_of_name nodes n.0 node distinct found in
          subst (λ name. IsPairOf nodes shapes (record { node = name; tile = n.1 })) (sym named)
          (record {
            computed = subst (λ o. IsSomeAnd o (λ (node : Node Op). IsComputed node.body)) (sym (ap (λ k. slice_get nodes k) index ∙ found))
                (computed_step nodes node.body wanted.operation wanted.inputs step);
            meets_box = subst (λ k. IsTrue (meets n.1 (get_or shapes k no_shape).box)) (sym index) wanted.met;
          })

      by : (o : Option (Node Op)) → slice_get nodes n.0 ≡ o → option_map (λ (node : Node Op). step_of nodes node.body) o ≡ Some (Apply wanted.operation wanted.inputs) →
          IsPairOf nodes shapes (pair_of nodes n)
      by None e is = absurd (cc)
      by (Some node) e is = pair node e (same_Some (step_of nodes node.body) (Apply wanted.operation wanted.inputs) is)

  strip_wanted : (facts : List (NodeFact Op)) (node : ℕ) (rectangle : Rectangle) →
      AllByRecursion (IsWanted (stated_shapes facts) (steps_of (specs_of facts))) (strip_of meanings facts node rectangle).need
  strip_wanted facts node rectangle =
      let shapes = stated_shapes facts in
      let steps = steps_of (specs_of facts) in
      let box = (get_or shapes node no_shape).box in
      needed_wanted shapes steps ((node, meet rectangle box) ∷ []) (reverse (take (suc node) steps))
      (first_steps steps (suc node))
      (λ u v there. ((Inside-meet u v rectangle box).0 there).1, tt)

  strips_wanted : (facts : List (NodeFact Op)) (node : ℕ) (rectangles : List Rectangle) →
      AllByRecursion (IsWanted (stated_shapes facts) (steps_of (specs_of facts))) (flat_map (λ (strip : Strip). strip.need) (map (strip_of meanings facts node) rectangles))
  strips_wanted facts node [] = tt
  strips_wanted facts node (rectangle ∷ rectangles) =
      all-append (IsWanted (stated_shapes facts) (steps_of (specs_of facts))) (strip_of meanings facts node rectangle).need
      (flat_map (λ (strip : Strip). strip.need) (map (strip_of meanings facts node) rectangles))
      (strip_wanted facts node rectangle) (strips_wanted facts node rectangles)

-- what is needed of nodes are pairs of theirs
pub need_pairs : {Op : Type 0} (meanings : Meanings Op) (facts : List (NodeFact Op)) (node : ℕ) (request : Rectangle) → IsBoxed meanings → IsDistinct bytes_eq (node_names (specs_of facts)) →
    AllByRecursion (IsPairOf (specs_of facts) (stated_shapes facts)) (needed_pairs (specs_of facts) (need meanings facts node request))
need_pairs meanings facts node request boxed distinct =
    let list = flat_map (λ (strip : Strip). strip.need) (need meanings facts node request) in
    all-map (IsPairOf (specs_of facts) (stated_shapes facts)) (pair_of (specs_of facts)) list
    (all_of (IsWanted meanings boxed (stated_shapes facts) (steps_of (specs_of facts))) (λ n. IsPairOf (specs_of facts) (stated_shapes facts) (pair_of (specs_of facts) n)) list
    (λ n wanted. wanted_pair meanings boxed (specs_of facts) (stated_shapes facts) n distinct wanted)
    (strips_wanted meanings boxed facts node (strip_rectangles request)))

-- in a valid state they are right with their bytes
pub need_right : {Op : Type 0} (meanings : Meanings Op) (scene : Scene Op) (node : ℕ) (request : Rectangle) → IsBoxed meanings → IsValidScene meanings scene →
    AreRightPairs meanings scene (needed_pairs scene.nodes (need meanings (stated_nodes meanings scene) node request))
need_right {Op} meanings scene node request boxed valid =
    let shapes = shapes_of_images scene.table in
    let facts = stated_nodes meanings scene in
    let nodes : specs_of facts ≡ scene.nodes = stated-nodes meanings shapes scene.nodes in
    let boxes : stated_shapes facts ≡ node_shapes meanings scene = stated-shapes meanings shapes scene.nodes in
    let pairs = need_pairs meanings facts node request boxed (subst (λ (nodes : List (Node Op)). IsDistinct bytes_eq (node_names nodes)) (sym nodes) valid.distinct) in
    all_of (IsPairOf scene.nodes (node_shapes meanings scene)) (λ pair. IsRight meanings scene (with_bytes meanings scene pair)) (needed_pairs scene.nodes (need meanings facts node request))
    (λ pair is. record { pair = is; bytes = refl })
    (subst (λ (nodes : List (Node Op)). AllByRecursion (IsPairOf nodes (node_shapes meanings scene)) (needed_pairs nodes (need meanings facts node request))) nodes
    (subst (λ shapes. AllByRecursion (IsPairOf (specs_of facts) shapes) (needed_pairs (specs_of facts) (need meanings facts node request))) boxes pairs))
