-- In the need of a strip no pair stands twice.
use Rattle.std.proofs.Common.{◌≡◌, ◌≢◌, ℕ, suc, ◌<◌, ◌≤◌, true, Decides, List, [], ◌∷◌, ◌++◌, map, reverse, take, length, get_or, inl, inr, refl, sym, ap, subst, arith, All, AllPairs, Contains}
use Rattle.std.specs.List.{AllByRecursion, IsDistinct, list_any}
use Rattle.std.specs.Str.{bytes_eq}
use Rattle.std.proofs.lemmas.Bool.{cases_lt}
use Rattle.std.proofs.lemmas.List.{get_or-map, length-map, length-reverse, length-take}
use Rattle.std.proofs.lemmas.List.Elements.{All-append}
use Rattle.std.proofs.lemmas.List.Kept.{AllPairs-filter}
use Rattle.std.proofs.lemmas.Map.Made.{AllPairs-from_IsDistinct, IsDistinct-from_AllPairs}
use Rattle.std.proofs.lemmas.Slice.Eq.{bytes_eq-Decides}
use Rattle.plane_rect.specs.Rectangle.{Rectangle}
use Rattle.plane_rect.specs.SameTile.{same_tile-laws}
use Rattle.plane_rect.specs.Tile.{Tile, IsBefore, same_tile, tiles, strip_rectangles, meets}
use Rattle.plane_rect.proofs.Lists.{AllPairs-append, AllPairs-nil}
use Rattle.plane_rect.proofs.TileLists.{tiles-in_order}
use Rattle.model_graphs.specs.Node.{Node, Step, FromBuffer, Apply, step_of}
use Rattle.model_states.specs.Cache.{Pair, pair_of, same_pair}
use Rattle.model_graphs.specs.Meanings.{Meanings}
use Rattle.model_states.specs.Need.{Asked, Needed, asked_by, asked_of, need, needed, needed_of, strip_of}
use Rattle.model_states.specs.declared.strip.Strip.{Strip}
use Rattle.model_states.specs.Regions.{hull_of, tiles_of_any}
use Rattle.model_graphs.specs.declared.node.NodeFact.{NodeFact}
use Rattle.model_graphs.specs.Facts.{specs_of}
use Rattle.model_states.specs.Valid.{node_names, steps_of}
use Rattle.model_graphs.specs.Shapes.{Shape, no_shape}
use Rattle.model_states.proofs.CacheLaws.{same_pair-true}

-- ---- lists

-- what holds of each two elements that have P, for the elements that are made of them
all_pairs-map : {X Y : Type 0} (f : X → Y) (P : X → Type 0) (R : X → X → Type 0) (S : Y → Y → Type 0) (d : X) (xs : List X) →
    ((x y : X) → P x → P y → R x y → S (f x) (f y)) → All P xs → AllPairs R xs → AllPairs S (map f xs)
all_pairs-map f P R S d xs step all pairs i j e before below =
    let count = length-map xs f in
    let later : j < length xs = omega arith in
    let sooner : i < length xs = omega arith in
    rw (get_or-map f xs i d e sooner, get_or-map f xs j d e later)
    (step (get_or xs i d) (get_or xs j d) (all i d sooner) (all j d later) (pairs i j d before later))

all-map : {X Y : Type 0} (f : X → Y) (P : Y → Type 0) (d : X) (xs : List X) → ((x : X) → P (f x)) → All P (map f xs)
all-map f P d xs each k e below =
    let count = length-map xs f in
    rw (get_or-map f xs k d e (omega arith)) (each (get_or xs k d))

-- where no element stands twice, one element has one position
one_index_each : {X : Type 0} (xs : List X) (d : X) (i j : ℕ) → AllPairs (λ x y. x ≢ y) xs → i < length xs → j < length xs → get_or xs i d ≡ get_or xs j d → i ≡ j
one_index_each xs d i j apart below also same = elim (cases_lt i j) [
  | inl before ↦ absurd (apart i j d before also same)
  | inr after ↦ elim (cases_lt j i) [
    | inl after ↦ absurd (apart j i d after below (sym same))
    | inr other ↦ omega arith
  ]
]

-- ---- tiles

before-apart : (s t : Tile) → IsBefore s t → s ≢ t
before-apart s t (inl above) same = let row = ap (λ (t : Tile). t.row) same in omega (arith, above, row)
before-apart s t (inr left) same = let column = ap (λ (t : Tile). t.column) same in omega (arith, left.1, column)

no_tile : Tile
no_tile = record { column = 0; row = 0 }

tiles_apart : (rs : List Rectangle) → AllPairs (λ (s t : Tile). s ≢ t) (tiles_of_any rs)
tiles_apart rs i j d before below =
    before-apart (get_or (tiles_of_any rs) i d) (get_or (tiles_of_any rs) j d)
    (AllPairs-filter IsBefore (λ t. list_any (meets t) rs) (tiles (hull_of rs)) (tiles-in_order (hull_of rs)) i j d before below)

-- ---- what is needed

of_node : (node : ℕ) (s t : Tile) → s ≢ t → (let a : Needed = (node, s) in let b : Needed = (node, t) in a ≢ b)
of_node node s t apart same = apart (ap (λ (n : Needed). n.1) same)

-- no tile of a node stands twice, and the nodes stand before a position
record IsNeed (list : List Needed) (index : ℕ) : Type 0 where
  apart : AllPairs (λ (a b : Needed). a ≢ b) list
  below : All (λ (n : Needed). n.0 < index) list

of_each : (P : Needed → Type 0) (list : List Needed) (n : Needed) → All P list → Contains list n → P n
of_each P list n all there = subst P there.2 (all there.0 n there.1)

-- ---- pairs

pub Decides-same_pair : (a b : Pair) → Decides (same_pair a b) (a ≡ b)
Decides-same_pair a b = (same_pair-true a b, λ same. subst (λ (p : Pair). same_pair a p ≡ true) same (itself a))
  where
    itself : (p : Pair) → same_pair p p ≡ true
    itself p =
        let node : bytes_eq p.node p.node ≡ true = (bytes_eq-Decides p.node p.node).1 refl in
        let tile : same_tile p.tile p.tile ≡ true = same_tile-laws.refl p.tile in
        rw (node, tile) refl

same_needed : (a b : Needed) → a.0 ≡ b.0 → a.1 ≡ b.1 → a ≡ b
same_needed a b node tile =
    let joined : (of : ℕ → Tile → Needed) → of a.0 a.1 ≡ of b.0 b.1 = λ of. cc in
    joined (λ n t. (n, t))

module _ {Op : Type 0} where
  needed_of_node : (node : ℕ) (step : Step Op) (rs : List Rectangle) → AllPairs (λ (a b : Needed). a ≢ b) (needed_of node step (tiles_of_any rs))
  needed_of_node node (FromBuffer buffer) rs = AllPairs-nil (λ (a b : Needed). a ≢ b)
  needed_of_node node (Apply operation inputs) rs =
      all_pairs-map (λ tile. (node, tile)) (λ t. Unit {0}) (λ (s t : Tile). s ≢ t) (λ (a b : Needed). a ≢ b) no_tile (tiles_of_any rs)
      (λ s t _ _ apart. of_node node s t apart) (λ k d below. tt) (tiles_apart rs)

  at_node : (node : ℕ) (step : Step Op) (ts : List Tile) → All (λ (n : Needed). n.0 ≡ node) (needed_of node step ts)
  at_node node (FromBuffer buffer) ts = λ k d below. absurd (omega arith)
  at_node node (Apply operation inputs) ts = all-map (λ tile. (node, tile)) (λ (n : Needed). n.0 ≡ node) no_tile ts (λ t. refl)

  is_need : (meanings : Meanings Op) (shapes : List Shape) (asked : List Asked) (steps : List (Step Op)) → IsNeed (needed meanings shapes asked steps) (length steps)
  is_need meanings shapes asked [] = record { apart = AllPairs-nil (λ (a b : Needed). a ≢ b); below = λ k d below. absurd (omega arith) }
  is_need meanings shapes asked (step ∷ before) =
      let node = length before in
      let box = (get_or shapes node no_shape).box in
      let ts = tiles_of_any (asked_of asked node) in
      let first = needed meanings shapes (asked ++ asked_by meanings shapes step box ts) before in
      let last = needed_of node step ts in
      let rest = is_need meanings shapes (asked ++ asked_by meanings shapes step box ts) before in
      let here = at_node node step ts in
      record {
        apart = AllPairs-append (λ (a b : Needed). a ≢ b) first last rest.apart (needed_of_node node step (asked_of asked node))
            (λ a b p q same.
            let low : a.0 < node = of_each (λ (n : Needed). n.0 < node) first a rest.below p in
            let high : b.0 ≡ node = of_each (λ (n : Needed). n.0 ≡ node) last b here q in
            let one : a.0 ≡ b.0 = ap (λ (n : Needed). n.0) same in
            omega (arith, low, high, one));
        below = All-append (λ (n : Needed). n.0 < length (step ∷ before)) first last
            (λ k d below. let low = rest.below k d below in omega (arith, low))
            (λ k d below. let high = here k d below in omega (arith, high));
      }

  -- ---- pairs

  pairs_apart : (nodes : List (Node Op)) → IsDistinct bytes_eq (node_names nodes) → (a b : Needed) → a.0 < length nodes → b.0 < length nodes → a ≢ b → pair_of nodes a ≢ pair_of nodes b
  pairs_apart nodes distinct a b below also apart same =
      let count = length-map nodes (λ (node : Node Op). node.name) in
      let names = AllPairs-from_IsDistinct bytes_eq-Decides (node_names nodes) distinct in
      let index : a.0 ≡ b.0 =
      one_index_each (node_names nodes) [] a.0 b.0 names (omega (arith, count)) (omega (arith, count)) (ap (λ (p : Pair). p.node) same) in
      apart (same_needed a b index (ap (λ (p : Pair). p.tile) same))

  strip_distinct : (nodes : List (Node Op)) (list : List Needed) (index : ℕ) → IsDistinct bytes_eq (node_names nodes) → index ≤ length nodes → IsNeed list index →
      IsDistinct same_pair (map (pair_of nodes) list)
  strip_distinct nodes list index distinct few is =
      IsDistinct-from_AllPairs Decides-same_pair (map (pair_of nodes) list)
      (all_pairs-map (pair_of nodes) (λ (n : Needed). n.0 < length nodes) (λ (a b : Needed). a ≢ b) (λ (p q : Pair). p ≢ q) (0, no_tile) list
      (λ a b low high apart. pairs_apart nodes distinct a b low high apart)
      (λ k d below. let low = is.below k d below in omega (arith, low, few))
      is.apart)

  all_strips : (meanings : Meanings Op) (facts : List (NodeFact Op)) (node : ℕ) (rectangles : List Rectangle) → IsDistinct bytes_eq (node_names (specs_of facts)) →
      AllByRecursion (λ (strip : Strip). IsDistinct same_pair (map (pair_of (specs_of facts)) strip.need)) (map (strip_of meanings facts node) rectangles)
  all_strips meanings facts node [] distinct = tt
  all_strips meanings facts node (rectangle ∷ rectangles) distinct =
      let steps = take (suc node) (steps_of (specs_of facts)) in
      let count : length (reverse steps) ≤ length (specs_of facts) =
      omega (arith, length-reverse steps, length-take (suc node) (steps_of (specs_of facts)), length-map (specs_of facts) (λ (node : Node Op). step_of (specs_of facts) node.body)) in (
        strip_distinct (specs_of facts) (strip_of meanings facts node rectangle).need (length (reverse steps)) distinct count
            (is_need meanings _ _ (reverse steps)),
        all_strips meanings facts node rectangles distinct,
      )

  pub need_distinct : (meanings : Meanings Op) (facts : List (NodeFact Op)) (node : ℕ) (request : Rectangle) →
      IsDistinct bytes_eq (node_names (specs_of facts)) →
      AllByRecursion (λ (strip : Strip). IsDistinct same_pair (map (pair_of (specs_of facts)) strip.need)) (need meanings facts node request)
  need_distinct meanings facts node request distinct = all_strips meanings facts node (strip_rectangles request) distinct
