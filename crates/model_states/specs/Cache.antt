-- Cached tiles of nodes, most recent first, and how often a render finds one: of pairs alone, or with their bytes.
use Rattle.std.specs.Prelude.{◌≡◌, ℕ, ◌+◌, Bool, ◌&&◌, not, ⊤, IsTrue, List, [], ◌∷◌, map, filter, find, fold, flat_map, take, Option, Some, None, IsSomeAnd, slice_index_or}
use Rattle.std.specs.List.{AllByRecursion, IsDistinct}
use Rattle.std.specs.Str.{bytes_eq}
use Rattle.plane_rect.specs.Rectangle.{Rectangle}
use Rattle.plane_rect.specs.Tile.{Tile, same_tile, meets}
use Rattle.model_images.specs.Raw.{tile_bytes}
use Rattle.model_graphs.specs.declared.node.Body.{Body}
use Rattle.model_graphs.specs.declared.node.Body.TheVariants.{Source, Compute}
use Rattle.model_graphs.specs.Node.{Node, index_of}
use Rattle.model_graphs.specs.Shapes.{Shape, no_shape}
use Rattle.model_graphs.specs.Meanings.{Meanings}
use Rattle.model_states.specs.declared.strip.Strip.{Strip}
use Rattle.model_states.specs.Need.{Needed}
use Rattle.model_states.specs.Rectangles.{Rectangles}
use Rattle.model_states.specs.State.{Scene, image_of, node_of, node_shapes}
use Rattle.model_states.specs.Valid.{node_names}

-- a tile of the node of a name
pub record Pair : Type 0 where
  pub node : List ℕ
  pub tile : Tile

-- with its bytes
pub record Cached : Type 0 where
  pub pair : Pair
  pub bytes : List ℕ

-- the pair of a cached tile, and of a pair itself
abbrev pub by_pair : Cached → Pair
by_pair cached = cached.pair

abbrev pub itself : Pair → Pair
itself pair = pair

abbrev pub same_pair : Pair → Pair → Bool
same_pair a b = bytes_eq a.node b.node && same_tile a.tile b.tile

-- ---- lists of what has a pair for its key

-- the pairs of a list
abbrev pub pairs_of : {X : Type 0} → (X → Pair) → List X → List Pair
pairs_of key list = map key list

-- no pair is there twice
abbrev pub HasDistinctPairs : {X : Type 0} → (X → Pair) → List X → Type 0
HasDistinctPairs key list = IsDistinct same_pair (pairs_of key list)

-- what a list has of a pair
abbrev pub find_pair : {X : Type 0} → (X → Pair) → List X → Pair → Option X
find_pair key list pair = find (λ x. same_pair pair (key x)) list

-- the list without a pair
abbrev pub without_pair : {X : Type 0} → (X → Pair) → List X → Pair → List X
without_pair key list pair = filter (λ x. not (same_pair pair (key x))) list

-- what stands past a capacity is gone; with no capacity nothing is
abbrev pub within : {X : Type 0} → Option ℕ → List X → List X
within None list = list
within (Some capacity) list = take capacity list

-- a list after what it has of a pair, if it has any, goes to its front
abbrev pub to_prefix : {X : Type 0} → (X → Pair) → List X → Pair → Option X → List X
to_prefix key list pair None = list
to_prefix key list pair (Some x) = x ∷ without_pair key list pair

-- a list after a pair is looked for: it goes to the front where it is there
abbrev pub after_look : {X : Type 0} → (X → Pair) → List X → Pair → List X
after_look key list pair = to_prefix key list pair (find_pair key list pair)

-- a list after something new goes to its front
abbrev pub after_keep : {X : Type 0} → Option ℕ → List X → X → List X
after_keep capacity list x = within capacity (x ∷ list)

-- a list after a pair is looked up, of which it has this: it goes to the front, and where the list has none what is
-- fresh does
abbrev pub recent_of : {X : Type 0} → (X → Pair) → (Pair → X) → Option ℕ → List X → Pair → Option X → List X
recent_of key fresh capacity list pair None = after_keep capacity list (fresh pair)
recent_of key fresh capacity list pair (Some x) = to_prefix key list pair (Some x)

abbrev pub recent : {X : Type 0} → (X → Pair) → (Pair → X) → Option ℕ → List X → Pair → List X
recent key fresh capacity list pair = recent_of key fresh capacity list pair (find_pair key list pair)

-- A list, how many of the pairs that were looked up were not there and so were evaluated, and how many were there.
pub record Counted (X : Type 0) : Type 0 where
  pub list : List X
  pub applied : ℕ
  pub reused : ℕ

-- the counts after a pair is looked up, of which the list has this
abbrev pub applied_more : {X : Type 0} → ℕ → Option X → ℕ
applied_more applied None = applied + 1
applied_more applied (Some x) = applied

abbrev pub reused_more : {X : Type 0} → ℕ → Option X → ℕ
reused_more reused None = reused
reused_more reused (Some x) = reused + 1

-- one pair is looked up
abbrev pub looked_up : {X : Type 0} → (X → Pair) → (Pair → X) → Option ℕ → Counted X → Pair → Counted X
looked_up key fresh capacity counted pair =
    record {
      list = recent key fresh capacity counted.list pair;
      applied = applied_more counted.applied (find_pair key counted.list pair);
      reused = reused_more counted.reused (find_pair key counted.list pair);
    }

-- pairs are looked up in their order
abbrev pub all_looked_up : {X : Type 0} → (X → Pair) → (Pair → X) → Option ℕ → Counted X → List Pair → Counted X
all_looked_up key fresh capacity counted pairs = fold (looked_up key fresh capacity) counted pairs

-- the list, of which nothing is counted yet
abbrev pub uncounted : {X : Type 0} → List X → Counted X
uncounted list = record { list = list; applied = 0; reused = 0 }

-- the same with pairs alone
abbrev pub counted_pairs : {X : Type 0} → (X → Pair) → Counted X → Counted Pair
counted_pairs key counted =
    record { list = pairs_of key counted.list; applied = counted.applied; reused = counted.reused }

-- ---- what damage voids

-- a node's tiles that meet a rectangle are gone; the others keep their order
abbrev pub voided : {X : Type 0} → (X → Pair) → List X → List ℕ → Rectangle → List X
voided key list node rectangle =
    filter (λ x. not (bytes_eq node (key x).node && meets (key x).tile rectangle)) list

-- the same of each node of a list, one after another
abbrev pub all_voided : {X : Type 0} → (X → Pair) → List X → Rectangles → List X
all_voided key list rectangles =
    fold (λ list (entry : List ℕ × Rectangle). voided key list entry.0 entry.1) list rectangles

-- the pairs whose tile meets the damage of their node are gone
abbrev pub without_damaged : {X : Type 0} → (X → Pair) → (List ℕ → Rectangle) → List X → List X
without_damaged key damage list = filter (λ x. not (meets (key x).tile (damage (key x).node))) list

-- ---- in a state

-- a needed tile, by the name of its node
abbrev pub pair_of : {Op : Type 0} → List (Node Op) → Needed → Pair
pair_of nodes needed = record { node = slice_index_or (node_names nodes) needed.0 []; tile = needed.1 }

-- all pairs of all strips, in their order
abbrev pub needed_pairs : {Op : Type 0} → List (Node Op) → List Strip → List Pair
needed_pairs nodes strips = map (pair_of nodes) (flat_map (λ (strip : Strip). strip.need) strips)

-- the bytes of a pair: the samples of the node's image on the 64 by 64 pixels of the tile
abbrev pub pair_bytes : {Op : Type 0} → Meanings Op → Scene Op → Pair → List ℕ
pair_bytes meanings scene pair = tile_bytes (image_of meanings scene pair.node) pair.tile

-- a pair with its bytes
abbrev pub with_bytes : {Op : Type 0} → Meanings Op → Scene Op → Pair → Cached
with_bytes meanings scene pair = record { pair = pair; bytes = pair_bytes meanings scene pair }

-- The list and the counts after a render that has this need.
abbrev pub cached_for : {Op : Type 0} → Meanings Op → Scene Op → Option ℕ → List Cached → List Strip → Counted Cached
cached_for meanings scene capacity list strips =
    all_looked_up by_pair
    (with_bytes meanings scene)
    capacity
    (uncounted list)
    (needed_pairs scene.nodes strips)

-- an operation, and no buffer
abbrev pub IsComputed : {Op : Type 0} → Body Op → Type 0
IsComputed (Source buffer) = ⊥
IsComputed (Compute operation inputs) = ⊤

-- A pair is one of nodes of these shapes: its node is there and is no buffer, and its tile meets the node's box.
pub record IsPairOf {Op : Type 0} (nodes : List (Node Op)) (shapes : List Shape) (pair : Pair) : Type 0 where
  pub computed : IsSomeAnd (node_of nodes pair.node) (λ (node : Node Op). IsComputed node.body)
  pub meets_box : IsTrue (meets pair.tile (slice_index_or shapes (index_of nodes pair.node) no_shape).box)

-- A cached pair is right for a state: it is one of its nodes, and its bytes are those of the pair.
pub record IsRight {Op : Type 0} (meanings : Meanings Op) (scene : Scene Op) (cached : Cached) : Type 0 where
  pub pair : IsPairOf scene.nodes (node_shapes meanings scene) cached.pair
  pub bytes : cached.bytes ≡ pair_bytes meanings scene cached.pair

-- each pair of a list is right
abbrev pub AreRight : {Op : Type 0} → Meanings Op → Scene Op → List Cached → Type 0
AreRight meanings scene list = AllByRecursion (IsRight meanings scene) list

-- each of these pairs is right with its bytes
abbrev pub AreRightPairs : {Op : Type 0} → Meanings Op → Scene Op → List Pair → Type 0
AreRightPairs meanings scene pairs =
    AllByRecursion (λ pair. IsRight meanings scene (with_bytes meanings scene pair)) pairs
