-- Cached pairs of stated nodes: their lengths, and what they are where they are right.
use Rattle.std.proofs.Common.{◌≡◌, ℕ, ◌*◌, List, [], ◌∷◌, length, map, Option, None, Some, refl, sym, ap, ap₂, ◌∙◌, subst}
use Rattle.std.specs.Prelude.{IfSome, IsSome}
use Rattle.std.specs.List.{AllByRecursion}
use Rattle.std.specs.Option.{option_map}
use Rattle.pixel_formats.specs.Format.{pixel_bytes}
use Rattle.model_images.proofs.ByteLaws.{length-tile_bytes}
use Rattle.model_graphs.specs.declared.node.NodeFact.{NodeFact}
use Rattle.model_graphs.specs.Evaluation.{Buffers}
use Rattle.model_graphs.specs.Facts.{AreImagesOf, Facts, shapes_of_facts, specs_of, stated_shapes}
use Rattle.model_graphs.specs.Meanings.{Meanings}
use Rattle.model_graphs.specs.Node.{index_of}
use Rattle.model_graphs.specs.Shapes.{Shape, Shapes}
use Rattle.model_states.specs.Cache.{AreRight, Cached, Counted, IsPairOf, Pair, all_looked_up, by_pair, itself, looked_up, pairs_of, with_bytes}
use Rattle.model_states.specs.State.{Scene, image_of, node_shapes}
use Rattle.model_states.specs.Valid.{AreStated, shapes_of}
use Rattle.model_states.proofs.CacheLaws.{recent-all}
use Rattle.node_cache.specs.declared.pair_key.PairKey.{PairKey}
use Rattle.node_cache.specs.Keys.{pair_of}
use Rattle.node_cache.specs.NodeNames.{Entries, pairs_in}
use Rattle.node_cache.specs.Stores.{Sized, by_sized, sized_of}
use Rattle.std.specs.Map.{values_of}
use Rattle.node_tiles.specs.Stated.{length_at, scene_of}
use Rattle.node_tiles.proofs.Scenes.{shape-image}
use Rattle.strip_renders.specs.Strips.{AreSizedPairs}
use Rattle.strip_renders.proofs.Looked.{pair-shown}

-- ---- values that are known where a chain exposes its bytes

pub known-is : {X Y : Type 0} (o : Option X) (y z : Y) → IsSome o → IfSome (option_map (λ (x : X). y) o) (λ (k : Y). k ≡ z) → option_map (λ (x : X). y) o ≡ Some z
known-is None y z some is = absurd (cc some)
known-is (Some x) y z some is = ap Some is

pub known-from : {X Y : Type 0} (o : Option X) (y z : Y) → option_map (λ (x : X). y) o ≡ Some z → IsSome o
known-from None y z is = absurd (cc is)
known-from (Some x) y z is = refl

-- ---- lists of pairs

pub map-itself : (pairs : List Pair) → map itself pairs ≡ pairs
map-itself [] = refl
map-itself (pair ∷ pairs) = ap (λ (ps : List Pair). pair ∷ ps) (map-itself pairs)

-- entries are known by their pairs and by their names
pub entries-same : (a b : Entries) → pairs_in a ≡ pairs_in b → values_of a ≡ values_of b → a ≡ b
entries-same [] [] pairs names = refl
entries-same [] (e ∷ b) pairs names = absurd (cc)
entries-same (e ∷ a) [] pairs names = absurd (cc)
entries-same (e ∷ a) (f ∷ b) pairs names =
    let pair : pair_of e.0 ≡ pair_of f.0 = cc in
    let key : e.0 ≡ f.0 = ap (λ (p : Pair). let k : PairKey = record { node = p.node; at = p.tile } in k) pair in
    let name : e.1 ≡ f.1 = cc in
    let rest : a ≡ b = entries-same a b (cc) (cc) in
    let first : e ≡ f =
    ap (λ (k : PairKey). let x : PairKey × ℕ = (k, e.1) in x) key ∙ ap (λ (n : ℕ). let x : PairKey × ℕ = (f.0, n) in x) name in
    ap₂ {B = Entries} (λ x xs. x ∷ xs) first rest

module _ {Op : Type 0} (meanings : Meanings Op) (scene : Scene Op) where
  pub fresh-pairs : (pairs : List Pair) → pairs_of by_pair (map (with_bytes meanings scene) pairs) ≡ pairs
  fresh-pairs [] = refl
  fresh-pairs (pair ∷ pairs) = ap (λ (ps : List Pair). pair ∷ ps) (fresh-pairs pairs)

  -- a right list is made of its pairs
  pub right-is : (list : List Cached) → AreRight meanings scene list → list ≡ map (with_bytes meanings scene) (pairs_of by_pair list)
  right-is [] right = refl
  right-is (c ∷ list) right =
      let first : c ≡ with_bytes meanings scene c.pair = ap (λ (b : List ℕ). let x : Cached = record { pair = c.pair; bytes = b } in x) right.0.bytes in
      ap₂ {B = List Cached} (λ x xs. x ∷ xs) first (right-is list right.1)

-- ---- lengths

module _ {Op : Type 0} (nodes : List (NodeFact Op)) where
  -- as many bytes as a tile of its node has
  abbrev pub HasLength : Cached → Type 0
  HasLength cached = length cached.bytes ≡ length_at nodes (index_of (specs_of nodes) cached.pair.node)

  abbrev pub sized_by : Pair → Sized
  sized_by pair = record { pair = pair; length = length_at nodes (index_of (specs_of nodes) pair.node) }

  sized-with : (pair : Pair) → ℕ → Sized
  sized-with pair n = record { pair = pair; length = n }

  pub sizes-are : (sizes : List Sized) → AreSizedPairs nodes sizes → sizes ≡ map sized_by (pairs_of by_sized sizes)
  unfolding sized-with
  sizes-are [] are = refl
  sizes-are (s ∷ sizes) are = ap₂ {B = List Sized} (λ x xs. x ∷ xs) (ap (sized-with s.pair) are.0.length) (sizes-are sizes are.1)

  pub lengths-are : (list : List Cached) → AllByRecursion HasLength list → map sized_of list ≡ map sized_by (pairs_of by_pair list)
  unfolding sized-with
  lengths-are [] all = refl
  lengths-are (c ∷ list) all = ap₂ {B = List Sized} (λ x xs. x ∷ xs) (ap (sized-with c.pair) all.0) (lengths-are list all.1)

  pub have-lengths : (list : List Cached) → AreSizedPairs nodes (map sized_of list) → AllByRecursion HasLength list
  have-lengths [] are = tt
  have-lengths (c ∷ list) are = (are.0.length, have-lengths list are.1)

  pub looked-lengths : (fresh : Pair → Cached) (capacity : Option ℕ) (counted : Counted Cached) (pairs : List Pair) → ((pair : Pair) → HasLength (fresh pair))
      → AllByRecursion HasLength counted.list → AllByRecursion HasLength (all_looked_up by_pair fresh capacity counted pairs).list
  looked-lengths fresh capacity counted [] each all = all
  looked-lengths fresh capacity counted (pair ∷ pairs) each all =
      looked-lengths fresh capacity (looked_up by_pair fresh capacity counted pair) pairs each
      (recent-all by_pair fresh capacity HasLength counted.list pair all (each pair))

  pub fresh-lengths : (fresh : Pair → Cached) (pairs : List Pair) → ((pair : Pair) → HasLength (fresh pair)) → AllByRecursion HasLength (map fresh pairs)
  fresh-lengths fresh [] each = tt
  fresh-lengths fresh (pair ∷ pairs) each = (each pair, fresh-lengths fresh pairs each)

-- ---- over images of the buffers

module _ {Op : Type 0} (meanings : Meanings Op) (facts : Facts) (nodes : List (NodeFact Op)) (stated : AreStated meanings (shapes_of_facts facts) nodes) (images : Buffers) (shown : AreImagesOf facts images) where
  pub fresh-length : (pair : Pair) → HasLength nodes (with_bytes meanings (scene_of nodes images) pair)
  fresh-length pair =
      length-tile_bytes (image_of meanings (scene_of nodes images) pair.node) pair.tile
      ∙ ap (λ (s : Shape). 4096 * pixel_bytes s.format) (sym (shape-image meanings facts nodes stated images shown pair.node))

  -- right pairs have the lengths of their nodes' tiles
  pub right-sized : (list : List Cached) → AreRight meanings (scene_of nodes images) list → AreSizedPairs nodes (map sized_of list)
  right-sized [] right = tt
  right-sized (c ∷ list) right = (record { of_nodes = is right.0.pair; length = ap length right.0.bytes ∙ fresh-length c.pair }, right-sized list right.1)
    where
      is : IsPairOf (specs_of nodes) (node_shapes meanings (scene_of nodes images)) c.pair → IsPairOf (specs_of nodes) (stated_shapes nodes) c.pair
      is = subst (λ (shapes : List Shape). IsPairOf (specs_of nodes) shapes c.pair) (sym (stated.shapes ∙ ap (λ (shapes : Shapes). shapes_of meanings shapes (specs_of nodes)) (sym shown)))

  -- and pairs with such lengths are right with their bytes
  pub fresh-right : (sizes : List Sized) → AreSizedPairs nodes sizes → AreRight meanings (scene_of nodes images) (map (with_bytes meanings (scene_of nodes images)) (pairs_of by_sized sizes))
  fresh-right [] are = tt
  fresh-right (s ∷ sizes) are = (record { pair = pair-shown meanings facts nodes images s.pair stated shown are.0.of_nodes; bytes = refl }, fresh-right sizes are.1)
