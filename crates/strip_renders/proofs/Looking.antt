-- A pair that is looked for in a list of cached pairs.
use Rattle.std.proofs.Common.{◌≡◌, ℕ, ◌*◌, Bool, true, false, cond, not, List, [], ◌∷◌, Option, Some, None, refl, ap, ◌∙◌}
use Rattle.std.specs.Prelude.{IfSome, is_some, slice_get}
use Rattle.std.specs.List.{AllByRecursion, IsDistinct}
use Rattle.std.specs.Str.{bytes_eq}
use Rattle.plane_rect.specs.Tile.{Tile}
use Rattle.pixel_formats.specs.Format.{pixel_bytes}
use Rattle.model_graphs.specs.declared.node.NodeFact.{NodeFact}
use Rattle.model_graphs.specs.Facts.{specs_of}
use Rattle.model_graphs.specs.Node.{index_of}
use Rattle.model_graphs.specs.Shapes.{Shape}
use Rattle.std.specs.Option.{option_map}
use Rattle.std.proofs.lemmas.Option.{same_Some}
use Rattle.model_graphs.specs.Meanings.{Meanings}
use Rattle.model_states.specs.State.{Scene}
use Rattle.model_states.specs.Cache.{AreRight, Cached, IsRight, Pair, after_look, by_pair, find_pair, itself, pair_bytes, pairs_of, same_pair, to_prefix}
use Rattle.model_states.specs.Valid.{node_names}
use Rattle.model_states.proofs.CacheLaws.{all-filter, found_has, found_is}
use Rattle.model_states.proofs.Indices.{index_of_name}
use Rattle.node_cache.specs.Stores.{Sized, by_sized, pair_at}
use Rattle.node_tiles.specs.Stated.{length_at}
use Rattle.node_tiles.proofs.Places.{shape-at, spec-at}
use Rattle.strip_renders.specs.Strips.{AreSizedPairs, IsSizedPair}

module _ {X : Type 0} (key : X → Pair) where
  -- a look for what isn't there changes nothing
  pub absent-same : (list : List X) (pair : Pair) → find_pair key list pair ≡ None → after_look key list pair ≡ list
  absent-same list pair none = ap (to_prefix key list pair) none

  -- what holds of each holds after a look
  pub looked-all : (P : X → Type 0) (list : List X) (pair : Pair) → AllByRecursion P list → AllByRecursion P (after_look key list pair)
  looked-all P list pair all = by (find_pair key list pair) refl
    where
      by : (o : Option X) → find_pair key list pair ≡ o → AllByRecursion P (to_prefix key list pair o)
      by None none = all
      by (Some x) found = (found_has key P list pair x all found, all-filter key P (λ y. not (same_pair pair (key y))) list all)

pub none-from : {X Y : Type 0} (o : Option X) (p : Option Y) → is_some o ≡ is_some p → o ≡ None → p ≡ None
none-from o None same none = refl
none-from o (Some y) same none = absurd (let e = ap is_some none in cc)

-- a cached pair of a node has as many bytes as a tile of the node
pub sized-long : {Op : Type 0} (nodes : List (NodeFact Op)) (sizes : List Sized) (n : ℕ) (fact : NodeFact Op) (tile : Tile) → IsDistinct bytes_eq (node_names (specs_of nodes))
    → slice_get nodes n ≡ Some fact → AreSizedPairs nodes sizes → IfSome (find_pair by_sized sizes (pair_at fact.spec.name tile)) (λ (s : Sized). s.length ≡ 4096 * pixel_bytes fact.format)
sized-long {Op} nodes sizes n fact tile distinct found all = by (find_pair by_sized sizes (pair_at fact.spec.name tile)) refl
  where
    by : (o : Option Sized) → find_pair by_sized sizes (pair_at fact.spec.name tile) ≡ o → IfSome o (λ (s : Sized). s.length ≡ 4096 * pixel_bytes fact.format)
    by None none = tt
    by (Some s) there =
        let its = found_has by_sized (IsSizedPair nodes) sizes (pair_at fact.spec.name tile) s all there in
        let pair : s.pair ≡ pair_at fact.spec.name tile = found_is by_sized sizes (pair_at fact.spec.name tile) s there in
        its.length
        ∙ ap (λ (p : Pair). length_at nodes (index_of (specs_of nodes) p.node)) pair
        ∙ ap (length_at nodes) (index_of_name (specs_of nodes) n fact.spec distinct (spec-at nodes n fact found))
        ∙ ap (λ (shape : Shape). 4096 * pixel_bytes shape.format) (shape-at nodes n fact found)

none-mapped : {X Y : Type 0} (f : X → Y) (o : Option X) → None ≡ option_map f o → o ≡ None
none-mapped f None is = refl
none-mapped f (Some x) is = absurd (cc is)

-- a cache is unchanged by a look that finds nothing
pub same-cached : (o : Option (List Cached)) (pair : Pair) → IfSome o (λ (list : List Cached). None ≡ option_map (λ (c : Cached). c.bytes) (find_pair by_pair list pair))
    → option_map (λ (list : List Cached). after_look by_pair list pair) o ≡ o
same-cached None pair none = refl
same-cached (Some list) pair none = ap Some (absent-same by_pair list pair (none-mapped (λ (c : Cached). c.bytes) (find_pair by_pair list pair) none))

-- what isn't among the pairs of a list isn't in the list
pub none-keyed : {X : Type 0} (key : X → Pair) (list : List X) (pair : Pair) → find_pair itself (pairs_of key list) pair ≡ None → find_pair key list pair ≡ None
none-keyed key [] pair none = refl
none-keyed {X} key (x ∷ list) pair none = by (same_pair pair (key x)) none (none-keyed key list pair)
  where
    by : (b : Bool) → cond b (Some (key x)) (find_pair itself (pairs_of key list) pair) ≡ None → (find_pair itself (pairs_of key list) pair ≡ None → find_pair key list pair ≡ None)
        → cond b (Some x) (find_pair key list pair) ≡ None
    by true here rest = absurd (cc here)
    by false here rest = rest here

-- a right pair that is found has the bytes of its node's image
pub right-bytes : {Op : Type 0} (meanings : Meanings Op) (scene : Scene Op) (list : List Cached) (pair : Pair) (tile : List ℕ) → AreRight meanings scene list
    → Some tile ≡ option_map (λ (c : Cached). c.bytes) (find_pair by_pair list pair) → tile ≡ pair_bytes meanings scene pair
right-bytes meanings scene list pair tile right is = by (find_pair by_pair list pair) refl is
  where
    by : (o : Option Cached) → find_pair by_pair list pair ≡ o → Some tile ≡ option_map (λ (c : Cached). c.bytes) o → tile ≡ pair_bytes meanings scene pair
    by None none e = absurd (cc e)
    by (Some c) found e =
        same_Some tile c.bytes e ∙ (found_has by_pair (IsRight meanings scene) list pair c right found).bytes
        ∙ ap (pair_bytes meanings scene) (found_is by_pair list pair c found)
