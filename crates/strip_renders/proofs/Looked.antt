-- A cache after a needed pair was looked up.
use Rattle.std.proofs.Common.{◌≡◌, ℕ, Bool, true, false, List, [], ◌∷◌, map, Option, Some, None, refl, sym, ap, ◌∙◌, subst}
use Rattle.std.specs.Prelude.{is_some}
use Rattle.std.specs.Option.{option_map}
use Rattle.chain_owners.specs.Held.{Held}
use Rattle.model_graphs.specs.declared.node.NodeFact.{NodeFact}
use Rattle.model_graphs.specs.Evaluation.{Buffers}
use Rattle.model_graphs.specs.Facts.{AreImagesOf, Facts, shapes_of_facts, specs_of, stated_shapes}
use Rattle.model_graphs.specs.Meanings.{Meanings}
use Rattle.model_graphs.specs.Shapes.{Shape, Shapes}
use Rattle.model_states.specs.Cache.{AreRight, Cached, IsPairOf, IsRight, Pair, after_keep, after_look, by_pair, find_pair, itself, pair_bytes, pairs_of, recent, recent_of, to_prefix, with_bytes}
use Rattle.model_states.specs.State.{Scene, node_shapes}
use Rattle.model_states.specs.Valid.{AreStated, shapes_of}
use Rattle.model_states.proofs.CacheLaws.{recent-all}
use Rattle.node_cache.specs.Stores.{AreExposed, Sized, by_sized, sized_of}
use Rattle.node_tiles.specs.Stated.{scene_of}
use Rattle.strip_renders.specs.Looks.{IsLookedUp, IsRecent, with_tile}
use Rattle.strip_renders.specs.Moments.{Moment}
use Rattle.strip_renders.specs.Strips.{AreKnownRight}
use Rattle.strip_renders.proofs.Looking.{none-keyed}

pub recent-pairs : (old new : Moment) (pair : Pair) (tile : List ℕ) (found : Bool) → IsLookedUp old new pair tile found → IsRecent old new pair found
recent-pairs old new pair tile true moved = record { pairs = by (find_pair itself old.pairs pair) moved.there moved.pairs; there = sym moved.there }
  where
    by : (o : Option Pair) → is_some o ≡ true → new.pairs ≡ to_prefix itself old.pairs pair o → new.pairs ≡ recent_of itself itself old.capacity old.pairs pair o
    by None there is = absurd (cc there)
    by (Some x) there is = is
recent-pairs old new pair tile false kept = record {
  pairs = kept.pairs ∙ ap (recent_of itself itself old.capacity old.pairs pair) (sym kept.absent);
  there = ap is_some (sym kept.absent);
}

sized-pairs : (list : List Cached) → pairs_of by_sized (map sized_of list) ≡ pairs_of by_pair list
sized-pairs [] = refl
sized-pairs (c ∷ list) = ap (λ (pairs : List Pair). c.pair ∷ pairs) (sized-pairs list)

-- the pairs of a list of known bytes
pub pairs-exposed : (pairs : List Pair) (sizes : List Sized) (held : Held) (cached : Option (List Cached)) (list : List Cached) → AreExposed pairs sizes held cached → cached ≡ Some list
    → pairs_of by_pair list ≡ pairs
pairs-exposed pairs sizes held cached list exposed known =
    let lengths : map sized_of list ≡ sizes = rw known at exposed.lengths in
    sym (sized-pairs list) ∙ ap (pairs_of by_sized) lengths ∙ exposed.of_pairs

module _ {Op : Type 0} (meanings : Meanings Op) where
  pub recent-cached : (scene : Scene Op) (old new : Moment) (pair : Pair) (tile : List ℕ) (list : List Cached) (found : Bool) → old.cached ≡ Some list → pairs_of by_pair list ≡ old.pairs
      → tile ≡ pair_bytes meanings scene pair → IsLookedUp old new pair tile found → new.cached ≡ Some (recent by_pair (with_bytes meanings scene) old.capacity list pair)
  recent-cached scene old new pair tile list true known keyed bytes moved =
      let own : Some tile ≡ option_map (λ (c : Cached). c.bytes) (find_pair by_pair list pair) = rw known at moved.own in
      moved.cached ∙ ap (option_map (λ (list : List Cached). after_look by_pair list pair)) known ∙ ap Some (by (find_pair by_pair list pair) own)
    where
      by : (o : Option Cached) → Some tile ≡ option_map (λ (c : Cached). c.bytes) o → to_prefix by_pair list pair o ≡ recent_of by_pair (with_bytes meanings scene) old.capacity list pair o
      by None own = absurd (cc own)
      by (Some x) own = refl
  recent-cached scene old new pair tile list false known keyed bytes kept =
      let none : find_pair by_pair list pair ≡ None = none-keyed by_pair list pair (ap (λ (pairs : List Pair). find_pair itself pairs pair) keyed ∙ kept.absent) in
      kept.cached
      ∙ ap (option_map (λ (list : List Cached). after_keep old.capacity list (with_tile pair tile))) known
      ∙ ap (λ (b : List ℕ). Some (after_keep old.capacity list (with_tile pair b))) bytes
      ∙ ap (λ (o : Option Cached). Some (recent_of by_pair (with_bytes meanings scene) old.capacity list pair o)) (sym none)

  -- a pair of stated nodes is one over their images
  pub pair-shown : (facts : Facts) (nodes : List (NodeFact Op)) (images : Buffers) (pair : Pair) → AreStated meanings (shapes_of_facts facts) nodes → AreImagesOf facts images
      → IsPairOf (specs_of nodes) (stated_shapes nodes) pair → IsPairOf (specs_of nodes) (node_shapes meanings (scene_of nodes images)) pair
  pair-shown facts nodes images pair stated shown is =
      subst (λ (shapes : List Shape). IsPairOf (specs_of nodes) shapes pair)
      (stated.shapes ∙ ap (λ (shapes : Shapes). shapes_of meanings shapes (specs_of nodes)) (sym shown)) is

  -- a right list still is one after a pair was looked up
  pub right-recent : (nodes : List (NodeFact Op)) (images : Buffers) (capacity : Option ℕ) (list : List Cached) (pair : Pair) (cached : Option (List Cached))
      → IsPairOf (specs_of nodes) (node_shapes meanings (scene_of nodes images)) pair → AreRight meanings (scene_of nodes images) list
      → cached ≡ Some (recent by_pair (with_bytes meanings (scene_of nodes images)) capacity list pair) → AreKnownRight meanings nodes images cached
  right-recent nodes images capacity list pair cached is right known = record {
    list = recent by_pair (with_bytes meanings (scene_of nodes images)) capacity list pair;
    known = known;
    right = recent-all by_pair (with_bytes meanings (scene_of nodes images)) capacity (IsRight meanings (scene_of nodes images)) list pair right (record { pair = is; bytes = refl });
  }

  -- Over known images: a pair of stated nodes was looked up, with the bytes of its node's image.
  module _ (facts : Facts) (nodes : List (NodeFact Op)) (images : Buffers) (old new : Moment) (pair : Pair) (tile : List ℕ) (found : Bool)
      (exposed : AreExposed old.pairs old.sizes old.held old.cached) (bytes : tile ≡ pair_bytes meanings (scene_of nodes images) pair) (looked : IsLookedUp old new pair tile found) where
    pub list-shown : (list : List Cached) → old.cached ≡ Some list → new.cached ≡ Some (recent by_pair (with_bytes meanings (scene_of nodes images)) old.capacity list pair)
    list-shown list known =
        recent-cached (scene_of nodes images) old new pair tile list found known
        (pairs-exposed old.pairs old.sizes old.held old.cached list exposed known) bytes looked

    pub right-shown : AreStated meanings (shapes_of_facts facts) nodes → AreImagesOf facts images → IsPairOf (specs_of nodes) (stated_shapes nodes) pair
        → AreKnownRight meanings nodes images old.cached → AreKnownRight meanings nodes images new.cached
    right-shown stated shown is right =
        right-recent nodes images old.capacity right.list pair new.cached (pair-shown facts nodes images pair stated shown is) right.right (list-shown right.list right.known)
