-- What a strip of a render does to a list of cached pairs, and what it holds.
use Rattle.std.specs.Prelude.{◌≡◌, ℕ, ◌+◌, ◌-◌, ◌++◌, min, IsSome, List, drop, flat_map, length, map, None, Option, Some, slice_get}
use Rattle.std.specs.List.{AllByRecursion, Contains}
use Rattle.indexmap.specs.IndexMap.{insert_entry}
use Rattle.plane_rect.specs.Rectangle.{Rectangle}
use Rattle.model_graphs.specs.declared.node.NodeFact.{NodeFact}
use Rattle.model_graphs.specs.Evaluation.{Buffers}
use Rattle.model_graphs.specs.Facts.{Facts, shapes_of_facts, specs_of, stated_shapes}
use Rattle.model_graphs.specs.Meanings.{Meanings}
use Rattle.model_graphs.specs.Node.{index_of}
use Rattle.model_states.specs.declared.strip.Strip.{Strip}
use Rattle.model_states.specs.Cache.{AreRight, Cached, Counted, IsPairOf, Pair, all_looked_up, by_pair, itself, pair_of, uncounted, with_bytes}
use Rattle.model_states.specs.Need.{Needed, need}
use Rattle.model_states.specs.Valid.{AreStated}
use Rattle.roi_planner.specs.Inputs.{Inputs, all_inputs}
use Rattle.node_cache.specs.Stores.{Sized}
use Rattle.node_tiles.specs.Held.{HeldTiles, held_bytes, node_tile, same_node_tile}
use Rattle.node_tiles.specs.Stated.{AreTilesOf, HaveLengths, length_at, scene_of}
use Rattle.strip_renders.specs.Moments.{Moment}

-- The nodes are stated over these facts of buffers, and each of them has these inputs.
pub record AreStatedWith {Op : Type 0} (meanings : Meanings Op) (buffers : Facts) (facts : List (NodeFact Op)) (inputs : List Inputs) : Type 0 where
  pub nodes : AreStated meanings (shapes_of_facts buffers) facts
  pub inputs_are : inputs ≡ all_inputs facts

-- the strip is one of those of a request for some node
abbrev pub IsStripOf : {Op : Type 0} → Meanings Op → List (NodeFact Op) → Strip → Type 0
IsStripOf meanings facts strip = (node : ℕ) × (request : Rectangle) × Contains (need meanings facts node request) strip

-- what strips need, one after another
abbrev pub needs_of : List Strip → List Needed
needs_of strips = flat_map (λ (strip : Strip). strip.need) strips

-- what is needed from an index of a strip on, and of the strips after it
abbrev pub needed_from : Strip → List Strip → ℕ → List Needed
needed_from strip later index = drop index strip.need ++ needs_of later

-- the pairs of needed tiles, in their order
abbrev pub pairs_needed : {Op : Type 0} → List (NodeFact Op) → List Needed → List Pair
pairs_needed facts need = map (pair_of (specs_of facts)) need

-- A cached pair is one of these nodes', with as many bytes as a tile of its node has.
pub record IsSizedPair {Op : Type 0} (facts : List (NodeFact Op)) (sized : Sized) : Type 0 where
  pub of_nodes : IsPairOf (specs_of facts) (stated_shapes facts) sized.pair
  pub length : sized.length ≡ length_at facts (index_of (specs_of facts) sized.pair.node)

abbrev pub AreSizedPairs : {Op : Type 0} → List (NodeFact Op) → List Sized → Type 0
AreSizedPairs facts sizes = AllByRecursion (IsSizedPair facts) sizes

-- a list and counts as one value
abbrev pub counted : {X : Type 0} → List X → ℕ → ℕ → Counted X
counted list applied reused = record { list = list; applied = applied; reused = reused }

-- Each needed tile is held, and each held tile is as long as one of its node.
pub record HoldsNeed {Op : Type 0} (facts : List (NodeFact Op)) (need : List Needed) (held : HeldTiles) : Type 0 where
  pub each : (k : ℕ) (needed : Needed) → slice_get need k ≡ Some needed → IsSome (held_bytes held needed.0 needed.1)
  pub lengths : HaveLengths facts held

-- One more tile is held, as long as one of its node.
pub record HoldsMore {Op : Type 0} (facts : List (NodeFact Op)) (needed : Needed) (old new : HeldTiles) : Type 0 where
  pub bytes : List ℕ
  pub held : new ≡ insert_entry same_node_tile old (node_tile needed.0 needed.1) bytes
  pub length : length bytes ≡ length_at facts needed.0

-- Cached pairs are known, and right for the nodes over these images.
pub record AreKnownRight {Op : Type 0} (meanings : Meanings Op) (facts : List (NodeFact Op)) (images : Buffers) (cached : Option (List Cached)) : Type 0 where
  pub list : List Cached
  pub known : cached ≡ Some list
  pub right : AreRight meanings (scene_of facts images) list

-- The cached list after pairs were looked up over these images.
abbrev pub list_after : {Op : Type 0} → Meanings Op → List (NodeFact Op) → Buffers → Option ℕ → List Cached → List Pair → List Cached
list_after meanings facts images capacity list pairs =
    (all_looked_up by_pair (with_bytes meanings (scene_of facts images)) capacity (uncounted list) pairs).list

-- Over known images, of which the cached list was right: it is the list after the pairs were looked up, and the held tiles
-- are those of the nodes' images.
pub record IsRendered {Op : Type 0} (meanings : Meanings Op) (facts : List (NodeFact Op)) (images : Buffers) (old new : Moment) (list : List Cached) (pairs : List Pair) (held : HeldTiles) : Type 0 where
  pub cached : new.cached ≡ Some (list_after meanings facts images old.capacity list pairs)
  pub tiles : AreTilesOf meanings facts images held

-- as many of so many pairs as a cache of this capacity holds
abbrev pub most_cached : Option ℕ → ℕ → ℕ
most_cached None count = count
most_cached (Some capacity) count = min capacity count

-- The most names that a chain has while pairs are looked up, where each cached name has one owner: those that aren't the
-- cache's, one for each pair that is cached, and one tile more at work.
abbrev pub most_names : Moment → List Pair → ℕ
most_names old pairs =
    old.counts.names - length old.cache_names
    + most_cached old.capacity (length old.pairs + (all_looked_up itself itself old.capacity (uncounted old.pairs) pairs).applied)
    + 1
