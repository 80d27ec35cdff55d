-- Pairs of needed tiles, and a cache after one was kept.
use Rattle.std.proofs.Common.{◌≡◌, ℕ, ◌<◌, List, [], length, get_or, Some, None, sym, ap, ◌∙◌}
use Rattle.std.specs.Prelude.{option_map, slice_get}
use Rattle.std.specs.Option.{option_map as mapped}
use Rattle.std.proofs.lemmas.Option.{get_or_from_slice_get, slice_get-get_or, slice_get-map}
use Rattle.plane_rect.specs.Tile.{Tile}
use Rattle.model_graphs.specs.declared.node.NodeFact.{NodeFact}
use Rattle.model_graphs.specs.Facts.{specs_of}
use Rattle.model_graphs.specs.Node.{Node}
use Rattle.model_states.specs.Cache.{Pair, after_keep, find_pair, itself, pair_of}
use Rattle.model_states.specs.Valid.{node_names}
use Rattle.node_cache.specs.Stores.{pair_at}
use Rattle.node_tiles.proofs.Places.{spec-at}
use Rattle.strip_renders.specs.Looks.{IsKept, sized, with_tile}
use Rattle.strip_renders.specs.Moments.{Moment}

-- the pair of a needed tile is that of its node's name
pub named : {Op : Type 0} (nodes : List (NodeFact Op)) (n : ℕ) (fact : NodeFact Op) (tile : Tile) → n < length nodes → fact ≡ get_or nodes n fact
    → pair_of (specs_of nodes) (n, tile) ≡ pair_at fact.spec.name tile
named {Op} nodes n fact tile inside is =
    let found : slice_get nodes n ≡ Some fact = slice_get-get_or nodes n fact inside ∙ ap Some (sym is) in
    let name : Node Op → List ℕ = λ node. node.name in
    let its : get_or (node_names (specs_of nodes)) n [] ≡ fact.spec.name =
    get_or_from_slice_get (node_names (specs_of nodes)) n fact.spec.name [] (slice_get-map name (specs_of nodes) n ∙ ap (option_map name) (spec-at nodes n fact found)) in
    ap (λ (q : List ℕ). pair_at q tile) its

-- a pair was kept after tiles were read
pub kept-after : (old mid new : Moment) (pair named : Pair) (tile share : List ℕ) → pair ≡ named → tile ≡ share → find_pair itself old.pairs pair ≡ None
    → mid.pairs ≡ old.pairs → mid.capacity ≡ old.capacity → mid.sizes ≡ old.sizes → mid.cached ≡ old.cached
    → new.pairs ≡ after_keep mid.capacity mid.pairs named → new.sizes ≡ after_keep mid.capacity mid.sizes (sized named share)
    → new.cached ≡ mapped (λ list. after_keep mid.capacity list (with_tile named share)) mid.cached → IsKept old new pair tile
kept-after old mid new pair named tile share its same absent pairs capacity sizes cached new_pairs new_sizes new_cached = record {
  absent = absent;
  pairs = rw (its, ← pairs, ← capacity) new_pairs;
  sizes = rw (its, same, ← sizes, ← capacity) new_sizes;
  cached = rw (its, same, ← cached, ← capacity) new_cached;
}
