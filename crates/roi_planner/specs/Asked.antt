-- What is asked of nodes, where rectangles that meet the same tiles stand for one another.
use Rattle.std.specs.Prelude.{◌≡◌, ℕ, ◌<◌, ◌⊎◌, List, [], flat_map, length, map, slice_index_or}
use Rattle.std.specs.List.{enumerate_from, list_any}
use Rattle.plane_rect.specs.Rectangle.{Inside, Rectangle, hull, meet}
use Rattle.plane_rect.specs.Tile.{Tile, tile_square, meets}
use Rattle.model_graphs.specs.declared.node.Body.{Body}
use Rattle.model_graphs.specs.declared.node.Body.TheVariants.{Source, Compute}
use Rattle.model_graphs.specs.Meanings.{Meanings}
use Rattle.model_states.specs.Need.{Asked, asked_of}
use Rattle.model_states.specs.Regions.{hull_of}
use Rattle.roi_planner.specs.Inputs.{Inputs}

-- the hull of two rectangles has no position but theirs
abbrev pub HullIsUnion : Rectangle → Rectangle → Type 0
HullIsUnion a b = (u v : ℕ) → Inside u v (hull a b) → Inside u v a ⊎ Inside u v b

-- rectangles that have one hull, and meet the same tiles
pub record MeetSameTiles (a b : List Rectangle) : Type 0 where
  pub hull : hull_of a ≡ hull_of b
  pub tiles : (tile : Tile) → list_any (meets tile) a ≡ list_any (meets tile) b

-- The regions of nodes, by their positions, meet the same tiles as what is asked of each.
pub record AreAsked (regions : List (List Rectangle)) (asked : List Asked) : Type 0 where
  pub each : (node : ℕ) → node < length regions → MeetSameTiles (slice_index_or regions node []) (asked_of asked node)

-- what a part of an operation's result asks of its inputs
abbrev pub asked_of_part : {Op : Type 0} → Meanings Op → Op → Inputs → Rectangle → List Asked
asked_of_part meanings operation inputs part =
    map
    (λ (input : ℕ × ℕ). (input.1, meanings.required operation inputs.boxes input.0 part))
    (enumerate_from 0 inputs.positions)

-- what tiles ask, each for its part of the operation's box
abbrev pub asked_of_tiles : {Op : Type 0} → Meanings Op → Op → Inputs → Rectangle → List Tile → List Asked
asked_of_tiles meanings operation inputs box tiles =
    flat_map (λ tile. asked_of_part meanings operation inputs (meet (tile_square tile) box)) tiles

-- the same of a body
abbrev pub asked_of_body : {Op : Type 0} → Meanings Op → Body Op → Inputs → Rectangle → List Tile → List Asked
asked_of_body meanings (Source buffer) inputs box tiles = []
asked_of_body meanings (Compute operation names) inputs box tiles =
    asked_of_tiles meanings operation inputs box tiles
