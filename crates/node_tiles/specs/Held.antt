-- Tiles of nodes that are held, by the positions of their nodes.
use Rattle.std.specs.Prelude.{ℕ, ◌&&◌, ◌==◌, Bool, List, Option}
use Rattle.std.specs.Map.{lookup}
use Rattle.plane_rect.specs.Tile.{Tile, same_tile}
use Rattle.node_tiles.specs.declared.strip_tiles.NodeTile.{NodeTile}

-- the tile of the node at a position
abbrev pub node_tile : ℕ → Tile → NodeTile
node_tile node tile = record { node = node; at = tile }

-- two keys are one
abbrev pub same_node_tile : NodeTile → NodeTile → Bool
same_node_tile a b = a.node == b.node && same_tile a.at b.at

-- tiles with their bytes
abbrev pub HeldTiles : Type 0
HeldTiles = List (NodeTile × List ℕ)

-- the bytes of the tile of the node at a position, where it is held
abbrev pub held_bytes : HeldTiles → ℕ → Tile → Option (List ℕ)
held_bytes held node tile = lookup (same_node_tile (node_tile node tile)) held
