-- Tiles of a root that are read as they were put.
use Rattle.std.proofs.Common.{◌≡◌, ℕ, List, replicate, Option, Some, None, refl, sym, ap, ◌∙◌}
use Rattle.std.specs.Prelude.{IfSome, IsSome, unwrap_or}
use Rattle.std.specs.Map.{lookup}
use Rattle.std.specs.Option.{option_and_then, option_map}
use Rattle.chain_owners.specs.Held.{Held, bytes_of}
use Rattle.level_tables.specs.Found.{IsPutTile}
use Rattle.level_tables.specs.LevelTiles.{LevelTiles, bytes_in}
use Rattle.level_tables.specs.Over.{IsOver, IsTileOfLevel, tile_length}
use Rattle.level_tables.proofs.Frames.{put-named}
use Rattle.model_images.specs.Image.{Image}
use Rattle.model_images.specs.Raw.{tile_bytes}
use Rattle.model_images.specs.Tiles.{AreTileBytes, held_image, tile_or_zeros}
use Rattle.model_images.proofs.HeldTiles.{tile-either}
use Rattle.model_images.proofs.LevelLaws.{level-zero}
use Rattle.plane_rect.specs.Tile.{Tile, same_tile}
use Rattle.root_tiles.specs.Roots.{IsRootOver, RootTiles, root_image}

-- the bytes of a tile that was put, where they are known, are those of a tile
tile-known : (tiles : LevelTiles) (held : Held) → IsOver tiles held → (at : Tile) → IfSome (bytes_in held tiles.put at) (AreTileBytes tiles.format)
tile-known tiles held over at = of (lookup (same_tile at) tiles.put) refl
  where
    of : (o : Option ℕ) → lookup (same_tile at) tiles.put ≡ o → IfSome (option_and_then (bytes_of held) o) (AreTileBytes tiles.format)
    of None is = tt
    of (Some name) is = (over.named name (put-named tiles at name is)).bytes

put-exact : (root : RootTiles) (held : Held) → IsRootOver root held → (at : Tile) (bytes : List ℕ)
    → (IsSome held.content → bytes ≡ tile_or_zeros root.tiles.format (bytes_in held root.tiles.put) at) → IsTileOfLevel (root_image root held) 0 at bytes
put-exact root held over at bytes = of held.content
  where
    of : {X : Type 0} (content : Option X) → (IsSome content → bytes ≡ tile_or_zeros root.tiles.format (bytes_in held root.tiles.put) at)
        → IsTileOfLevel (option_map (λ (x : X). held_image root.box root.tiles.format (bytes_in held root.tiles.put)) content) 0 at bytes
    of None is = tt
    of (Some x) is =
        let image = held_image root.box root.tiles.format (bytes_in held root.tiles.put) in
        is refl
        ∙ sym (tile-either root.tiles.format (bytes_in held root.tiles.put) root.box at (tile-known root.tiles held over.table at) (over.zero at))
        ∙ ap (λ (i : Image). tile_bytes i at) (sym (level-zero image))

pub put-found : (root : RootTiles) (held : Held) → IsRootOver root held → (at : Tile) (found : Option (List ℕ)) (bytes : List ℕ)
    → IsPutTile root.tiles held at found → bytes ≡ unwrap_or found (replicate (tile_length root.tiles.format) 0) → IsTileOfLevel (root_image root held) 0 at bytes
put-found root held over at found bytes is value =
    put-exact root held over at bytes
    (λ exposed. value ∙ ap (λ (o : Option (List ℕ)). unwrap_or o (replicate (tile_length root.tiles.format) 0)) (is.exact exposed))
