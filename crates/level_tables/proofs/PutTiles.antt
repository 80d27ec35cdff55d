-- Tiles as they were put.
use Rattle.std.proofs.Common.{◌≡◌, ℕ, List, Option, Some, None, is_some, true≢false, sym, ap, ◌∙◌}
use Rattle.std.specs.Prelude.{IfSome, IsSome}
use Rattle.std.specs.Map.{lookup}
use Rattle.std.specs.Option.{option_and_then}
use Rattle.chain_contracts.specs.Tiles.{Reads}
use Rattle.chain_owners.specs.Held.{Held, bytes_of, length_of}
use Rattle.plane_rect.specs.Tile.{Tile, same_tile}
use Rattle.level_tables.specs.Found.{IsPutTile}
use Rattle.level_tables.specs.LevelTiles.{LevelTiles}
use Rattle.level_tables.specs.Over.{IsOver, tile_length}
use Rattle.level_tables.proofs.Frames.{put-named}

pub put-tile-known : (tiles : LevelTiles) (held : Held) → IsOver tiles held → (at : Tile) (name : ℕ)
    → lookup (same_tile at) tiles.put ≡ Some name → length_of held name ≡ Some (tile_length tiles.format)
put-tile-known tiles held over at name is = (over.named name (put-named tiles at name is)).length

same-known : (bytes : List ℕ) (o : Option (List ℕ)) → IsSome o → IfSome o (λ there. bytes ≡ there) → Some bytes ≡ o
same-known bytes None known is = absurd (true≢false (sym known))
same-known bytes (Some there) known is = ap Some is

pub put-tile-read : (tiles : LevelTiles) (held : Held) → IsOver tiles held → (at : Tile) (name : ℕ) (bytes : List ℕ)
    → lookup (same_tile at) tiles.put ≡ Some name → Reads held name (tile_length tiles.format) bytes → IsPutTile tiles held at (Some bytes)
put-tile-read tiles held over at name bytes is reads = record {
  there = sym (ap is_some is);
  length = reads.length;
  exact = λ exposed. same-known bytes (bytes_of held name) ((over.named name (put-named tiles at name is)).known exposed) reads.bytes
      ∙ sym (ap (option_and_then (bytes_of held)) is);
}
