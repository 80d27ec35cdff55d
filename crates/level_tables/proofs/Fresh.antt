-- A new name beside a table.
use Rattle.std.proofs.Common.{◌≡◌, ℕ, cond, List, [], ◌∷◌, length, Option, Some, None, refl, sym, ap, subst, ◌∙◌, true≢false}
use Rattle.std.specs.Prelude.{IfSome, IsSome}
use Rattle.std.specs.FinMap as map
use Rattle.std.specs.Option.{is_some, option_and_then, option_map}
use Rattle.plane_rect.specs.Tile.{Tile, same_tile}
use Rattle.pixel_formats.specs.declared.format.Format.{Format}
use Rattle.chain_owners.specs.Held.{Held, bytes_of, owners_of, with_name}
use Rattle.chain_owners.specs.Owners.{Owns, Respects}
use Rattle.chain_owners.specs.Values.{Named}
use Rattle.chain_owners.proofs.Names.{get_here}
use Rattle.chain_owners.proofs.Ownership.{new_name-respects, others-own}
use Rattle.model_images.specs.FromRaw.{AreBytes}
use Rattle.model_images.specs.Tiles.{AreTileBytes, put_image}
use Rattle.level_tables.specs.LevelTiles.{LevelTiles, bytes_in, image_of, image_with, names, position_with, positions, tile_with}
use Rattle.level_tables.specs.Over.{IsOver, IsTileName, tile_length}
use Rattle.level_tables.specs.Steps.{State, Switches}
use Rattle.level_tables.proofs.Frames.{bytes-beside, over-beside, put_image-same, where_exposed, where_known}

bytes-inserted : (content : Option (Named (List ℕ))) (name : ℕ) (bytes : List ℕ) → IsSome content
    → option_and_then (λ (c : Named (List ℕ)). map.get c name) (option_map (λ (c : Named (List ℕ)). map.insert c name bytes) content) ≡ Some bytes
bytes-inserted None name bytes shown = absurd (true≢false (sym shown))
bytes-inserted (Some content) name bytes shown = get_here content name bytes

bytes-either : (content : Option (Named (List ℕ))) (name : ℕ) (bytes : List ℕ) (P : List ℕ → Type 0) → P bytes
    → IfSome (option_and_then (λ (c : Named (List ℕ)). map.get c name) (option_map (λ (c : Named (List ℕ)). map.insert c name bytes) content)) P
bytes-either None name bytes P is = tt
bytes-either (Some content) name bytes P is = subst (λ (o : Option (List ℕ)). IfSome o P) (sym (get_here content name bytes)) is

shown-before : (content : Option (Named (List ℕ))) (name : ℕ) (bytes : List ℕ) → is_some (option_map (λ (c : Named (List ℕ)). map.insert c name bytes) content) ≡ is_some content
shown-before None name bytes = refl
shown-before (Some content) name bytes = refl

module _ (held : Held) (name : ℕ) (bytes : List ℕ) (none : owners_of held name ≡ 0) where
  abbrev held' : Held
  held' = with_name held name bytes

  pub fresh-respects : Respects held held' [] (name ∷ [])
  fresh-respects = new_name-respects held [] name bytes none

  pub fresh-beside : (names : List ℕ) → Respects held held' names (name ∷ names)
  fresh-beside names = new_name-respects held names name bytes none

  pub fresh-bytes : IsSome held.content → bytes_of held' name ≡ Some bytes
  fresh-bytes shown = bytes-inserted held.content name bytes shown

  pub fresh-if : (P : List ℕ → Type 0) → P bytes → IfSome (bytes_of held' name) P
  fresh-if P is = bytes-either held.content name bytes P is

  pub fresh-named : (format : Format) → length bytes ≡ tile_length format → AreBytes bytes → IsTileName format held' name
  fresh-named format len small = record {
    length = get_here held.lengths name (length bytes) ∙ ap (λ (n : ℕ). Some n) len;
    bytes = fresh-if (AreTileBytes format) (record { whole = len; small = small });
    known = λ shown. ap is_some (fresh-bytes (sym (shown-before held.content name bytes) ∙ shown));
  }

  pub fresh-owns : (names : List ℕ) → Owns held names → Owns held' (name ∷ names)
  fresh-owns names owns = others-own held held' [] (name ∷ []) fresh-respects names owns

  pub fresh-over : (tiles : LevelTiles) → IsOver tiles held → IsOver tiles held'
  fresh-over tiles over = over-beside held held' [] (name ∷ []) fresh-respects tiles over.owned over

  -- the image after this tile was put
  pub fresh-image : (tiles : LevelTiles) (at : Tile) → IsOver tiles held
      → image_with tiles held' ((at, bytes_of held' name) ∷ []) ≡ image_with tiles held ((at, Some bytes) ∷ [])
  fresh-image tiles at over =
      where_known held'.content held.content _ _ (shown-before held.content name bytes)
      (λ shown. put_image-same tiles.format (position_with (positions tiles) at) (tile_with (bytes_in held' tiles.put) at (bytes_of held' name))
      (tile_with (bytes_in held tiles.put) at (Some bytes))
      (λ tile.
      ap (λ (o : Option (List ℕ)). cond (same_tile tile at) o (bytes_in held' tiles.put tile)) (fresh-bytes (sym (shown-before held.content name bytes) ∙ shown))
      ∙ ap (λ (o : Option (List ℕ)). cond (same_tile tile at) (Some bytes) o) (bytes-beside held held' [] (name ∷ []) fresh-respects tiles over.owned tile)))

-- the image of a table after a name became its tile of a position
pub switched-image : (at : Tile) (name : ℕ) (old new : State) → Switches at name old new
    → image_of new.tiles new.held ≡ image_with old.tiles old.held ((at, bytes_of old.held name) ∷ [])
switched-image at name old new is =
    where_exposed new.held.content old.held.content _ _ is.others.exposed
    (ap (λ (f : Format). put_image f (positions new.tiles) (bytes_in new.held new.tiles.put)) is.format
    ∙ ap (λ (ps : List Tile). put_image old.tiles.format ps (bytes_in new.held new.tiles.put)) is.positions
    ∙ put_image-same old.tiles.format (position_with (positions old.tiles) at) (bytes_in new.held new.tiles.put)
    (tile_with (bytes_in old.held old.tiles.put) at (bytes_of old.held name)) is.bytes)
