-- What is seen of a table depends on nothing but the bytes of its names.
use Rattle.std.proofs.Common.{◌≡◌, ℕ, ◌<◌, List, ◌++◌, Option, Some, None, Contains, true≢false, refl, sym, ap, subst, ◌∙◌, arith}
use Rattle.std.specs.Prelude.{IfSome, IsSome}
use Rattle.std.specs.Map.{lookup, values_of}
use Rattle.std.specs.Option.{is_some, option_and_then, option_map, option_map_or}
use Rattle.plane_rect.specs.Tile.{Tile, same_tile, tile_at, tile_square}
use Rattle.plane_rect.specs.SameTile.{same_tile-true}
use Rattle.pixel_formats.specs.declared.format.Format.{Format}
use Rattle.chain_owners.specs.Held.{Held, bytes_of}
use Rattle.chain_owners.specs.Owners.{Owns, Respects, Unchanged, times}
use Rattle.chain_owners.proofs.Ownership.{others-own, others-unchanged, owns-fewer, times-append}
use Rattle.model_images.specs.FromRaw.{pixels_from_raw}
use Rattle.model_images.specs.Tiles.{AreTileBytes, HeldTiles, held_pixels, hull_of_tiles, put_image}
use Rattle.model_images.proofs.Laws.{generated_equal}
use Rattle.level_tables.specs.LevelTiles.{LevelTiles, bytes_in, image_of, names, positions}
use Rattle.level_tables.specs.Over.{IsOver}
use Rattle.level_tables.specs.declared.level_tile.LevelTile.{LevelTile}
use Rattle.level_tables.proofs.Entries.{Contains-lookup, Contains-value, times-contained}

-- ---- names of a table

pub put-named : (tiles : LevelTiles) (tile : Tile) (name : ℕ) → lookup (same_tile tile) tiles.put ≡ Some name → 0 < times (names tiles) name
put-named tiles tile name is =
    let there = times-contained (values_of tiles.put) name (Contains-value tiles.put tile name (Contains-lookup same_tile same_tile-true tiles.put tile name is)) in
    omega (arith, there, times-append (values_of tiles.put) (values_of tiles.levels) name)

pub level-named : (tiles : LevelTiles) (at : LevelTile) (name : ℕ) → Contains tiles.levels (at, name) → 0 < times (names tiles) name
level-named tiles at name is =
    let there = times-contained (values_of tiles.levels) name (Contains-value tiles.levels at name is) in
    omega (arith, there, times-append (values_of tiles.put) (values_of tiles.levels) name)

-- ---- the image

pub put_image-same : (format : Format) (tiles : List Tile) (held later : HeldTiles) → ((tile : Tile) → held tile ≡ later tile)
    → put_image format tiles held ≡ put_image format tiles later
put_image-same format tiles held later same =
    generated_equal (hull_of_tiles tiles) format (held_pixels format held) (held_pixels format later)
    (λ u v c inside known. ap (λ (o : Option (List ℕ)). option_map_or (λ bytes. pixels_from_raw (tile_square (tile_at u v)) format bytes u v c) o 0) (same (tile_at u v)))

pub where_exposed : {X Y Z : Type 0} (o : Option X) (p : Option Y) (a b : Z) → is_some o ≡ is_some p → a ≡ b → option_map (λ (x : X). a) o ≡ option_map (λ (y : Y). b) p
where_exposed None None a b same is = refl
where_exposed None (Some y) a b same is = absurd (true≢false (sym same))
where_exposed (Some x) None a b same is = absurd (true≢false same)
where_exposed (Some x) (Some y) a b same is = ap (λ z. Some z) is

pub where_known : {X Y Z : Type 0} (o : Option X) (p : Option Y) (a b : Z) → is_some o ≡ is_some p → (IsSome o → a ≡ b) → option_map (λ (x : X). a) o ≡ option_map (λ (y : Y). b) p
where_known None None a b same is = refl
where_known None (Some y) a b same is = absurd (true≢false (sym same))
where_known (Some x) None a b same is = absurd (true≢false same)
where_known (Some x) (Some y) a b same is = ap (λ z. Some z) (is refl)

module _ (tiles : LevelTiles) (old new : Held) (exposed : is_some new.content ≡ is_some old.content)
    (unchanged : (name : ℕ) → 0 < times (names tiles) name → Unchanged old new name) where
  pub bytes-framed : (tile : Tile) → bytes_in new tiles.put tile ≡ bytes_in old tiles.put tile
  bytes-framed tile = of (lookup (same_tile tile) tiles.put) refl
    where
      of : (o : Option ℕ) → lookup (same_tile tile) tiles.put ≡ o → option_and_then (bytes_of new) o ≡ option_and_then (bytes_of old) o
      of None is = refl
      of (Some name) is = (unchanged name (put-named tiles tile name is)).bytes

  pub image-framed : image_of tiles new ≡ image_of tiles old
  image-framed =
      where_exposed new.content old.content _ _ exposed
      (put_image-same tiles.format (positions tiles) (bytes_in new tiles.put) (bytes_in old tiles.put) bytes-framed)

  pub over-framed : IsOver tiles old → Owns new (names tiles) → IsOver tiles new
  over-framed over owns = record {
    owned = owns;
    named = λ name some.
        let same = unchanged name some in
        let is = over.named name some in
        record {
          length = same.length ∙ is.length;
          bytes = subst (λ (o : Option (List ℕ)). IfSome o (AreTileBytes tiles.format)) (sym same.bytes) is.bytes;
          known = λ shown. subst (λ (o : Option (List ℕ)). IsSome o) (sym same.bytes) (is.known (sym exposed ∙ shown));
        };
    shape = over.shape;
    averaged = λ at name there.
        let same = unchanged name (level-named tiles at name there) in
        rw (same.bytes, image-framed) (over.averaged at name there);
  }

-- what a call does that isn't handed a table
module _ (old new : Held) (before after : List ℕ) (respects : Respects old new before after) (tiles : LevelTiles) (owns : Owns old (before ++ names tiles)) where
  pub over-beside : IsOver tiles old → IsOver tiles new
  over-beside over =
      over-framed tiles old new respects.exposed (others-unchanged old new before after respects (names tiles) owns) over
      (owns-fewer new (after ++ names tiles) (names tiles) (λ q. omega (arith, times-append after (names tiles) q))
      (others-own old new before after respects (names tiles) owns))

  pub bytes-beside : (tile : Tile) → bytes_in new tiles.put tile ≡ bytes_in old tiles.put tile
  bytes-beside = bytes-framed tiles old new respects.exposed (others-unchanged old new before after respects (names tiles) owns)

  pub image-beside : image_of tiles new ≡ image_of tiles old
  image-beside = image-framed tiles old new respects.exposed (others-unchanged old new before after respects (names tiles) owns)
