-- What calls keep of a table, one after another.
use Rattle.std.proofs.Common.{◌≡◌, ℕ, suc, ◌+◌, List, [], ◌∷◌, None, Contains, inl, inr, refl, ap, subst, ◌∙◌, arith}
use Rattle.std.specs.Prelude.{IsSome}
use Rattle.std.specs.List.{IsDistinct}
use Rattle.std.specs.List.Sorted.{IsPermutation}
use Rattle.std.specs.Map.{keys_of, lookup}
use Rattle.std.specs.Option.{is_some}
use Rattle.std.proofs.lemmas.Bool.{cases_lt}
use Rattle.plane_rect.specs.Tile.{Tile}
use Rattle.pixel_formats.specs.declared.format.Format.{Format}
use Rattle.model_images.specs.Tiles.{put_image}
use Rattle.chain_owners.specs.Counts.{Continues, Counts, Grows}
use Rattle.chain_owners.specs.Held.{Held, disowned, length_of}
use Rattle.chain_owners.specs.Owners.{Owns, Respects}
use Rattle.chain_owners.proofs.Growing.{continues-both, continues-same}
use Rattle.chain_owners.proofs.Ownership.{disowned-respects, owns-fewer, respects-beside, respects-both, respects-same, times-append, times-here}
use Rattle.model_images.specs.Level.{tile_above, tile_at_level}
use Rattle.level_tables.specs.LevelTiles.{LevelTiles, bytes_in, image_of, names, positions, same_level_tile}
use Rattle.level_tables.specs.Over.{IsOver}
use Rattle.level_tables.specs.Steps.{KeepsTiles, State, VoidsAbove, VoidsOne, state}
use Rattle.level_tables.specs.declared.level_tile.LevelTile.{LevelTile}
use Rattle.level_tables.proofs.Entries.{lookup-absent, same_level_tile-laws, same_level_tile-true}
use Rattle.level_tables.proofs.Frames.{bytes-beside, over-beside, put_image-same, where_exposed}
use Rattle.level_tables.proofs.Changes.{over-without, owns-without, still-there, times-without}

pub keeps-same : (tiles : LevelTiles) (held : Held) (counts counts' : Counts) → IsOver tiles held → Continues counts counts'
    → KeepsTiles (state tiles held counts) (state tiles held counts')
keeps-same tiles held counts counts' over continues = record {
  put = refl;
  bytes = λ tile. refl;
  others = respects-same held (names tiles);
  over = over;
  counts = continues;
}

pub keeps-both : (a b c : State) → KeepsTiles a b → KeepsTiles b c → KeepsTiles a c
keeps-both a b c first second = record {
  put = second.put ∙ ap (λ (t : LevelTiles). record t { levels = c.tiles.levels }) first.put;
  bytes = λ tile. second.bytes tile ∙ first.bytes tile;
  others = respects-both a.held b.held (names a.tiles) (names b.tiles) first.others c.held (names c.tiles) second.others;
  over = second.over;
  counts = continues-both a.counts b.counts c.counts first.counts second.counts;
}

-- ---- what is seen of a table whose tiles are kept

module _ (old new : State) (kept : KeepsTiles old new) where
  pub kept-format : new.tiles.format ≡ old.tiles.format
  kept-format = ap (λ (t : LevelTiles). t.format) kept.put

  pub kept-put : new.tiles.put ≡ old.tiles.put
  kept-put = ap (λ (t : LevelTiles). t.put) kept.put

  pub kept-image : image_of new.tiles new.held ≡ image_of old.tiles old.held
  kept-image =
      where_exposed new.held.content old.held.content _ _ kept.others.exposed
      (ap (λ (f : Format). put_image f (positions new.tiles) (bytes_in new.held new.tiles.put)) kept-format
      ∙ ap (λ (put : List (Tile × ℕ)). put_image old.tiles.format (keys_of put) (bytes_in new.held new.tiles.put)) kept-put
      ∙ put_image-same old.tiles.format (positions old.tiles) (bytes_in new.held new.tiles.put) (bytes_in old.held old.tiles.put) kept.bytes)

-- ---- one tile of a level voided

pub there-named : (tiles : LevelTiles) (held : Held) (at : LevelTile) (name : ℕ) (fewer : List (LevelTile × ℕ))
    → IsPermutation tiles.levels ((at, name) ∷ fewer) → IsOver tiles held → IsSome (length_of held name)
there-named tiles held at name fewer is over =
    ap is_some ((over.named name (omega (arith, times-without tiles at name fewer is name, times-here (names (record tiles { levels = fewer })) name))).length)

pub void-one : (tiles : LevelTiles) (held held' : Held) (counts counts' : Counts) (at : LevelTile) (name : ℕ) (fewer : List (LevelTile × ℕ))
    → IsOver tiles held → IsPermutation tiles.levels ((at, name) ∷ fewer) → lookup (same_level_tile at) fewer ≡ None
    → IsDistinct same_level_tile (keys_of fewer) → held' ≡ disowned held name → Grows 0 counts counts'
    → VoidsOne at (state tiles held counts) (state (record tiles { levels = fewer }) held' counts')
void-one tiles held held' counts counts' at name fewer over is gone once is_held grows =
    let left : LevelTiles = record tiles { levels = fewer } in
    let owns : Owns held (name ∷ names left) = owns-without tiles at name fewer is held over in
    let alone : Owns held (name ∷ []) = owns-fewer held (name ∷ names left) (name ∷ []) (λ q. omega (arith, times-append (name ∷ []) (names left) q)) owns in
    let respects : Respects held held' (name ∷ []) [] = rw is_held (disowned-respects held [] name alone) in
    record {
      kept = record {
        put = refl;
        bytes = bytes-beside held held' (name ∷ []) [] respects left owns;
        others = respects-beside held held' (name ∷ []) [] respects (names tiles) (names left) (names left)
            (λ q. omega (arith, times-without tiles at name fewer is q, times-append (name ∷ []) (names left) q))
            (λ q. omega arith);
        over = over-beside held held' (name ∷ []) [] respects left owns (over-without tiles at name fewer is held over once);
        counts = grows.continues;
      };
      names = omega (arith, grows.names);
      fewer = still-there tiles at name fewer is;
      void = λ q there. lookup-absent same_level_tile same_level_tile-true same_level_tile-laws.refl fewer at q gone there;
    }

pub void-none : (tiles : LevelTiles) (held : Held) (counts : Counts) (at : LevelTile) → IsOver tiles held → lookup (same_level_tile at) tiles.levels ≡ None
    → VoidsOne at (state tiles held counts) (state tiles held counts)
void-none tiles held counts at over gone = record {
  kept = keeps-same tiles held counts counts over (continues-same counts);
  names = omega arith;
  fewer = λ other q there. there;
  void = λ q there. lookup-absent same_level_tile same_level_tile-true same_level_tile-laws.refl tiles.levels at q gone there;
}

-- ---- all of them above a tile

pub voids-first : (tile : Tile) (now : State) → IsOver now.tiles now.held → VoidsAbove tile 0 now now
voids-first tile now over = record {
  kept = keeps-same now.tiles now.held now.counts now.counts over (continues-same now.counts);
  names = omega arith;
  fewer = λ other q there. there;
  void = λ at q there low. absurd (omega (arith, low, (over.shape.above at q there).some_level));
}

level-next : (at : LevelTile) (tile : Tile) (n : ℕ) → at.level ≡ n + 1 → at.tile ≡ tile_at_level tile at.level
    → at ≡ record { level = n + 1; tile = tile_above (tile_at_level tile n) }
level-next at tile n level is =
    let suc_is : at.level ≡ suc n = omega (arith, level) in
    let above : at.tile ≡ tile_above (tile_at_level tile n) = is ∙ ap (tile_at_level tile) suc_is in
    let joined : (of : ℕ → Tile → LevelTile) → of at.level at.tile ≡ of (n + 1) (tile_above (tile_at_level tile n)) = λ of. cc in
    joined (λ level tile. record { level = level; tile = tile })

pub voids-next : (tile : Tile) (n : ℕ) (old now new : State) → VoidsAbove tile n old now
    → VoidsOne (record { level = n + 1; tile = tile_above (tile_at_level tile n) }) now new → VoidsAbove tile (n + 1) old new
voids-next tile n old now new before here = record {
  kept = keeps-both old now new before.kept here.kept;
  names = omega (arith, before.names, here.names);
  fewer = λ at q there. before.fewer at q (here.fewer at q there);
  void = λ at q there low. elim (cases_lt at.level (n + 1)) [
    | inl less ↦ before.void at q (here.fewer at q there) (omega (arith, less))
    | inr more ↦ λ is.
        let here_is = level-next at tile n (omega (arith, low, more)) is in
        let P : LevelTile → Type 0 = λ a. Contains new.tiles.levels (a, q) in
        here.void q (subst P here_is there)
  ];
}

pub tile_at_level-next : (tile : Tile) (n : ℕ) → tile_above (tile_at_level tile n) ≡ tile_at_level tile (n + 1)
tile_at_level-next tile n = let next : suc n ≡ n + 1 = omega arith in ap (tile_at_level tile) next
