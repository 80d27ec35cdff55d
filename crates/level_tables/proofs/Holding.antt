-- Calls that hold more tiles of levels, one after another.
use Rattle.std.proofs.Common.{◌≡◌, ℕ, ◌+◌, ◌<◌, ◌≤◌, List, [], ◌∷◌, ◌++◌, length, Option, Some, None, inl, inr, refl, sym, ap, subst, arith}
use Rattle.std.specs.List.{IsDistinct}
use Rattle.std.specs.Map.{keys_of, lookup}
use Rattle.std.proofs.lemmas.Bool.{le-leb}
use Rattle.std.proofs.lemmas.List.Elements.{Contains-append_cases}
use Rattle.plane_rect.specs.Tile.{Tile}
use Rattle.pixel_formats.specs.declared.format.Format.{Format}
use Rattle.chain_owners.specs.Counts.{Continues, Counts, Grows}
use Rattle.chain_owners.specs.Held.{Held, owners_of, with_name}
use Rattle.chain_owners.proofs.Growing.{continues-same}
use Rattle.chain_owners.proofs.Ownership.{respects-beside, times-append}
use Rattle.chain_owners.specs.Cause.{HasSwapCause}
use Rattle.chain_owners.specs.declared.swap_refused.SwapRefused.{SwapRefused}
use Rattle.chain_owners.proofs.Causes.{cause-before, cause-more}
use Rattle.model_images.specs.FromRaw.{AreBytes}
use Rattle.model_images.specs.Image.{Image}
use Rattle.level_tables.specs.LevelTiles.{LevelTiles, image_of, names, positions, same_level_tile}
use Rattle.level_tables.specs.Over.{IsAbove, IsOver, IsTileOfLevel, tile_length}
use Rattle.level_tables.specs.Steps.{HoldsMore, KeepsTiles, State, level_count, names_with_levels, state}
use Rattle.level_tables.specs.Found.{IsFound}
use Rattle.level_tables.specs.declared.level_tile.LevelTile.{LevelTile}
use Rattle.level_tables.proofs.Entries.{Contains-lookup, lookup-absent, same_level_tile-laws, same_level_tile-true}
use Rattle.level_tables.proofs.Changes.{only, over-more, times-more}
use Rattle.level_tables.proofs.Counting.{levels-few}
use Rattle.level_tables.proofs.Frames.{bytes-beside, image-beside}
use Rattle.level_tables.proofs.Fresh.{fresh-if, fresh-named, fresh-over, fresh-owns, fresh-respects}
use Rattle.level_tables.proofs.Keeping.{keeps-both, keeps-same, kept-format, kept-image, kept-put}

pub holds-same : (z : ℕ) (tiles : LevelTiles) (held : Held) (counts counts' : Counts) → IsOver tiles held → Continues counts counts' → counts'.names ≤ counts.names
    → HoldsMore z (state tiles held counts) (state tiles held counts')
holds-same z tiles held counts counts' over continues few = record {
  kept = keeps-same tiles held counts counts' over continues;
  higher = λ at name there high. there;
  names = λ top low. omega (arith, few);
}

pub holds-none : (z : ℕ) (now : State) → IsOver now.tiles now.held → HoldsMore z now now
holds-none z now over =
    holds-same z now.tiles now.held now.counts now.counts over (continues-same now.counts) (omega arith)

-- a tile was read
pub holds-read : (z : ℕ) (tiles : LevelTiles) (held held' : Held) (counts counts' : Counts) → IsOver tiles held → held' ≡ held → Grows 0 counts counts'
    → HoldsMore z (state tiles held counts) (state tiles held' counts')
holds-read z tiles held held' counts counts' over same grows =
    rw same (holds-same z tiles held counts counts' over grows.continues (omega (arith, grows.names)))

pub holds-both : (z : ℕ) (a b c : State) → HoldsMore z a b → HoldsMore z b c → HoldsMore z a c
holds-both z a b c first second = record {
  kept = keeps-both a b c first.kept second.kept;
  higher = λ at name there high. first.higher at name (second.higher at name there high) high;
  names = λ top low. omega (arith, first.names top low, second.names top low);
}

pub holds-raise : (z top : ℕ) (a b : State) → z ≤ top → HoldsMore z a b → HoldsMore top a b
holds-raise z top a b le is = record {
  kept = is.kept;
  higher = λ at name there high. is.higher at name there (omega (arith, le, high));
  names = λ n low. is.names n (omega (arith, le, low));
}

pub cause-next : (z : ℕ) (a b c : State) → HoldsMore z a b → (top : ℕ) → z ≤ top → (refused : SwapRefused)
    → HasSwapCause b.counts c.counts (names_with_levels top b) refused → HasSwapCause a.counts c.counts (names_with_levels top a) refused
cause-next z a b c more top low refused cause =
    let grows : Grows b.counts.names a.counts b.counts = record { continues = more.kept.counts; names = omega arith } in
    cause-before a.counts b.counts c.counts b.counts.names (names_with_levels top a) refused grows
    (cause-more b.counts c.counts (names_with_levels top b) (names_with_levels top a) refused (more.names top low) cause)

-- what is found afterwards was so before
pub found-before : (a b : State) (z : ℕ) (at : Tile) (found : Option (List ℕ)) → KeepsTiles a b
    → IsFound (image_of b.tiles b.held) (positions b.tiles) b.tiles.format z at found → IsFound (image_of a.tiles a.held) (positions a.tiles) a.tiles.format z at found
found-before a b z at found kept is =
    let P : Option Image → Type 0 = λ i. IsFound i (positions b.tiles) b.tiles.format z at found in
    let Q : List (Tile × ℕ) → Type 0 = λ put. IsFound (image_of a.tiles a.held) (keys_of put) b.tiles.format z at found in
    let R : Format → Type 0 = λ f. IsFound (image_of a.tiles a.held) (positions a.tiles) f z at found in
    subst R (kept-format a b kept) (subst Q (kept-put a b kept) (subst P (kept-image a b kept) is))

pub found-after : (a b : State) (z : ℕ) (at : Tile) (found : Option (List ℕ)) → KeepsTiles a b
    → IsFound (image_of a.tiles a.held) (positions a.tiles) a.tiles.format z at found → IsFound (image_of b.tiles b.held) (positions b.tiles) b.tiles.format z at found
found-after a b z at found kept is =
    let P : Option Image → Type 0 = λ i. IsFound i (positions b.tiles) b.tiles.format z at found in
    let Q : List (Tile × ℕ) → Type 0 = λ put. IsFound (image_of a.tiles a.held) (keys_of put) b.tiles.format z at found in
    let R : Format → Type 0 = λ f. IsFound (image_of a.tiles a.held) (positions a.tiles) f z at found in
    subst P (sym (kept-image a b kept)) (subst Q (sym (kept-put a b kept)) (subst R (sym (kept-format a b kept)) is))

-- what was found after some calls is still found after more
pub found-still : (start a b : State) (z : ℕ) (at other : Tile) (found : Option (List ℕ)) → at ≡ other → KeepsTiles start a → KeepsTiles start b
    → IsFound (image_of a.tiles a.held) (positions a.tiles) a.tiles.format z at found → IsFound (image_of b.tiles b.held) (positions b.tiles) b.tiles.format z other found
found-still start a b z at other found same first second is =
    found-after start b z other found second
    (found-before start a z other found first (subst (λ (tile : Tile). IsFound (image_of a.tiles a.held) (positions a.tiles) a.tiles.format z tile found) same is))

-- ---- one tile of a level more

level_count-push : (z : ℕ) (es : List (LevelTile × ℕ)) (e : LevelTile × ℕ) → e.0.level ≤ z → level_count z (es ++ e ∷ []) ≡ level_count z es + 1
level_count-push z [] e low = let hit = le-leb e.0.level z low in rw hit (omega arith)
level_count-push z (first ∷ es) e low = omega (arith, level_count-push z es e low)

module _ (tiles : LevelTiles) (held : Held) (over : IsOver tiles held) (at : LevelTile) (above : IsAbove (positions tiles) at)
    (absent : lookup (same_level_tile at) tiles.levels ≡ None) where
  -- there is room for it among the names that a chain has at most
  pub room-for : (counts : Counts) (top : ℕ) → at.level ≤ top → counts.names + 1 ≤ names_with_levels top (state tiles held counts)
  room-for counts top low = omega (arith, levels-few tiles over.shape at above absent top low)

  module _ (name : ℕ) (bytes : List ℕ) (none : owners_of held name ≡ 0) (len : length bytes ≡ tile_length tiles.format) (small : AreBytes bytes)
      (exact : IsTileOfLevel (image_of tiles held) at.level at.tile bytes) where
    abbrev held' : Held
    held' = with_name held name bytes

    abbrev larger : LevelTiles
    larger = record tiles { levels = tiles.levels ++ (at, name) ∷ [] }

    over' : IsOver tiles held'
    over' = fresh-over held name bytes none tiles over

    pub holds-one : (counts counts' : Counts) → IsDistinct same_level_tile (keys_of larger.levels) → Grows 1 counts counts'
        → HoldsMore at.level (state tiles held counts) (state larger held' counts')
    holds-one counts counts' once grows = record {
      kept = record {
        put = refl;
        bytes = bytes-beside held held' [] (name ∷ []) (fresh-respects held name bytes none) tiles over.owned;
        others = respects-beside held held' [] (name ∷ []) (fresh-respects held name bytes none) (names tiles) (names larger) (names tiles)
            (λ q. omega arith)
            (λ q. omega (arith, times-more tiles held' at name over' q, times-append (name ∷ []) (names tiles) q));
        over = over-more tiles held' at name over' (fresh-owns held name bytes none (names tiles) over.owned) once above
            (fresh-named held name bytes none tiles.format len small)
            (fresh-if held name bytes none (IsTileOfLevel (image_of tiles held') at.level at.tile)
            (let P : Option Image → Type 0 = λ i. IsTileOfLevel i at.level at.tile bytes in
            subst P (sym (image-beside held held' [] (name ∷ []) (fresh-respects held name bytes none) tiles over.owned)) exact));
        counts = grows.continues;
      };
      higher = λ other q there high. elim (Contains-append_cases tiles.levels ((at, name) ∷ []) (other, q) there) [
        | inl before ↦ before
        | inr last ↦ absurd (omega (arith, high, ap (λ (e : LevelTile × ℕ). e.0.level) (only (at, name) (other, q) last)))
      ];
      names = λ top low. omega (arith, grows.names, levels-few tiles over.shape at above absent top low, level_count-push top tiles.levels (at, name) low);
    }

-- a tile of a level that isn't held still isn't after calls of lower levels
pub absent-kept : (z : ℕ) (a b : State) → HoldsMore z a b → (at : LevelTile) → z < at.level → lookup (same_level_tile at) a.tiles.levels ≡ None
    → lookup (same_level_tile at) b.tiles.levels ≡ None
absent-kept z a b more at high none = of (lookup (same_level_tile at) b.tiles.levels) refl
  where
    of : (o : Option ℕ) → lookup (same_level_tile at) b.tiles.levels ≡ o → o ≡ None
    of None is = refl
    of (Some name) is =
        absurd (lookup-absent same_level_tile same_level_tile-true same_level_tile-laws.refl a.tiles.levels at name none
        (more.higher at name (Contains-lookup same_level_tile same_level_tile-true b.tiles.levels at name is) high))
