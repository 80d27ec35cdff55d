-- Tables that hold a name more or fewer, over one chain.
use Rattle.std.proofs.Common.{◌≡◌, ◌≢◌, ℕ, List, [], ◌∷◌, ◌++◌, Option, Some, None, Contains, inl, inr, true≢false, refl, sym, ap, subst, ◌∙◌, arith}
use Rattle.std.specs.Prelude.{◌⊎◌, IfSome, IsSome}
use Rattle.std.specs.List.{IsDistinct}
use Rattle.std.specs.List.Sorted.{IsPermutation}
use Rattle.std.specs.Map.{keys_of, lookup, values_of}
use Rattle.std.specs.Option.{option_and_then, option_map, option_to_list}
use Rattle.std.proofs.lemmas.Bool.{cases_Bool, cases_eq}
use Rattle.std.proofs.lemmas.List.Elements.{Contains-append_cases}
use Rattle.std.proofs.lemmas.List.Sorted.{Contains-permutation, IsPermutation-map, IsPermutation-sym}
use Rattle.indexmap.specs.IndexMap.{insert_entry}
use Rattle.plane_rect.specs.Tile.{IsWhole, Tile, same_tile}
use Rattle.plane_rect.specs.SameTile.{same_tile-true}
use Rattle.plane_rect.proofs.Lists.{Contains-cases, Contains-first, Contains-later}
use Rattle.chain_owners.specs.Held.{Held, bytes_of}
use Rattle.chain_owners.specs.Owners.{Owns, times}
use Rattle.chain_owners.proofs.Ownership.{owns-fewer, times-append, times-elsewhere}
use Rattle.model_images.specs.Level.{level, tile_at_level}
use Rattle.model_images.specs.Raw.{tile_bytes}
use Rattle.model_images.specs.Tiles.{put_image}
use Rattle.model_images.proofs.AgreeingLevels.{levels-other_tiles}
use Rattle.model_images.proofs.HeldTiles.{one_tile-changes}
use Rattle.model_images.proofs.PutTiles.{around-hull, hull-is}
use Rattle.level_tables.specs.LevelTiles.{LevelTiles, bytes_in, hull_of, image_of, image_with, names, position_with, positions, same_level_tile, tile_with}
use Rattle.level_tables.specs.Over.{AreLevelTiles, IsAbove, IsOver, IsTileName, IsTileOfLevel}
use Rattle.level_tables.specs.declared.level_tile.LevelTile.{LevelTile}
use Rattle.level_tables.proofs.Entries.{Contains-key, Contains-lookup, keys-inserted, lookup-inserted, times-inserted, times-permutation}
use Rattle.level_tables.proofs.Frames.{put_image-same, where_exposed}

-- ---- one tile of a level fewer

module _ (tiles : LevelTiles) (at : LevelTile) (name : ℕ) (fewer : List (LevelTile × ℕ)) (is : IsPermutation tiles.levels ((at, name) ∷ fewer)) where
  abbrev left : LevelTiles
  left = record tiles { levels = fewer }

  pub times-without : (q : ℕ) → times (names tiles) q ≡ times (name ∷ names left) q
  times-without q =
      let moved = times-permutation (values_of tiles.levels) (name ∷ values_of fewer) q (IsPermutation-map (λ (e : LevelTile × ℕ). e.1) tiles.levels ((at, name) ∷ fewer) is) in
      omega (arith, moved, times-append (values_of tiles.put) (values_of tiles.levels) q, times-append (values_of tiles.put) (values_of fewer) q)

  pub still-there : (other : LevelTile) (q : ℕ) → Contains fewer (other, q) → Contains tiles.levels (other, q)
  still-there other q there =
      Contains-permutation ((at, name) ∷ fewer) tiles.levels (other, q) (IsPermutation-sym tiles.levels ((at, name) ∷ fewer) is)
      (Contains-later (at, name) fewer (other, q) there)

  module _ (held : Held) (over : IsOver tiles held) where
    pub owns-without : Owns held (name ∷ names left)
    owns-without = owns-fewer held (names tiles) (name ∷ names left) (λ q. omega (arith, times-without q)) over.owned

    pub over-without : IsDistinct same_level_tile (keys_of fewer) → IsOver left held
    over-without once = record {
      owned = owns-fewer held (names tiles) (names left) (λ q. omega (arith, times-without q)) over.owned;
      named = λ q some. over.named q (omega (arith, times-without q, some));
      shape = record {
        whole = over.shape.whole;
        above = λ other q there. over.shape.above other q (still-there other q there);
        once = once;
      };
      averaged = λ other q there. over.averaged other q (still-there other q there);
    }

-- ---- one tile of a level more

times-push : (es : List (LevelTile × ℕ)) (e : LevelTile × ℕ) (q : ℕ) → times (values_of (es ++ e ∷ [])) q ≡ times (e.1 ∷ values_of es) q
times-push [] e q = refl
times-push (first ∷ es) e q = omega (arith, times-push es e q)

pub only : (e other : LevelTile × ℕ) → Contains (e ∷ []) other → e ≡ other
only e other there = elim (Contains-cases e [] other there) [ inl here ↦ here | inr later ↦ absurd (omega (arith, later.1)) ]

module _ (tiles : LevelTiles) (held : Held) (at : LevelTile) (name : ℕ) (over : IsOver tiles held) where
  abbrev more : LevelTiles
  more = record tiles { levels = tiles.levels ++ (at, name) ∷ [] }

  pub times-more : (q : ℕ) → times (names more) q ≡ times (name ∷ names tiles) q
  times-more q = omega (arith, times-push tiles.levels (at, name) q, times-append (values_of tiles.put) (values_of more.levels) q, times-append (values_of tiles.put) (values_of tiles.levels) q)

  pub over-more : Owns held (name ∷ names tiles) → IsDistinct same_level_tile (keys_of more.levels) → IsAbove (positions tiles) at
      → IsTileName tiles.format held name → IfSome (bytes_of held name) (IsTileOfLevel (image_of tiles held) at.level at.tile) → IsOver more held
  over-more owns once above is_name bytes = record {
    owned = owns-fewer held (name ∷ names tiles) (names more) (λ q. omega (arith, times-more q)) owns;
    named = λ q some. elim (cases_eq q name) [
      | inl here ↦ subst (IsTileName tiles.format held) (sym here) is_name
      | inr other ↦ over.named q (omega (arith, some, times-more q, times-elsewhere (names tiles) name q other))
    ];
    shape = record {
      whole = over.shape.whole;
      above = λ other q there. elim (Contains-append_cases tiles.levels ((at, name) ∷ []) (other, q) there) [
        | inl before ↦ over.shape.above other q before
        | inr last ↦ let P : LevelTile × ℕ → Type 0 = λ e. IsAbove (positions tiles) e.0 in subst P (only (at, name) (other, q) last) above
      ];
      once = once;
    };
    averaged = λ other q there. elim (Contains-append_cases tiles.levels ((at, name) ∷ []) (other, q) there) [
      | inl before ↦ over.averaged other q before
      | inr last ↦
          let P : LevelTile × ℕ → Type 0 = λ e. IfSome (bytes_of held e.1) (IsTileOfLevel (image_of tiles held) e.0.level e.0.tile) in
          subst P (only (at, name) (other, q) last) bytes
    ];
  }

-- ---- a tile put

pub Contains-position : (tiles : List Tile) (at other : Tile) → Contains tiles other → Contains (position_with tiles at) other
Contains-position [] at other there = absurd (omega (arith, there.1))
Contains-position (first ∷ tiles) at other there = elim (cases_Bool (same_tile at first)) [
  | inl hit ↦ rw hit there
  | inr miss ↦ rw miss (elim (Contains-cases first tiles other there) [
    | inl here ↦ Contains-first first (position_with tiles at) other here
    | inr later ↦ Contains-later first (position_with tiles at) other (Contains-position tiles at other later)
  ])
]

pub Contains-put : (tiles : List Tile) (at : Tile) → Contains (position_with tiles at) at
Contains-put [] at = Contains-first at [] at refl
Contains-put (first ∷ tiles) at = elim (cases_Bool (same_tile at first)) [
  | inl hit ↦ rw hit (Contains-first first tiles at (sym (same_tile-true at first hit)))
  | inr miss ↦ rw miss (Contains-later first (position_with tiles at) at (Contains-put tiles at))
]

pub position-cases : (tiles : List Tile) (at other : Tile) → Contains (position_with tiles at) other → Contains tiles other ⊎ (at ≡ other)
position-cases [] at other there = elim (Contains-cases at [] other there) [ inl here ↦ inr here | inr later ↦ inl later ]
position-cases (first ∷ tiles) at other there = elim (cases_Bool (same_tile at first)) [
  | inl hit ↦ inl (rw hit at there)
  | inr miss ↦ elim (Contains-cases first (position_with tiles at) other (rw miss at there)) [
    | inl here ↦ inl (Contains-first first tiles other here)
    | inr later ↦ elim (position-cases tiles at other later) [
      | inl before ↦ inl (Contains-later first tiles other before)
      | inr last ↦ inr last
    ]
  ]
]

-- tiles that are known are among those that were put
pub among-put : (tiles : LevelTiles) (held : Held) → AreLevelTiles tiles → (tile : Tile) → IsSome (bytes_in held tiles.put tile)
    → Contains (positions tiles) tile × IsWhole tile
among-put tiles held are tile some = of (lookup (same_tile tile) tiles.put) refl some
  where
    of : (o : Option ℕ) → lookup (same_tile tile) tiles.put ≡ o → IsSome (option_and_then (bytes_of held) o) → Contains (positions tiles) tile × IsWhole tile
    of None is none = absurd (true≢false (sym none))
    of (Some name) is shown =
        let there = Contains-key tiles.put tile name (Contains-lookup same_tile same_tile-true tiles.put tile name is) in
        (there, are.whole tile there)

module _ (tiles : LevelTiles) (held : Held) (at : Tile) (name : ℕ) where
  abbrev after : LevelTiles
  after = record tiles { put = insert_entry same_tile tiles.put at name }

  pub times-after : (q : ℕ) → times (option_to_list (lookup (same_tile at) tiles.put) ++ names after) q ≡ times (name ∷ names tiles) q
  times-after q =
      omega (
        arith,
        times-inserted tiles.put at name q,
        times-append (option_to_list (lookup (same_tile at) tiles.put)) (names after) q,
        times-append (values_of after.put) (values_of tiles.levels) q,
        times-append (values_of tiles.put) (values_of tiles.levels) q,
        times-append (name ∷ []) (names tiles) q,
      )

  pub bytes-after : (tile : Tile) → bytes_in held after.put tile ≡ tile_with (bytes_in held tiles.put) at (bytes_of held name) tile
  bytes-after tile = rw (lookup-inserted tiles.put at name tile) (elim (cases_Bool (same_tile tile at)) [ inl hit ↦ rw hit refl | inr miss ↦ rw miss refl ])

  pub image-after : image_of after held ≡ image_with tiles held ((at, bytes_of held name) ∷ [])
  image-after =
      where_exposed held.content held.content _ _ refl
      (ap (λ (ps : List Tile). put_image tiles.format ps (bytes_in held after.put)) (keys-inserted tiles.put at name)
      ∙ put_image-same tiles.format (position_with (positions tiles) at) (bytes_in held after.put) (tile_with (bytes_in held tiles.put) at (bytes_of held name)) bytes-after)

  module _ (over : IsOver tiles held) (whole : IsWhole at) where
    shape-after : AreLevelTiles after
    shape-after = record {
      whole = λ tile there. elim (position-cases (positions tiles) at tile (rw (keys-inserted tiles.put at name) at there)) [
        | inl before ↦ over.shape.whole tile before
        | inr here ↦ subst IsWhole here whole
      ];
      above = λ other q there.
          let is = over.shape.above other q there in
          record {
            some_level = is.some_level;
            known_level = is.known_level;
            below = (is.below.0, rw (keys-inserted tiles.put at name) (Contains-position (positions tiles) at is.below.0 is.below.1), is.below.2);
          };
      once = over.shape.once;
    }

    elsewhere : (other : Tile) → other ≢ at → bytes_in held after.put other ≡ bytes_in held tiles.put other
    elsewhere other ne = elim (cases_Bool (same_tile other at)) [
      | inl hit ↦ absurd (ne (same_tile-true other at hit))
      | inr miss ↦ bytes-after other ∙ rw miss refl
    ]

    -- levels elsewhere are as they were
    level-after : (z : ℕ) (tile : Tile) → tile ≢ tile_at_level at z
        → tile_bytes (level (put_image tiles.format (positions tiles) (bytes_in held tiles.put)) z) tile
        ≡ tile_bytes (level (put_image tiles.format (positions after) (bytes_in held after.put)) z) tile
    level-after z tile ne =
        levels-other_tiles (put_image tiles.format (positions tiles) (bytes_in held tiles.put))
        (put_image tiles.format (positions after) (bytes_in held after.put)) at tile z
        (hull-is (positions tiles)) (hull-is (positions after))
        (one_tile-changes (hull_of tiles) (hull_of after) tiles.format (bytes_in held tiles.put) (bytes_in held after.put) at
        (around-hull tiles.format (positions tiles) (bytes_in held tiles.put) (among-put tiles held over.shape))
        (around-hull tiles.format (positions after) (bytes_in held after.put) (among-put after held shape-after)) elsewhere) ne

    pub over-after : Owns held (name ∷ names tiles) → IsTileName tiles.format held name
        → ((other : LevelTile) (q : ℕ) → Contains tiles.levels (other, q) → other.tile ≢ tile_at_level at other.level) → IsOver after held
    over-after owns is_name void = record {
      owned = owns-fewer held (name ∷ names tiles) (names after)
          (λ q. omega (arith, times-after q, times-append (option_to_list (lookup (same_tile at) tiles.put)) (names after) q)) owns;
      named = λ q some. elim (cases_eq q name) [
        | inl here ↦ subst (IsTileName tiles.format held) (sym here) is_name
        | inr other ↦ over.named q (omega (
          arith,
          some,
          times-after q,
          times-append (option_to_list (lookup (same_tile at) tiles.put)) (names after) q,
          times-elsewhere (names tiles) name q other,
        ))
      ];
      shape = shape-after;
      averaged = λ other q there. of other held.content (bytes_of held q) (void other q there) (over.averaged other q there);
    }
      where
        of : (other : LevelTile) {X : Type 0} (content : Option X) (bytes : Option (List ℕ)) → other.tile ≢ tile_at_level at other.level
            → IfSome bytes (IsTileOfLevel (option_map (λ (c : X). put_image tiles.format (positions tiles) (bytes_in held tiles.put)) content) other.level other.tile)
            → IfSome bytes (IsTileOfLevel (option_map (λ (c : X). put_image tiles.format (positions after) (bytes_in held after.put)) content) other.level other.tile)
        of other content None ne is = tt
        of other None (Some bytes) ne is = tt
        of other (Some c) (Some bytes) ne is = is ∙ level-after other.level other.tile ne
