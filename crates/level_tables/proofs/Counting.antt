-- How many tiles of levels a table can hold.
use Rattle.std.proofs.Common.{◌≡◌, ℕ, zero, suc, ◌+◌, ◌*◌, ◌/◌, ◌≤◌, true, false, cond, leb, List, [], ◌∷◌, ◌++◌, length, None, Contains, Decides, inl, inr, refl, sym, ap, subst, ◌∙◌, length-append, arith}
use Rattle.std.specs.List.{AllByRecursion, IsDistinct}
use Rattle.std.specs.Map.{keys_of, lookup}
use Rattle.std.proofs.lemmas.Bool.{cases_Bool, cases_lt, leb-true}
use Rattle.std.proofs.lemmas.List.Elements.{Contains-append_left, Contains-append_right}
use Rattle.std.proofs.lemmas.Map.{none_passes_from_lookup}
use Rattle.std.proofs.lemmas.Map.Keys.{IsDistinct-cons, IsDistinct-head, IsDistinct-tail}
use Rattle.std.proofs.lemmas.Map.Made.{is_member-Decides, length-le_from_is_member}
use Rattle.plane_rect.specs.Rectangle.{IsRectangle, Rectangle, half}
use Rattle.plane_rect.specs.Tile.{IsWhole, Meets, Tile, tile_at, tile_of, tile_origin, tiles}
use Rattle.plane_rect.proofs.Lists.{Contains-cases, Contains-first, Contains-later}
use Rattle.plane_rect.proofs.Moved.{halved-positions}
use Rattle.plane_rect.proofs.RectangleLaws.{IsRectangle-halved}
use Rattle.plane_rect.proofs.TileLists.{Inside-tile_square, tiles-meeting}
use Rattle.model_images.specs.Level.{level_box, tile_above, tile_at_level}
use Rattle.model_images.specs.TileCounts.{level_tiles}
use Rattle.model_images.specs.Tiles.{hull_of_tiles}
use Rattle.model_images.proofs.PutTiles.{hull-is, hull-square}
use Rattle.level_tables.specs.LevelTiles.{LevelTiles, hull_of, positions, same_level_tile}
use Rattle.level_tables.specs.Over.{AreLevelTiles, IsAbove}
use Rattle.level_tables.specs.Steps.{level_count}
use Rattle.level_tables.specs.declared.level_tile.LevelTile.{LevelTile}
use Rattle.level_tables.proofs.Entries.{same_level_tile-laws, same_level_tile-true}

-- ---- all tiles of levels of an image

pub above_half : (u v : ℕ) → tile_above (tile_at u v) ≡ tile_at (half u) (half v)
above_half u v =
    let column : tile_of u / 2 + tile_origin / 2 ≡ tile_of (half u) = omega arith in
    let row : tile_of v / 2 + tile_origin / 2 ≡ tile_of (half v) = omega arith in
    let joined : (of : ℕ → ℕ → Tile) → of (tile_of u / 2 + tile_origin / 2) (tile_of v / 2 + tile_origin / 2) ≡ of (tile_of (half u)) (tile_of (half v)) = λ of. cc in
    joined (λ column row. record { column = column; row = row })

pub box-is : (box : Rectangle) (z : ℕ) → IsRectangle box → IsRectangle (level_box box z)
box-is box zero is = is
box-is box (suc z) is = IsRectangle-halved (level_box box z) (box-is box z is)

tile-first : (tile : Tile) → tile ≡ tile_at (64 * tile.column) (64 * tile.row)
tile-first tile =
    let column : tile.column ≡ tile_of (64 * tile.column) = omega arith in
    let row : tile.row ≡ tile_of (64 * tile.row) = omega arith in
    let joined : (of : ℕ → ℕ → Tile) → of tile.column tile.row ≡ of (tile_of (64 * tile.column)) (tile_of (64 * tile.row)) = λ of. cc in
    joined (λ column row. record { column = column; row = row })

-- a tile of a level that a tile is averaged for meets the level's box
meets-level : (put : List Tile) (tile : Tile) → Contains put tile → IsWhole tile → (z : ℕ) → Meets (tile_at_level tile z) (level_box (hull_of_tiles put) z)
meets-level put tile there whole zero = (
  64 * tile.column,
  64 * tile.row,
  hull-square put tile there whole (64 * tile.column) (64 * tile.row) ((Inside-tile_square (64 * tile.column) (64 * tile.row) tile).1 (tile-first tile)),
  tile-first tile,
)
meets-level put tile there whole (suc z) =
    let before = meets-level put tile there whole z in (
      half before.0,
      half before.1,
      (halved-positions (half before.0) (half before.1) (level_box (hull_of_tiles put) z) (box-is (hull_of_tiles put) z (hull-is put))).1 (before.0, before.1, before.2, refl, refl),
      ap tile_above before.3 ∙ above_half before.0 before.1,
    )

of_level : ℕ → List Tile → List LevelTile
of_level z [] = []
of_level z (t ∷ ts) = record { level = z; tile = t } ∷ of_level z ts

length-of_level : (z : ℕ) (ts : List Tile) → length (of_level z ts) ≡ length ts
unfolding of_level
length-of_level z [] = refl
length-of_level z (t ∷ ts) = ap suc (length-of_level z ts)

Contains-of_level : (z : ℕ) (ts : List Tile) (t : Tile) → Contains ts t → Contains (of_level z ts) (record { level = z; tile = t })
unfolding of_level
Contains-of_level z [] t there = absurd (omega (arith, there.1))
Contains-of_level z (first ∷ ts) t there = elim (Contains-cases first ts t there) [
  | inl here ↦ Contains-first (record { level = z; tile = first }) (of_level z ts) (record { level = z; tile = t })
      (ap (λ (t : Tile). let at : LevelTile = record { level = z; tile = t } in at) here)
  | inr later ↦ Contains-later (record { level = z; tile = first }) (of_level z ts) (record { level = z; tile = t }) (Contains-of_level z ts t later)
]

all_levels : Rectangle → ℕ → List LevelTile
all_levels box zero = []
all_levels box (suc z) = all_levels box z ++ of_level (suc z) (tiles (level_box box (suc z)))

length-all_levels : (box : Rectangle) (z : ℕ) → length (all_levels box z) ≡ level_tiles box z
unfolding all_levels
length-all_levels box zero = refl
length-all_levels box (suc z) =
    omega (
      arith,
      length-append (all_levels box z) (of_level (suc z) (tiles (level_box box (suc z)))),
      length-all_levels box z,
      length-of_level (suc z) (tiles (level_box box (suc z))),
    )

among-levels : (box : Rectangle) → IsRectangle box → (top : ℕ) (at : LevelTile) → 1 ≤ at.level → at.level ≤ top → Meets at.tile (level_box box at.level) → Contains (all_levels box top) at
unfolding all_levels
among-levels box is zero at some low meets = absurd (omega (arith, some, low))
among-levels box is (suc top) at some low meets = elim (cases_lt at.level (suc top)) [
  | inl less ↦ Contains-append_left (all_levels box top) (of_level (suc top) (tiles (level_box box (suc top)))) at
      (among-levels box is top at some (omega (arith, less)) meets)
  | inr more ↦
      let here : at.level ≡ suc top = omega (arith, more, low) in
      let meets_here : Meets at.tile (level_box box (suc top)) = (let P : ℕ → Type 0 = λ n. Meets at.tile (level_box box n) in subst P here meets) in
      let there = Contains-of_level (suc top) (tiles (level_box box (suc top))) at.tile
      ((tiles-meeting (level_box box (suc top)) (box-is box (suc top) is) at.tile).1 meets_here) in
      let Q : ℕ → Type 0 = λ n. Contains (of_level (suc top) (tiles (level_box box (suc top)))) (record { level = n; tile = at.tile }) in
      Contains-append_right (all_levels box top) (of_level (suc top) (tiles (level_box box (suc top)))) at (subst Q (sym here) there)
]

-- ---- those that are held

low : ℕ → List (LevelTile × ℕ) → List LevelTile
low z [] = []
low z (e ∷ es) = cond (leb e.0.level z) (e.0 ∷ low z es) (low z es)

length-low : (z : ℕ) (es : List (LevelTile × ℕ)) → length (low z es) ≡ level_count z es
unfolding low
length-low z [] = refl
length-low z (e ∷ es) = elim (cases_Bool (leb e.0.level z)) [
  | inl hit ↦ rw hit (omega (arith, length-low z es))
  | inr miss ↦ rw miss (omega (arith, length-low z es))
]

low-all : (P : LevelTile → Type 0) (z : ℕ) (es : List (LevelTile × ℕ)) → AllByRecursion P (keys_of es) → AllByRecursion P (low z es)
unfolding low
low-all P z [] each = tt
low-all P z (e ∷ es) each = elim (cases_Bool (leb e.0.level z)) [
  | inl hit ↦ rw hit (each.0, low-all P z es each.1)
  | inr miss ↦ rw miss (low-all P z es each.1)
]

low-distinct : (z : ℕ) (es : List (LevelTile × ℕ)) → IsDistinct same_level_tile (keys_of es) → IsDistinct same_level_tile (low z es)
unfolding low
low-distinct z [] once = once
low-distinct z (e ∷ es) once = elim (cases_Bool (leb e.0.level z)) [
  | inl hit ↦ rw hit (IsDistinct-cons same_level_tile e.0 (low z es)
      (low-all (λ y. same_level_tile e.0 y ≡ false) z es (IsDistinct-head same_level_tile e.0 (keys_of es) once))
      (low-distinct z es (IsDistinct-tail same_level_tile e.0 (keys_of es) once)))
  | inr miss ↦ rw miss (low-distinct z es (IsDistinct-tail same_level_tile e.0 (keys_of es) once))
]

low-held : (z : ℕ) (es : List (LevelTile × ℕ)) (at : LevelTile) → Contains (low z es) at → ((name : ℕ) × Contains es (at, name)) × (at.level ≤ z)
unfolding low
low-held z [] at there = absurd (omega (arith, there.1))
low-held z (e ∷ es) at there = elim (cases_Bool (leb e.0.level z)) [
  | inl hit ↦ elim (Contains-cases e.0 (low z es) at (rw hit at there)) [
    | inl here ↦
        let P : LevelTile → Type 0 = λ a. a.level ≤ z in
        let joined : (of : LevelTile → ℕ → LevelTile × ℕ) → of e.0 e.1 ≡ of at e.1 = λ of. cc in
        ((e.1, Contains-first e es (at, e.1) (joined (λ a b. (a, b)))), subst P here (leb-true e.0.level z hit))
    | inr later ↦ let rest = low-held z es at later in ((rest.0.0, Contains-later e es (at, rest.0.0) rest.0.1), rest.1)
  ]
  | inr miss ↦ let rest = low-held z es at (rw miss at there) in ((rest.0.0, Contains-later e es (at, rest.0.0) rest.0.1), rest.1)
]

keys-none : (at : LevelTile) (es : List (LevelTile × ℕ)) → AllByRecursion (λ (e : LevelTile × ℕ). same_level_tile at e.0 ≡ false) es
    → AllByRecursion (λ y. same_level_tile at y ≡ false) (keys_of es)
keys-none at [] none = tt
keys-none at (e ∷ es) none = (none.0, keys-none at es none.1)

decides : (a b : LevelTile) → Decides (same_level_tile a b) (a ≡ b)
decides a b = (same_level_tile-true a b, λ same. let P : LevelTile → Type 0 = λ c. same_level_tile a c ≡ true in subst P same (same_level_tile-laws.refl a))

-- a tile of a level that is averaged from some tile that was put is one of those that there can be
among-held : (tiles : LevelTiles) → AreLevelTiles tiles → (top : ℕ) (q : LevelTile) → IsAbove (positions tiles) q → q.level ≤ top
    → Contains (all_levels (hull_of tiles) top) q
among-held tiles are top q is low_q =
    among-levels (hull_of tiles) (hull-is (positions tiles)) top q is.some_level low_q
    (let P : Tile → Type 0 = λ t. Meets t (level_box (hull_of tiles) q.level) in
    subst P is.below.2 (meets-level (positions tiles) is.below.0 is.below.1 (are.whole is.below.0 is.below.1) q.level))

-- there are at most as many as there can be
pub levels-most : (tiles : LevelTiles) → AreLevelTiles tiles → (top : ℕ) → level_count top tiles.levels ≤ level_tiles (hull_of tiles) top
levels-most tiles are top =
    let held = low top tiles.levels in
    let every = all_levels (hull_of tiles) top in
    let few : length held ≤ length every =
    length-le_from_is_member same_level_tile-laws held every (low-distinct top tiles.levels are.once)
    (λ q is. (is_member-Decides decides every q).1 (is-among q ((is_member-Decides decides held q).0 is))) in
    omega (arith, few, length-low top tiles.levels, length-all_levels (hull_of tiles) top)
  where
    is-among : (q : LevelTile) → Contains (low top tiles.levels) q → Contains (all_levels (hull_of tiles) top) q
    is-among q there = let h = low-held top tiles.levels q there in among-held tiles are top q (are.above q h.0.0 h.0.1) h.1

-- where one more can be held, there are fewer
pub levels-few : (tiles : LevelTiles) → AreLevelTiles tiles → (at : LevelTile) → IsAbove (positions tiles) at → lookup (same_level_tile at) tiles.levels ≡ None
    → (top : ℕ) → at.level ≤ top → level_count top tiles.levels + 1 ≤ level_tiles (hull_of tiles) top
levels-few tiles are at above none top low_at =
    let held = low top tiles.levels in
    let every = all_levels (hull_of tiles) top in
    let distinct : IsDistinct same_level_tile (at ∷ held) =
    IsDistinct-cons same_level_tile at held
    (low-all (λ y. same_level_tile at y ≡ false) top tiles.levels (keys-none at tiles.levels (none_passes_from_lookup (same_level_tile at) tiles.levels none)))
    (low-distinct top tiles.levels are.once) in
    let few : length (at ∷ held) ≤ length every =
    length-le_from_is_member same_level_tile-laws (at ∷ held) every distinct
    (λ q is. (is_member-Decides decides every q).1 (is-among q ((is_member-Decides decides (at ∷ held) q).0 is))) in
    omega (arith, few, length-low top tiles.levels, length-all_levels (hull_of tiles) top)
  where
    is-among : (q : LevelTile) → Contains (at ∷ low top tiles.levels) q → Contains (all_levels (hull_of tiles) top) q
    is-among q there = elim (Contains-cases at (low top tiles.levels) q there) [
      | inl here ↦
          let P : LevelTile → Type 0 = λ a. Contains (all_levels (hull_of tiles) top) a in
          subst P here (among-held tiles are top at above low_at)
      | inr later ↦ let h = low-held top tiles.levels q later in among-held tiles are top q (are.above q h.0.0 h.0.1) h.1
    ]
