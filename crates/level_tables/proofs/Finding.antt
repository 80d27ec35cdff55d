-- Tiles of levels that are found, or averaged.
use Rattle.std.proofs.Common.{◌≡◌, ◌≢◌, ℕ, zero, suc, ◌+◌, ◌-◌, ◌*◌, ◌/◌, ◌≤◌, ◌⊎◌, true, List, [], ◌∷◌, length, replicate, Option, Some, None, Contains, inl, inr, true≢false, refl, sym, ap, subst, ◌∙◌, arith}
use Rattle.std.specs.Prelude.{IfSome, IsSome}
use Rattle.std.specs.Map.{keys_of, lookup}
use Rattle.std.specs.Option.{is_some, option_and_then, option_map}
use Rattle.std.proofs.lemmas.Bool.{cases_Bool, cases_eq, eq-eqb, ne_eqb}
use Rattle.plane_rect.specs.Tile.{IsWhole, Tile, same_tile, tile_square}
use Rattle.plane_rect.specs.SameTile.{same_tile-laws, same_tile-true}
use Rattle.plane_rect.proofs.Lists.{Contains-cases}
use Rattle.pixel_formats.specs.Format.{pixel_bytes}
use Rattle.pixel_formats.specs.declared.format.Format.{Format}
use Rattle.chain_owners.specs.Held.{Held, bytes_of, length_of}
use Rattle.chain_contracts.specs.Tiles.{Reads}
use Rattle.model_images.specs.FromRaw.{pixels_from_raw}
use Rattle.model_images.specs.Image.{Image, at}
use Rattle.model_images.specs.Level.{halved_image, level, tile_above, tile_at_level}
use Rattle.model_images.specs.Raw.{tile_bytes}
use Rattle.model_images.specs.Tiles.{AreTileBytes, put_image}
use Rattle.model_images.specs.Paint.{blank}
use Rattle.model_images.proofs.ByteLaws.{length-tile_bytes}
use Rattle.model_images.proofs.LackingTiles.{level-lacking}
use Rattle.model_images.proofs.LevelLaws.{IsRectangle-level, level-format, level-next, level-zero}
use Rattle.model_images.proofs.PutTiles.{hull-is, put-read}
use Rattle.model_images.proofs.RawLaws.{pixels-zero, raw-samples}
use Rattle.level_tables.specs.LevelTiles.{LevelTiles, bytes_in, hull_of, image_of, positions, same_level_tile}
use Rattle.level_tables.specs.Over.{AreLevelTiles, IsOver, IsTileOfLevel, tile_length}
use Rattle.level_tables.specs.Found.{AreFound, HasNoneBelow, HasTileLength, IsFound, IsFoundTile, IsInHalf, half_origin, image_of_four, name_in, square_below, tile_below, with_found}
use Rattle.level_tables.specs.declared.four_tiles.FourTiles.{FourTiles}
use Rattle.level_tables.proofs.Averaging.{AreRight, IsRight, format-of, four-halved}
use Rattle.level_tables.proofs.Empty.{none_in}
use Rattle.level_tables.proofs.Entries.{Contains-key, Contains-lookup, same_level_tile-true}
use Rattle.level_tables.proofs.Frames.{level-named, put-named}

-- ---- positions of tiles of levels

pub above-below : (above : Tile) (a b : ℕ) → IsInHalf above → a ≤ 1 → b ≤ 1 → tile_above (tile_below above a b) ≡ above
above-below above a b half left upper =
    let column : (2 * (above.column - half_origin) + a) / 2 + half_origin ≡ above.column = omega (arith, half.left, left) in
    let row : (2 * (above.row - half_origin) + b) / 2 + half_origin ≡ above.row = omega (arith, half.top, upper) in
    let joined : (of : ℕ → ℕ → Tile) → of ((2 * (above.column - half_origin) + a) / 2 + half_origin) ((2 * (above.row - half_origin) + b) / 2 + half_origin) ≡ of above.column above.row = λ of. cc in
    joined (λ column row. record { column = column; row = row })

pub in-half : (tile : Tile) (z : ℕ) → IsWhole tile → IsInHalf (tile_at_level tile (suc z))
in-half tile zero whole = record {
  left = omega arith;
  right = omega (arith, whole.0);
  top = omega arith;
  bottom = omega (arith, whole.1);
}
in-half tile (suc z) whole =
    let before = in-half tile z whole in
    record {
      left = omega arith;
      right = omega (arith, before.right);
      top = omega arith;
      bottom = omega (arith, before.bottom);
    }

-- ---- where nothing was put

key-absent : (es : List (Tile × ℕ)) (k : Tile) → lookup (same_tile k) es ≡ None → ¬ Contains (keys_of es) k
key-absent [] k none there = omega (arith, there.1)
key-absent (e ∷ es) k none there = elim (cases_Bool (same_tile k e.0)) [
  | inl hit ↦ let found : Some e.1 ≡ None = rw hit at none in true≢false (ap is_some found)
  | inr miss ↦ elim (Contains-cases e.0 (keys_of es) k there) [
    | inl here ↦
        let P : Tile → Type 0 = λ t. same_tile k t ≡ true in
        true≢false (sym (subst P (sym here) (same_tile-laws.refl k)) ∙ miss)
    | inr later ↦ key-absent es k (rw miss at none) later
  ]
]

pub none-put : (tiles : LevelTiles) (at : Tile) → name_in tiles 0 at ≡ None → (tile : Tile) → Contains (positions tiles) tile → tile_at_level tile 0 ≢ at
none-put tiles at none tile there is = key-absent tiles.put at none (subst (Contains (positions tiles)) is there)

pub none-outside : (tiles : LevelTiles) (at : Tile) (z : ℕ) → AreLevelTiles tiles → 1 ≤ z → ¬ IsInHalf at → (tile : Tile) → Contains (positions tiles) tile → tile_at_level tile z ≢ at
none-outside tiles at zero are some out tile there is = omega (arith, some)
none-outside tiles at (suc z) are some out tile there is = out (subst IsInHalf is (in-half tile z (are.whole tile there)))

-- ---- the four tiles below one

module _ (image : Option Image) (put : List Tile) (format : Format) (z : ℕ) (above : Tile) (four : FourTiles) (found : AreFound image put format z above four) where
  length-found : (at : Tile) (o : Option (List ℕ)) → IsFound image put format z at o → HasTileLength format o
  length-found at None is = tt
  length-found at (Some bytes) is = is.length

  none-of : (at : Tile) (o : Option (List ℕ)) → IsFound image put format z at o → o ≡ None → (tile : Tile) → Contains put tile → tile_at_level tile z ≢ at
  none-of at None is none = is
  none-of at (Some bytes) is none = absurd (true≢false (ap is_some none))

  some-of : (a b : ℕ) (o : Option (List ℕ)) → a ≤ 1 → b ≤ 1 → IsInHalf above → IsFound image put format z (tile_below above a b) o
      → (o ≡ None) ⊎ ((tile : Tile) × Contains put tile × (tile_at_level tile (suc z) ≡ above))
  some-of a b None left upper half is = inl refl
  some-of a b (Some bytes) left upper half is = inr (is.below.0, is.below.1, ap tile_above is.below.2 ∙ above-below above a b half left upper)

  pub some-above : IsInHalf above → ¬ ((four.upper_left ≡ None) × (four.upper_right ≡ None) × (four.lower_left ≡ None) × (four.lower_right ≡ None))
      → (tile : Tile) × Contains put tile × (tile_at_level tile (suc z) ≡ above)
  some-above half some = elim (some-of 0 0 four.upper_left (omega arith) (omega arith) half found.upper_left) [
    | inr is ↦ is
    | inl a ↦ elim (some-of 1 0 four.upper_right (omega arith) (omega arith) half found.upper_right) [
      | inr is ↦ is
      | inl b ↦ elim (some-of 0 1 four.lower_left (omega arith) (omega arith) half found.lower_left) [
        | inr is ↦ is
        | inl c ↦ elim (some-of 1 1 four.lower_right (omega arith) (omega arith) half found.lower_right) [
          | inr is ↦ is
          | inl d ↦ absurd (some (a, b, c, d))
        ]
      ]
    ]
  ]

-- the mean of four has as many bytes as a tile
pub length-average : (format : Format) (above : Tile) (four : FourTiles) (bytes : List ℕ)
    → bytes ≡ tile_bytes (halved_image (image_of_four format above four)) above → length bytes ≡ tile_length format
length-average format above four bytes is =
    let first = blank (square_below above) format in
    let second = with_found first (tile_below above 0 0) four.upper_left in
    let third = with_found second (tile_below above 1 0) four.upper_right in
    let fourth = with_found third (tile_below above 0 1) four.lower_left in
    ap (λ (b : List ℕ). length b) is
    ∙ length-tile_bytes (halved_image (image_of_four format above four)) above
    ∙ ap (λ (f : Format). 4096 * pixel_bytes f)
    (format-of fourth (tile_below above 1 1) four.lower_right ∙ format-of third (tile_below above 0 1) four.lower_left
    ∙ format-of second (tile_below above 1 0) four.upper_right ∙ format-of first (tile_below above 0 0) four.upper_left)

-- a tile that is found is the image's, and where none is found the image is zero
found-right : (tiles : LevelTiles) (held : Held) (z : ℕ) (tile : Tile) (o : Option (List ℕ))
    → IsFound (Some (put_image tiles.format (positions tiles) (bytes_in held tiles.put))) (positions tiles) tiles.format z tile o
    → IsRight (level (put_image tiles.format (positions tiles) (bytes_in held tiles.put)) z) tile o
found-right tiles held z tile (Some bytes) is = is.exact
found-right tiles held z tile None is = λ u v c there few.
    let image = put_image tiles.format (positions tiles) (bytes_in held tiles.put) in
    let zeros = level-lacking (hull_of tiles) tiles.format (bytes_in held tiles.put) z tile (hull-is (positions tiles)) (λ other at_tile. lacking other (is other) at_tile) in
    sym (raw-samples (level image z) (tile_square tile) u v c there few)
    ∙ ap (λ (b : List ℕ). pixels_from_raw (tile_square tile) (level image z).format b u v c) zeros
    ∙ pixels-zero (tile_square tile) (level image z).format (4096 * pixel_bytes tiles.format) u v c
  where
    lacking : (other : Tile) → (Contains (positions tiles) other → tile_at_level other z ≢ tile) → tile_at_level other z ≡ tile → bytes_in held tiles.put other ≡ None
    lacking other none at_tile = of (lookup (same_tile other) tiles.put) refl
      where
        of : (o : Option ℕ) → lookup (same_tile other) tiles.put ≡ o → option_and_then (bytes_of held) o ≡ None
        of None is = refl
        of (Some name) is = absurd (none (Contains-key tiles.put other name (Contains-lookup same_tile same_tile-true tiles.put other name is)) at_tile)

module _ (tiles : LevelTiles) (held : Held) (z : ℕ) (above : Tile) (four : FourTiles) (half : IsInHalf above) (bytes : List ℕ)
    (is : bytes ≡ tile_bytes (halved_image (image_of_four tiles.format above four)) above) where
  -- the mean of the four that are found is the tile of the next level
  pub average-exact : AreFound (image_of tiles held) (positions tiles) tiles.format z above four → IsTileOfLevel (image_of tiles held) (suc z) above bytes
  average-exact found = of held.content found
    where
      of : {X : Type 0} (content : Option X)
          → AreFound (option_map (λ (x : X). put_image tiles.format (positions tiles) (bytes_in held tiles.put)) content) (positions tiles) tiles.format z above four
          → IsTileOfLevel (option_map (λ (x : X). put_image tiles.format (positions tiles) (bytes_in held tiles.put)) content) (suc z) above bytes
      of None found = tt
      of (Some x) found =
          let image = put_image tiles.format (positions tiles) (bytes_in held tiles.put) in
          let right : AreRight (level image z) above four = record {
            upper_left = found-right tiles held z (tile_below above 0 0) four.upper_left found.upper_left;
            upper_right = found-right tiles held z (tile_below above 1 0) four.upper_right found.upper_right;
            lower_left = found-right tiles held z (tile_below above 0 1) four.lower_left found.lower_left;
            lower_right = found-right tiles held z (tile_below above 1 1) four.lower_right found.lower_right;
          } in
          let next : z + 1 ≡ suc z = omega arith in
          is ∙ ap (λ (f : Format). tile_bytes (halved_image (image_of_four f above four)) above) (sym (level-format image z))
          ∙ four-halved (level image z) above four right half (IsRectangle-level image z (hull-is (positions tiles)))
          ∙ ap (λ (i : Image). tile_bytes i above) (sym (level-next image z) ∙ ap (level image) next)

-- ---- tiles that a table holds

module _ (tiles : LevelTiles) (held : Held) (over : IsOver tiles held) (at : Tile) (name : ℕ) (bytes : List ℕ) where
  exact-of : (z : ℕ) → IfSome (bytes_of held name) (λ b. bytes ≡ b) → IfSome (bytes_of held name) (IsTileOfLevel (image_of tiles held) z at)
      → (IsSome held.content → IsSome (bytes_of held name)) → IsTileOfLevel (image_of tiles held) z at bytes
  exact-of z read is known = of held.content (bytes_of held name) read is known
    where
      of : {X : Type 0} (content : Option X) (o : Option (List ℕ)) → IfSome o (λ b. bytes ≡ b)
          → IfSome o (IsTileOfLevel (option_map (λ (x : X). put_image tiles.format (positions tiles) (bytes_in held tiles.put)) content) z at)
          → (IsSome content → IsSome o) → IsTileOfLevel (option_map (λ (x : X). put_image tiles.format (positions tiles) (bytes_in held tiles.put)) content) z at bytes
      of None o read is known = tt
      of (Some x) None read is known = absurd (true≢false (sym (known refl)))
      of (Some x) (Some b) read is known = read ∙ is

  level-held : (z : ℕ) → 1 ≤ z → lookup (same_level_tile (record { level = z; tile = at })) tiles.levels ≡ Some name → Reads held name (tile_length tiles.format) bytes
      → IsFoundTile (image_of tiles held) (positions tiles) tiles.format z at bytes
  level-held z some is reads =
      let there = Contains-lookup same_level_tile same_level_tile-true tiles.levels (record { level = z; tile = at }) name is in
      record {
        length = reads.length;
        exact = exact-of z reads.bytes (over.averaged (record { level = z; tile = at }) name there)
            ((over.named name (level-named tiles (record { level = z; tile = at }) name there)).known);
        below = (over.shape.above (record { level = z; tile = at }) name there).below;
      }

  put-held : lookup (same_tile at) tiles.put ≡ Some name → Reads held name (tile_length tiles.format) bytes
      → IsFoundTile (image_of tiles held) (positions tiles) tiles.format 0 at bytes
  put-held is reads =
      let there = Contains-key tiles.put at name (Contains-lookup same_tile same_tile-true tiles.put at name is) in
      let named = over.named name (put-named tiles at name is) in
      record {
        length = reads.length;
        exact = exact-of 0 reads.bytes (exact-put there named.bytes) named.known;
        below = (at, there, refl);
      }
    where
      exact-put : Contains (positions tiles) at → IfSome (bytes_of held name) (AreTileBytes tiles.format) → IfSome (bytes_of held name) (IsTileOfLevel (image_of tiles held) 0 at)
      exact-put there are = of held.content (bytes_of held name) refl are
        where
          image : Image
          image = put_image tiles.format (positions tiles) (bytes_in held tiles.put)

          of : {X : Type 0} (content : Option X) (o : Option (List ℕ)) → bytes_of held name ≡ o → IfSome o (AreTileBytes tiles.format)
              → IfSome o (IsTileOfLevel (option_map (λ (x : X). put_image tiles.format (positions tiles) (bytes_in held tiles.put)) content) 0 at)
          of content None e are = tt
          of None (Some b) e are = tt
          of (Some x) (Some b) e are =
              let img = put_image tiles.format (positions tiles) (bytes_in held tiles.put) in
              sym (put-read tiles.format (positions tiles) (bytes_in held tiles.put) at b there (over.shape.whole at there)
              (ap (option_and_then (bytes_of held)) is ∙ e) are)
              ∙ ap (λ (i : Image). tile_bytes i at) (sym (level-zero img))

  pub held-found : (z : ℕ) → name_in tiles z at ≡ Some name → Reads held name (tile_length tiles.format) bytes
      → IsFoundTile (image_of tiles held) (positions tiles) tiles.format z at bytes
  held-found z is reads = elim (cases_eq z 0) [
    | inl first ↦
        let here : lookup (same_tile at) tiles.put ≡ Some name = rw (eq-eqb z 0 first) at is in
        let P : ℕ → Type 0 = λ n. IsFoundTile (image_of tiles held) (positions tiles) tiles.format n at bytes in
        subst P (sym first) (put-held here reads)
    | inr above ↦ level-held z (omega (arith, above)) (rw (ne_eqb z 0 above) at is) reads
  ]

  -- the name of a tile that is held is there, and has as many bytes as a tile
  pub held-known : (z : ℕ) → name_in tiles z at ≡ Some name → length_of held name ≡ Some (tile_length tiles.format)
  held-known z is = elim (cases_eq z 0) [
    | inl first ↦ (over.named name (put-named tiles at name (rw (eq-eqb z 0 first) at is))).length
    | inr above ↦ (over.named name (level-named tiles (record { level = z; tile = at }) name
        (Contains-lookup same_level_tile same_level_tile-true tiles.levels (record { level = z; tile = at }) name (rw (ne_eqb z 0 above) at is)))).length
  ]

pub level-none : (tiles : LevelTiles) (z : ℕ) (at : Tile) → 1 ≤ z → name_in tiles z at ≡ None
    → lookup (same_level_tile (record { level = z; tile = at })) tiles.levels ≡ None
level-none tiles z at some none = let above : z ≢ 0 = omega (arith, some) in rw (ne_eqb z 0 above) at none

-- where nothing was put a level is zero
pub zero-exact : (tiles : LevelTiles) (held : Held) (z : ℕ) (at : Tile) (bytes : List ℕ)
    → ((tile : Tile) → Contains (positions tiles) tile → tile_at_level tile z ≢ at) → bytes ≡ replicate (tile_length tiles.format) 0
    → IsTileOfLevel (image_of tiles held) z at bytes
zero-exact tiles held z at bytes none is = of held.content
  where
    lacking : (other : Tile) → tile_at_level other z ≡ at → (o : Option ℕ) → lookup (same_tile other) tiles.put ≡ o → option_and_then (bytes_of held) o ≡ None
    lacking other at_tile None found = refl
    lacking other at_tile (Some name) found =
        absurd (none other (Contains-key tiles.put other name (Contains-lookup same_tile same_tile-true tiles.put other name found)) at_tile)

    of : {X : Type 0} (content : Option X)
        → IsTileOfLevel (option_map (λ (x : X). put_image tiles.format (positions tiles) (bytes_in held tiles.put)) content) z at bytes
    of None = tt
    of (Some x) =
        is ∙ sym (level-lacking (hull_of tiles) tiles.format (bytes_in held tiles.put) z at (hull-is (positions tiles))
        (λ other at_tile. lacking other at_tile (lookup (same_tile other) tiles.put) refl))

-- where the table has no name of a tile, and there are no tiles below it, nothing was put
pub none-below : (tiles : LevelTiles) (z : ℕ) (at : Tile) → AreLevelTiles tiles → name_in tiles z at ≡ None → ¬ ((1 ≤ z) × IsInHalf at)
    → (tile : Tile) → Contains (positions tiles) tile → tile_at_level tile z ≢ at
none-below tiles z at are none out = elim (cases_eq z 0) [
  | inl first ↦
      let here : name_in tiles 0 at ≡ None = (let P : ℕ → Type 0 = λ n. name_in tiles n at ≡ None in subst P first none) in
      let Q : ℕ → Type 0 = λ n. (tile : Tile) → Contains (positions tiles) tile → tile_at_level tile n ≢ at in
      subst Q (sym first) (none-put tiles at here)
  | inr above ↦
      let some : 1 ≤ z = omega (arith, above) in
      none-outside tiles at z are some (λ half. out (some, half))
]

-- ---- tiles that were put, looked at one after another

abbrev pub Passed : List Tile → List Tile → ℕ → Tile → Type 0
Passed put left z at = (tile : Tile) → Contains put tile → Contains left tile ⊎ (tile_at_level tile z ≢ at)

pub passed-first : (put left : List Tile) (z : ℕ) (at : Tile) → left ≡ put → Passed put left z at
passed-first put left z at is = λ tile there. inl (let P : List Tile → Type 0 = λ tiles. Contains tiles tile in subst P (sym is) there)

pub passed-next : (put left rest : List Tile) (first : Tile) (z : ℕ) (at : Tile) → left ≡ first ∷ rest → tile_at_level first z ≢ at → Passed put left z at → Passed put rest z at
passed-next put left rest first z at is ne before = λ tile there. elim (before tile there) [
  | inr other ↦ inr other
  | inl more ↦ elim (Contains-cases first rest tile (let P : List Tile → Type 0 = λ tiles. Contains tiles tile in subst P is more)) [
    | inl here ↦ inr (λ same. ne (ap (λ (t : Tile). tile_at_level t z) here ∙ same))
    | inr later ↦ inl later
  ]
]

pub all-passed : (put left : List Tile) (z : ℕ) (at : Tile) → left ≡ [] → Passed put left z at → HasNoneBelow put z at
all-passed put left z at is passed tile there = elim (passed tile there) [
  | inr other ↦ other
  | inl more ↦ absurd (none_in tile (let P : List Tile → Type 0 = λ tiles. Contains tiles tile in subst P is more))
]
