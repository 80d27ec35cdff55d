-- Roots once painted tiles are theirs.
use Rattle.std.proofs.Common.{◌≡◌, ℕ, ◌<◌, ◌⊎◌, inl, inr, List, [], ◌∷◌, ◌++◌, Contains, Bool, false, cond, Option, Some, None, is_some, true≢false, refl, sym, ap, subst, ◌∙◌, arith}
use Rattle.std.specs.Prelude.{IfSome, IsSome, IsSomeAnd}
use Rattle.std.specs.Map.{keys_of, lookup, values_of}
use Rattle.std.specs.Option.{option_and_then, option_map, option_map_or}
use Rattle.std.proofs.lemmas.Bool.{cases_Bool}
use Rattle.chain_owners.specs.Held.{Held, bytes_of}
use Rattle.chain_owners.specs.Owners.{Owns, Respects}
use Rattle.chain_owners.proofs.Ownership.{owns-fewer, respects-beside, respects-both, times-append}
use Rattle.level_tables.specs.LevelTiles.{LevelTiles, bytes_in, position_with, positions, positions_with, tile_with, tiles_with}
use Rattle.level_tables.specs.NewTiles.{tiles_in}
use Rattle.level_tables.specs.Over.{IsOver}
use Rattle.level_tables.proofs.Changes.{position-cases}
use Rattle.level_tables.proofs.Frames.{bytes-beside, where_exposed}
use Rattle.level_tables.proofs.SwitchingAll.{tiles_with-same}
use Rattle.model_images.specs.FromRaw.{pixels_from_raw}
use Rattle.model_images.specs.Image.{at, is_inside}
use Rattle.model_images.specs.Paint.{blank, painted}
use Rattle.model_images.specs.Tiles.{AreZeroAround, AreZeroOutside, HeldTiles, held_image, held_pixels}
use Rattle.model_images.proofs.HeldTiles.{pixel-held}
use Rattle.model_images.proofs.Laws.{at-image_from_fn, generated_equal}
use Rattle.model_images.proofs.Positions.{not_inside}
use Rattle.pixel_formats.specs.Format.{channels}
use Rattle.pixel_formats.specs.declared.format.Format.{Format}
use Rattle.plane_rect.specs.Rectangle.{InLimits, Includes, Inside, IsRectangle, Rectangle}
use Rattle.plane_rect.specs.SameTile.{same_tile-laws, same_tile-true}
use Rattle.plane_rect.specs.Tile.{Meets, Tile, same_tile, tile_at, tile_square}
use Rattle.plane_rect.proofs.Lists.{Contains-cases, Contains-first, Contains-later}
use Rattle.plane_rect.proofs.TileLists.{Inside-tile_square}
use Rattle.root_tiles.specs.Chains.{ChainState}
use Rattle.root_tiles.specs.Made.{HasAll, Makes}
use Rattle.root_tiles.specs.Paints.{IsPainted}
use Rattle.root_tiles.specs.Roots.{IsRootOver, RootTiles, empty_root, root_image, root_names}
use Rattle.root_tiles.proofs.Blitting.{pixel-lacking}
use Rattle.root_tiles.proofs.Making.{none-in, root-beside}

-- ---- tiles after others were put

-- a tile is one of those that were put, or as it was
abbrev IsPutOr : (Tile → List ℕ → Type 0) → HeldTiles → List (Tile × Option (List ℕ)) → HeldTiles → Tile → Type 0
IsPutOr P held entries later tile = IsSomeAnd (later tile) (P tile) ⊎ ((later tile ≡ held tile) × ¬ Contains (keys_of entries) tile)

put-or : (P : Tile → List ℕ → Type 0) (held : HeldTiles) (entries : List (Tile × Option (List ℕ)))
    → ((tile : Tile) (bytes : Option (List ℕ)) → Contains entries (tile, bytes) → IsSomeAnd bytes (P tile))
    → (tile : Tile) → IsPutOr P held entries (tiles_with held entries) tile
put-or P held [] all tile = inr (refl, λ there. none-in tile there)
put-or P held (e ∷ entries) all tile =
    elim (put-or P (tile_with held e.0 e.1) entries (λ t b there. all t b (Contains-later e entries (t, b) there)) tile) [
      | inl put ↦ inl put
      | inr same ↦ elim (cases_Bool (same_tile tile e.0)) [
        | inl hit ↦
            let is : tile ≡ e.0 = same_tile-true tile e.0 hit in
            let here : tiles_with (tile_with held e.0 e.1) entries tile ≡ e.1 = same.0 ∙ ap (λ (b : Bool). cond b e.1 (held tile)) hit in
            inl (subst (λ (o : Option (List ℕ)). IsSomeAnd o (P tile)) (sym here)
            (subst (λ (t : Tile). IsSomeAnd e.1 (P t)) (sym is) (all e.0 e.1 (Contains-first e entries (e.0, e.1) refl))))
        | inr miss ↦ inr (
          same.0 ∙ ap (λ (b : Bool). cond b e.1 (held tile)) miss,
          λ there. elim (Contains-cases e.0 (keys_of entries) tile there) [
            | inl is ↦ absurd (true≢false (sym (ap (same_tile tile) is ∙ same_tile-laws.refl tile) ∙ miss))
            | inr later ↦ same.1 later
          ],
        )
      ]
    ]

positions-cases : (tiles more : List Tile) (tile : Tile) → Contains (positions_with tiles more) tile → Contains tiles tile ⊎ Contains more tile
positions-cases tiles [] tile there = inl there
positions-cases tiles (first ∷ more) tile there = elim (positions-cases (position_with tiles first) more tile there) [
  | inl before ↦ elim (position-cases tiles first tile before) [
    | inl old ↦ inl old
    | inr is ↦ inr (Contains-first first more tile is)
  ]
  | inr later ↦ inr (Contains-later first more tile later)
]

-- ---- the image of such tiles

module _ (box r : Rectangle) (format : Format) (f : ℕ → ℕ → ℕ → ℕ) (held later : HeldTiles) (entries : List (Tile × Option (List ℕ)))
    (inside : Includes box r) (around : AreZeroAround box format held)
    (cases : (tile : Tile) → IsPutOr (IsPainted format held r f) held entries later tile)
    (all : (tile : Tile) → Meets tile r → Contains (keys_of entries) tile) where
  pixel-same : (u v c : ℕ) → later (tile_at u v) ≡ held (tile_at u v) → held_pixels format later u v c ≡ held_pixels format held u v c
  pixel-same u v c same = ap (λ (o : Option (List ℕ)). option_map_or (λ bytes. pixels_from_raw (tile_square (tile_at u v)) format bytes u v c) o 0) same

  pixel-put : (u v c : ℕ) (found : Option (List ℕ)) → later (tile_at u v) ≡ found → IsSomeAnd found (IsPainted format held r f (tile_at u v)) → c < channels format
      → held_pixels format later u v c ≡ cond (is_inside u v r) (f u v c) (held_pixels format held u v c)
  pixel-put u v c None e is known = absurd is
  pixel-put u v c (Some bytes) e is known =
      let there : Inside u v (tile_square (tile_at u v)) = (Inside-tile_square u v (tile_at u v)).1 refl in
      pixel-held format later (tile_at u v) bytes u v c e there ∙ is u v c there known

  pixel-written : (u v c : ℕ) → c < channels format → held_pixels format later u v c ≡ cond (is_inside u v r) (f u v c) (held_pixels format held u v c)
  pixel-written u v c known = elim (cases (tile_at u v)) [
    | inl put ↦ pixel-put u v c (later (tile_at u v)) refl put known
    | inr same ↦
        let out : is_inside u v r ≡ false = not_inside u v r (λ there. same.1 (all (tile_at u v) (u, v, there, refl))) in
        pixel-same u v c same.0 ∙ sym (ap (λ (b : Bool). cond b (f u v c) (held_pixels format held u v c)) out)
  ]

  pub image-written : held_image box format later ≡ painted (held_image box format held) r f
  image-written =
      generated_equal box format (held_pixels format later) (λ u v c. cond (is_inside u v r) (f u v c) (at (held_image box format held) u v c))
      (λ u v c there known.
      pixel-written u v c known
      ∙ ap (λ (n : ℕ). cond (is_inside u v r) (f u v c) n) (sym (at-image_from_fn box format (held_pixels format held) u v c there known)))

  zero-held : (u v c : ℕ) → ¬ Inside u v box → c < channels format → held_pixels format held u v c ≡ 0
  zero-held u v c out known = of (held (tile_at u v)) refl (around (tile_at u v))
    where
      there : Inside u v (tile_square (tile_at u v))
      there = (Inside-tile_square u v (tile_at u v)).1 refl

      of : (found : Option (List ℕ)) → held (tile_at u v) ≡ found → IfSome found (AreZeroOutside box format (tile_at u v)) → held_pixels format held u v c ≡ 0
      of None e zero = pixel-lacking format held (tile_at u v) u v c e refl
      of (Some bytes) e zero = pixel-held format held (tile_at u v) bytes u v c e there ∙ zero u v c there out known

  pub zero-written : AreZeroAround box format later
  zero-written tile = elim (cases tile) [
    | inl put ↦ painted-zero (later tile) put
    | inr same ↦ subst (λ (o : Option (List ℕ)). IfSome o (AreZeroOutside box format tile)) (sym same.0) (around tile)
  ]
    where
      painted-zero : (found : Option (List ℕ)) → IsSomeAnd found (IsPainted format held r f tile) → IfSome found (AreZeroOutside box format tile)
      painted-zero None is = tt
      painted-zero (Some bytes) is = λ u v c there out known.
          is u v c there known
          ∙ ap (λ (b : Bool). cond b (f u v c) (held_pixels format held u v c)) (not_inside u v r (λ within. out (inside u v within)))
          ∙ zero-held u v c out known

-- ---- roots

-- what isn't exposed isn't known
none-known : (held : Held) (put : List (Tile × ℕ)) (tile : Tile) → held.content ≡ None → bytes_in held put tile ≡ None
none-known held put tile none = of (lookup (same_tile tile) put)
  where
    of : (o : Option ℕ) → option_and_then (bytes_of held) o ≡ None
    of None = refl
    of (Some name) = ap (option_and_then (λ content. _)) none

pub held_image-same : (box : Rectangle) (format : Format) (held later : HeldTiles) → ((tile : Tile) → later tile ≡ held tile) → held_image box format later ≡ held_image box format held
held_image-same box format held later same =
    generated_equal box format (held_pixels format later) (held_pixels format held)
    (λ u v c there known.
    ap (λ (o : Option (List ℕ)). option_map_or (λ bytes. pixels_from_raw (tile_square (tile_at u v)) format bytes u v c) o 0) (same (tile_at u v)))

keys-shown : (held : Held) (entries : List (Tile × ℕ)) → keys_of (tiles_in held entries) ≡ keys_of entries
keys-shown held [] = refl
keys-shown held (e ∷ entries) = ap (λ (ks : List Tile). e.0 ∷ ks) (keys-shown held entries)

mapped-known : {X Y Z W : Type 0} (o : Option X) (p : Option Y) (a : W) (b : Z) (g : Z → W) → is_some o ≡ is_some p → (IsSome p → a ≡ g b)
    → option_map (λ (x : X). a) o ≡ option_map g (option_map (λ (y : Y). b) p)
mapped-known None None a b g same is = refl
mapped-known None (Some y) a b g same is = absurd (true≢false (sym same))
mapped-known (Some x) None a b g same is = absurd (true≢false same)
mapped-known (Some x) (Some y) a b g same is = ap (λ z. Some z) (is refl)

known-or : {X : Type 0} (o : Option X) → IsSome o ⊎ (o ≡ None)
known-or None = inr refl
known-or (Some x) = inl refl

none-same : {X : Type 0} (o p : Option X) → is_some o ≡ is_some p → p ≡ None → o ≡ None
none-same None p same none = refl
none-same (Some x) p same none = absurd (true≢false (same ∙ ap is_some none))

module _ (root : RootTiles) (r : Rectangle) (f : ℕ → ℕ → ℕ → ℕ) (n : ℕ) (s0 s2 : ChainState) (entries : List (Tile × ℕ)) (makes : Makes root r f n s0 s2 entries) where
  first : HeldTiles
  first = bytes_in s0.held root.tiles.put

  owns : Owns s2.held (values_of entries ++ root_names root)
  owns =
      owns-fewer s2.held (root_names root ++ values_of entries) (values_of entries ++ root_names root)
      (λ q. omega (arith, times-append (root_names root) (values_of entries) q, times-append (values_of entries) (root_names root) q)) makes.owned

  -- what was made is given up
  module _ (new : Held) (respects : Respects s2.held new (values_of entries) []) where
    pub given-up-over : IsRootOver root new
    given-up-over = root-beside root s2.held new (values_of entries) [] respects owns makes.over

    pub given-up-image : root_image root new ≡ root_image root s0.held
    given-up-image =
        where_exposed new.content s0.held.content _ _ (respects.exposed ∙ makes.others.exposed)
        (held_image-same root.box root.tiles.format (bytes_in s0.held root.tiles.put) (bytes_in new root.tiles.put)
        (λ tile. bytes-beside s2.held new (values_of entries) [] respects root.tiles owns tile ∙ makes.bytes tile))

    pub given-up-others : Respects s0.held new (root_names root) (root_names root)
    given-up-others =
        respects-both s0.held s2.held (root_names root) (root_names root ++ values_of entries) makes.others new (root_names root)
        (respects-beside s2.held new (values_of entries) [] respects (root_names root ++ values_of entries) (root_names root) (root_names root)
        (λ q. omega (arith, times-append (root_names root) (values_of entries) q)) (λ q. omega arith))

  -- what was made is the root's
  module _ (tiles : LevelTiles) (new : Held) (format : tiles.format ≡ root.tiles.format)
      (bytes : (tile : Tile) → bytes_in new tiles.put tile ≡ tiles_with (bytes_in s2.held root.tiles.put) (tiles_in s2.held entries) tile)
      (exposed : is_some new.content ≡ is_some s2.held.content) (over : IsRootOver root s0.held) (inside : Includes root.box r) (all : HasAll r entries) where
    later-is : (tile : Tile) → bytes_in new tiles.put tile ≡ tiles_with (bytes_in s0.held root.tiles.put) (tiles_in s2.held entries) tile
    later-is tile = bytes tile ∙ tiles_with-same (bytes_in s2.held root.tiles.put) (bytes_in s0.held root.tiles.put) (tiles_in s2.held entries) makes.bytes tile

    cases : IsSome s0.held.content → (tile : Tile)
        → IsPutOr (IsPainted root.tiles.format (bytes_in s0.held root.tiles.put) r f) (bytes_in s0.held root.tiles.put) (tiles_in s2.held entries) (bytes_in new tiles.put) tile
    cases known tile =
        subst (λ (o : Option (List ℕ)). IsSomeAnd o (IsPainted root.tiles.format (bytes_in s0.held root.tiles.put) r f tile)
        ⊎ ((o ≡ bytes_in s0.held root.tiles.put tile) × ¬ Contains (keys_of (tiles_in s2.held entries)) tile)) (sym (later-is tile))
        (put-or (IsPainted root.tiles.format (bytes_in s0.held root.tiles.put) r f) (bytes_in s0.held root.tiles.put) (tiles_in s2.held entries) (makes.painted known) tile)

    among : (tile : Tile) → Meets tile r → Contains (keys_of (tiles_in s2.held entries)) tile
    among tile meets = subst (λ (ks : List Tile). Contains ks tile) (sym (keys-shown s2.held entries)) (all tile meets)

    pub switched-image : root_image (record { box = root.box; tiles = tiles }) new ≡ option_map (λ image. painted image r f) (root_image root s0.held)
    switched-image =
        mapped-known new.content s0.held.content _ _ (λ image. painted image r f) (exposed ∙ makes.others.exposed)
        (λ known.
        ap (λ (g : Format). held_image root.box g (bytes_in new tiles.put)) format
        ∙ image-written root.box r root.tiles.format f (bytes_in s0.held root.tiles.put) (bytes_in new tiles.put) (tiles_in s2.held entries) inside over.zero (cases known) among)

    zero-switched : AreZeroAround root.box tiles.format (bytes_in new tiles.put)
    zero-switched = elim (known-or s0.held.content) [
      | inl known ↦ subst (λ (g : Format). AreZeroAround root.box g (bytes_in new tiles.put)) (sym format)
          (zero-written root.box r root.tiles.format f (bytes_in s0.held root.tiles.put) (bytes_in new tiles.put) (tiles_in s2.held entries) inside over.zero (cases known) among)
      | inr none ↦ λ tile. subst (λ (o : Option (List ℕ)). IfSome o (AreZeroOutside root.box tiles.format tile))
          (sym (none-known new tiles.put tile (none-same new.content s0.held.content (exposed ∙ makes.others.exposed) none))) tt
    ]

    pub switched-over : IsOver tiles new → positions tiles ≡ positions_with (positions root.tiles) (keys_of entries)
        → IsRootOver (record { box = root.box; tiles = tiles }) new
    switched-over table is = record {
      table = table;
      rectangle = over.rectangle;
      limits = over.limits;
      meeting = λ tile there.
          elim (positions-cases (positions root.tiles) (keys_of entries) tile (subst (λ (ts : List Tile). Contains ts tile) is there)) [
            | inl before ↦ over.meeting tile before
            | inr made ↦
                let meets = makes.meeting tile made in
                (meets.0, meets.1, inside meets.0 meets.1 meets.2, meets.3)
          ];
      zero = zero-switched;
    }

-- ---- what a call leaves of a root that it wasn't handed

pub image-beside : (root : RootTiles) (old new : Held) (before after : List ℕ) → Respects old new before after → Owns old (before ++ root_names root)
    → root_image root new ≡ root_image root old
image-beside root old new before after respects owns =
    where_exposed new.content old.content _ _ respects.exposed
    (held_image-same root.box root.tiles.format (bytes_in old root.tiles.put) (bytes_in new root.tiles.put)
    (bytes-beside old new before after respects root.tiles owns))

-- ---- roots of no tile

pub blank-over : (box : Rectangle) (format : Format) (held : Held) → IsOver (record { format = format; put = []; levels = [] }) held → IsRectangle box → InLimits box
    → IsRootOver (empty_root box format) held
blank-over box format held table is limits = record {
  table = table;
  rectangle = is;
  limits = limits;
  meeting = λ tile there. absurd (none-in tile there);
  zero = λ tile. tt;
}

pub blank-image : (box : Rectangle) (format : Format) (held : Held) → root_image (empty_root box format) held ≡ option_map (λ _. blank box format) held.content
blank-image box format held =
    where_exposed held.content held.content _ _ refl
    (generated_equal box format (held_pixels format (bytes_in held [])) (λ u v c. 0) (λ u v c there known. refl))
