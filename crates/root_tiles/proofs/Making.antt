-- Painted tiles that are made beside a root, one after another.
use Rattle.std.proofs.Common.{◌≡◌, ℕ, ◌+◌, ◌-◌, ◌≤◌, ◌⊎◌, inl, inr, List, [], ◌∷◌, ◌++◌, Contains, length, Option, Some, None, cond, refl, sym, ap, subst, ◌∙◌, arith}
use Rattle.std.specs.Prelude.{IfSome, IsSome, IsSomeAnd}
use Rattle.std.specs.Map.{keys_of, values_of}
use Rattle.std.specs.Option.{option_map_or}
use Rattle.chain_owners.specs.Counts.{Grows}
use Rattle.chain_owners.specs.Held.{Held}
use Rattle.chain_owners.specs.Owners.{Owns, Respects}
use Rattle.chain_owners.proofs.Growing.{grows-both, grows-more, grows-same}
use Rattle.chain_owners.proofs.Ownership.{others-own, owns-fewer, respects-beside, respects-both, respects-same, times-append}
use Rattle.level_tables.specs.LevelTiles.{bytes_in}
use Rattle.level_tables.specs.NewTiles.{AreNewTiles, tiles_in}
use Rattle.level_tables.proofs.Frames.{bytes-beside, over-beside}
use Rattle.level_tables.proofs.SwitchingAll.{made-none}
use Rattle.model_images.specs.FromRaw.{pixels_from_raw}
use Rattle.model_images.specs.Image.{is_inside}
use Rattle.model_images.specs.Tiles.{AreZeroAround, AreZeroOutside}
use Rattle.plane_rect.specs.Rectangle.{Includes, IsRectangle, Rectangle}
use Rattle.plane_rect.specs.Tile.{IsWhole, Meets, Tile, tile_at, tile_square}
use Rattle.plane_rect.proofs.Lists.{Contains-cases, Contains-first, Contains-later}
use Rattle.root_tiles.specs.Chains.{ChainState, IsRead}
use Rattle.root_tiles.specs.Made.{IsPaintedOrThere, Makes, MakesMore}
use Rattle.root_tiles.specs.Paints.{IsPainted}
use Rattle.root_tiles.specs.Roots.{IsRootOver, RootTiles, root_names}

pub none-in : {X : Type 0} (x : X) → Contains [] x → ⊥
none-in x h = omega (arith, h.1)

-- an element of a list that is one longer
last-cases : {X : Type 0} (xs : List X) (x y : X) → Contains (xs ++ x ∷ []) y → Contains xs y ⊎ (x ≡ y)
last-cases [] x y h = elim (Contains-cases x [] y h) [ inl is ↦ inr is | inr none ↦ absurd (none-in y none) ]
last-cases (first ∷ xs) x y h = elim (Contains-cases first (xs ++ x ∷ []) y h) [
  | inl is ↦ inl (Contains-first first xs y is)
  | inr later ↦ elim (last-cases xs x y later) [
    | inl there ↦ inl (Contains-later first xs y there)
    | inr is ↦ inr is
  ]
]

last-there : {X : Type 0} (xs : List X) (x y : X) → Contains xs y ⊎ (x ≡ y) → Contains (xs ++ x ∷ []) y
last-there [] x y (inl none) = absurd (none-in y none)
last-there [] x y (inr is) = Contains-first x [] y is
last-there (first ∷ xs) x y (inl there) = elim (Contains-cases first xs y there) [
  | inl is ↦ Contains-first first (xs ++ x ∷ []) y is
  | inr later ↦ Contains-later first (xs ++ x ∷ []) y (last-there xs x y (inl later))
]
last-there (first ∷ xs) x y (inr is) = Contains-later first (xs ++ x ∷ []) y (last-there xs x y (inr is))

keys-last : (entries : List (Tile × ℕ)) (e : Tile × ℕ) → keys_of (entries ++ e ∷ []) ≡ keys_of entries ++ e.0 ∷ []
keys-last [] e = refl
keys-last (first ∷ entries) e = ap (λ (ks : List Tile). first.0 ∷ ks) (keys-last entries e)

pub length-last : (entries : List (Tile × ℕ)) (e : Tile × ℕ) → length (entries ++ e ∷ []) ≡ length entries + 1
length-last [] e = refl
length-last (first ∷ entries) e = omega (arith, length-last entries e)

pub more-none : (root : RootTiles) (part r : Rectangle) (f : ℕ → ℕ → ℕ → ℕ) (state : ChainState) (entries : List (Tile × ℕ))
    → AreNewTiles root.tiles.format entries state.held → Owns state.held (root_names root ++ values_of entries) → IsRootOver root state.held
    → MakesMore root part r f 0 state state entries entries
more-none root part r f state entries made owned over = record {
  made = made;
  owned = owned;
  others = respects-same state.held (root_names root ++ values_of entries);
  over = over;
  bytes = λ tile. refl;
  painted = λ exposed tile bytes there. inl there;
  meeting = λ tile there. inl there;
  kept = λ tile there. there;
  grows = grows-same state.counts;
  loans = refl;
  valid = λ is. is;
}

-- a tile that meets a part of a box is within the plane
pub whole-met : (box r : Rectangle) (tile : Tile) → IsRectangle box → Includes box r → Meets tile r → IsWhole tile
whole-met box r tile is inside meets =
    let there = inside meets.0 meets.1 meets.2 in
    (omega (arith, ap (λ (t : Tile). t.column) meets.3, there.column, is.columns), omega (arith, ap (λ (t : Tile). t.row) meets.3, there.row, is.rows))

pub keys-more : (entries more : List (Tile × ℕ)) (at : Tile) (name : ℕ) → more ≡ entries ++ (at, name) ∷ [] → (tile : Tile)
    → Contains (keys_of entries) tile ⊎ (at ≡ tile) → Contains (keys_of more) tile
keys-more entries more at name is tile there =
    subst (λ (ks : List Tile). Contains ks tile) (sym (ap keys_of is ∙ keys-last entries (at, name))) (last-there (keys_of entries) at tile there)

-- a root that wasn't handed to a call
module _ (root : RootTiles) (old new : Held) (before after : List ℕ) (respects : Respects old new before after)
    (owns : Owns old (before ++ root_names root)) where
  zero-same : (same : (tile : Tile) → bytes_in new root.tiles.put tile ≡ bytes_in old root.tiles.put tile)
      → AreZeroAround root.box root.tiles.format (bytes_in old root.tiles.put) → AreZeroAround root.box root.tiles.format (bytes_in new root.tiles.put)
  zero-same same around tile = subst (λ (o : Option (List ℕ)). IfSome o (AreZeroOutside root.box root.tiles.format tile)) (sym (same tile)) (around tile)

  pub root-beside : IsRootOver root old → IsRootOver root new
  root-beside over = record {
    table = over-beside old new before after respects root.tiles owns over.table;
    rectangle = over.rectangle;
    limits = over.limits;
    meeting = over.meeting;
    zero = zero-same (bytes-beside old new before after respects root.tiles owns) over.zero;
  }

-- what changes no name leaves what was made
pub more-same : (root : RootTiles) (part r : Rectangle) (f : ℕ → ℕ → ℕ → ℕ) (added more : ℕ) (old now new : ChainState) (before after : List (Tile × ℕ))
    → MakesMore root part r f added old now before after → new.held ≡ now.held → Grows more now.counts new.counts → new.loans ≡ now.loans → (now.valid → new.valid)
    → MakesMore root part r f (added + more) old new before after
more-same root part r f added more old now new before after makes held counts loans valid =
    let same : now.held ≡ new.held = sym held in record {
      made = subst (AreNewTiles root.tiles.format after) same makes.made;
      owned = subst (λ (h : Held). Owns h (root_names root ++ values_of after)) same makes.owned;
      others = subst (λ (h : Held). Respects old.held h (root_names root ++ values_of before) (root_names root ++ values_of after)) same makes.others;
      over = subst (IsRootOver root) same makes.over;
      bytes = λ tile. ap (λ (h : Held). bytes_in h root.tiles.put tile) held ∙ makes.bytes tile;
      painted = λ exposed tile bytes there. makes.painted exposed tile bytes
          (subst (λ (h : Held). Contains (tiles_in h after) (tile, bytes)) held there);
      meeting = makes.meeting;
      kept = makes.kept;
      grows = grows-both added more old.counts now.counts new.counts makes.grows counts;
      loans = loans ∙ makes.loans;
      valid = λ is. valid (makes.valid is);
    }

pub more-read : (root : RootTiles) (part r : Rectangle) (f : ℕ → ℕ → ℕ → ℕ) (added : ℕ) (old now new : ChainState) (before after : List (Tile × ℕ))
    → MakesMore root part r f added old now before after → IsRead now new → MakesMore root part r f added old new before after
more-read root part r f added old now new before after makes read =
    let none : added + 0 ≡ added = omega arith in
    subst (λ n. MakesMore root part r f n old new before after) none (more-same root part r f added 0 old now new before after makes read.held read.counts read.loans read.valid)

pub more-raise : (root : RootTiles) (part r : Rectangle) (f : ℕ → ℕ → ℕ → ℕ) (added most : ℕ) (old now : ChainState) (before after : List (Tile × ℕ))
    → added ≤ most → MakesMore root part r f added old now before after → MakesMore root part r f most old now before after
more-raise root part r f added most old now before after less makes =
    let sum : added + (most - added) ≡ most = omega (arith, less) in
    subst (λ n. MakesMore root part r f n old now before after) sum
    (more-same root part r f added (most - added) old now now before after makes refl
    (grows-more 0 (most - added) now.counts now.counts (omega arith) (grows-same now.counts)) refl (λ is. is))

-- what is painted over the tiles as they are is painted over those that were there
pub painted-first : (root : RootTiles) (r : Rectangle) (f : ℕ → ℕ → ℕ → ℕ) (old now : Held) (at : Tile) (bytes : List ℕ)
    → ((tile : Tile) → bytes_in now root.tiles.put tile ≡ bytes_in old root.tiles.put tile)
    → IsPainted root.tiles.format (bytes_in now root.tiles.put) r f at bytes → IsPainted root.tiles.format (bytes_in old root.tiles.put) r f at bytes
painted-first root r f old now at bytes same painted = λ u v c there known.
    painted u v c there known
    ∙ ap (λ (n : ℕ). cond (is_inside u v r) (f u v c) n)
    (ap (λ (o : Option (List ℕ)). option_map_or (λ bytes. pixels_from_raw (tile_square (tile_at u v)) root.tiles.format bytes u v c) o 0) (same (tile_at u v)))

-- a tile that meets the part is made, painted
module _ (root : RootTiles) (part r : Rectangle) (f : ℕ → ℕ → ℕ → ℕ) (added : ℕ) (old now new : ChainState) (before entries more : List (Tile × ℕ))
    (at : Tile) (bytes : List ℕ) (name : ℕ) (is : more ≡ entries ++ (at, name) ∷ []) (makes : MakesMore root part r f added old now before entries)
    (respects : Respects now.held new.held (values_of entries) (values_of more)) (meets : Meets at part) where
  owns : Owns now.held (values_of entries ++ root_names root)
  owns =
      owns-fewer now.held (root_names root ++ values_of entries) (values_of entries ++ root_names root)
      (λ q. omega (arith, times-append (root_names root) (values_of entries) q, times-append (values_of entries) (root_names root) q)) makes.owned

  owned-next : Owns new.held (root_names root ++ values_of more)
  owned-next =
      owns-fewer new.held (values_of more ++ root_names root) (root_names root ++ values_of more)
      (λ q. omega (arith, times-append (root_names root) (values_of more) q, times-append (values_of more) (root_names root) q))
      (others-own now.held new.held (values_of entries) (values_of more) respects (root_names root) owns)

  others-next : Respects old.held new.held (root_names root ++ values_of before) (root_names root ++ values_of more)
  others-next =
      respects-both old.held now.held (root_names root ++ values_of before) (root_names root ++ values_of entries) makes.others new.held (root_names root ++ values_of more)
      (respects-beside now.held new.held (values_of entries) (values_of more) respects (root_names root ++ values_of entries) (root_names root ++ values_of more) (root_names root)
      (λ q. omega (arith, times-append (root_names root) (values_of entries) q)) (λ q. omega (arith, times-append (root_names root) (values_of more) q)))

  painted-next : IsSome old.held.content → tiles_in new.held more ≡ tiles_in now.held entries ++ (at, Some bytes) ∷ []
      → IsPainted root.tiles.format (bytes_in old.held root.tiles.put) r f at bytes
      → (tile : Tile) (found : Option (List ℕ)) → Contains (tiles_in new.held more) (tile, found)
      → IsPaintedOrThere root.tiles.format (bytes_in old.held root.tiles.put) part r f (tiles_in old.held before) tile found
  painted-next exposed tiles painted tile found there =
      elim (last-cases (tiles_in now.held entries) (at, Some bytes) (tile, found) (subst (λ (es : List (Tile × Option (List ℕ))). Contains es (tile, found)) tiles there)) [
        | inl first ↦ makes.painted exposed tile found first
        | inr here ↦ subst (λ (e : Tile × Option (List ℕ)). IsPaintedOrThere root.tiles.format (bytes_in old.held root.tiles.put) part r f (tiles_in old.held before) e.0 e.1)
            here (inr (meets, painted))
      ]

  meeting-next : (tile : Tile) → Contains (keys_of more) tile → Contains (keys_of before) tile ⊎ Meets tile part
  meeting-next tile there =
      elim (last-cases (keys_of entries) at tile (subst (λ (ks : List Tile). Contains ks tile) (ap keys_of is ∙ keys-last entries (at, name)) there)) [
        | inl first ↦ makes.meeting tile first
        | inr here ↦ inr (subst (λ (t : Tile). Meets t part) here meets)
      ]

  pub more-next : AreNewTiles root.tiles.format more new.held
      → (IsSome now.held.content → tiles_in new.held more ≡ tiles_in now.held entries ++ (at, Some bytes) ∷ [])
      → (IsSome old.held.content → IsPainted root.tiles.format (bytes_in old.held root.tiles.put) r f at bytes)
      → Grows 1 now.counts new.counts → new.loans ≡ now.loans → (now.valid → new.valid) → MakesMore root part r f (added + 1) old new before more
  more-next made tiles painted counts loans valid = record {
    made = made;
    owned = owned-next;
    others = others-next;
    over = root-beside root now.held new.held (values_of entries) (values_of more) respects owns makes.over;
    bytes = λ tile. bytes-beside now.held new.held (values_of entries) (values_of more) respects root.tiles owns tile ∙ makes.bytes tile;
    painted = λ exposed. painted-next exposed (tiles (makes.others.exposed ∙ exposed)) (painted exposed);
    meeting = meeting-next;
    kept = λ tile there. keys-more entries more at name is tile (inl (makes.kept tile there));
    grows = grows-both added 1 old.counts now.counts new.counts makes.grows counts;
    loans = loans ∙ makes.loans;
    valid = λ is. valid (makes.valid is);
  }

-- nothing is made beside a root yet
pub makes-none : (root : RootTiles) (r : Rectangle) (f : ℕ → ℕ → ℕ → ℕ) (state : ChainState) (entries : List (Tile × ℕ)) → entries ≡ []
    → IsRootOver root state.held → Makes root r f 0 state state entries
makes-none root r f state entries none over =
    let P : List (Tile × ℕ) → Type 0 = λ es. Makes root r f 0 state state es in
    subst P (sym none) (record {
      made = made-none root.tiles.format state.held;
      owned = owns-fewer state.held (root_names root) (root_names root ++ []) (λ q. omega (arith, times-append (root_names root) [] q)) over.table.owned;
      others = respects-beside state.held state.held [] [] (respects-same state.held []) (root_names root) (root_names root ++ []) (root_names root)
          (λ q. omega arith) (λ q. omega (arith, times-append (root_names root) [] q));
      over = over;
      bytes = λ tile. refl;
      painted = λ exposed tile bytes there. absurd (none-in (tile, bytes) there);
      meeting = λ tile there. absurd (none-in tile there);
      grows = grows-same state.counts;
      loans = refl;
      valid = λ is. is;
    })

-- tiles of a part are made after others, as they are painted over the whole
module _ (root : RootTiles) (whole part r : Rectangle) (f g : ℕ → ℕ → ℕ → ℕ) (added more : ℕ) (old now new : ChainState) (before after : List (Tile × ℕ))
    (makes : Makes root whole f added old now before) (next : MakesMore root part r g more now new before after) (inside : Includes whole part)
    (painted : (tile : Tile) (bytes : List ℕ) → Meets tile part → IsPainted root.tiles.format (bytes_in old.held root.tiles.put) r g tile bytes
    → IsPainted root.tiles.format (bytes_in old.held root.tiles.put) whole f tile bytes) where
  painted-whole : (tile : Tile) (found : Option (List ℕ)) → Meets tile part → IsSomeAnd found (IsPainted root.tiles.format (bytes_in now.held root.tiles.put) r g tile)
      → IsSomeAnd found (IsPainted root.tiles.format (bytes_in old.held root.tiles.put) whole f tile)
  painted-whole tile None meets is = absurd is
  painted-whole tile (Some bytes) meets is = painted tile bytes meets (painted-first root r g old.held now.held tile bytes makes.bytes is)

  pub makes-then : Makes root whole f (added + more) old new after
  makes-then = record {
    made = next.made;
    owned = next.owned;
    others = respects-both old.held now.held (root_names root) (root_names root ++ values_of before) makes.others new.held (root_names root ++ values_of after) next.others;
    over = next.over;
    bytes = λ tile. next.bytes tile ∙ makes.bytes tile;
    painted = λ exposed tile bytes there. elim (next.painted (makes.others.exposed ∙ exposed) tile bytes there) [
      | inl first ↦ makes.painted exposed tile bytes first
      | inr here ↦ painted-whole tile bytes here.0 here.1
    ];
    meeting = λ tile there. elim (next.meeting tile there) [
      | inl first ↦ makes.meeting tile first
      | inr meets ↦ (meets.0, meets.1, inside meets.0 meets.1 meets.2, meets.3)
    ];
    grows = grows-both added more old.counts now.counts new.counts makes.grows next.grows;
    loans = next.loans ∙ makes.loans;
    valid = λ is. next.valid (makes.valid is);
  }

-- all of a rectangle at once
pub makes-all : (root : RootTiles) (r : Rectangle) (f : ℕ → ℕ → ℕ → ℕ) (added : ℕ) (old new : ChainState) (before after : List (Tile × ℕ)) → before ≡ []
    → IsRootOver root old.held → MakesMore root r r f added old new before after → Makes root r f added old new after
makes-all root r f added old new before after none over next =
    let sum : 0 + added ≡ added = omega arith in
    subst (λ n. Makes root r f n old new after) sum
    (makes-then root r r r f f 0 added old old new before after (makes-none root r f old before none over) next (λ u v there. there) (λ tile bytes meets is. is))
