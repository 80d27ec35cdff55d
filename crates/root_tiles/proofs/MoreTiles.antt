-- Reads of levels of a root, one after another.
use Rattle.std.proofs.Common.{◌≡◌, ℕ, ◌+◌, ◌-◌, ◌≤◌, List, Contains, Option, Some, None, refl, sym, ap, subst, ◌∙◌, arith}
use Rattle.std.specs.Prelude.{IfSome}
use Rattle.std.specs.Map.{keys_of}
use Rattle.std.specs.Option.{option_map}
use Rattle.chain_owners.specs.Counts.{Counts, Grows}
use Rattle.chain_owners.specs.Held.{Held}
use Rattle.chain_owners.specs.Owners.{Respects}
use Rattle.chain_owners.proofs.Ownership.{respects-both, respects-same}
use Rattle.level_tables.specs.LevelTiles.{LevelTiles, bytes_in, hull_of, image_of, positions}
use Rattle.level_tables.specs.Over.{IsTileOfLevel}
use Rattle.level_tables.specs.Steps.{HoldsMore, level_count, names_with_levels, state}
use Rattle.level_tables.proofs.Changes.{among-put}
use Rattle.level_tables.proofs.Counting.{levels-most}
use Rattle.level_tables.proofs.Frames.{where_exposed}
use Rattle.chain_owners.proofs.Growing.{continues-both}
use Rattle.level_tables.proofs.Keeping.{kept-format, kept-put}
use Rattle.model_images.specs.Level.{level}
use Rattle.model_images.specs.TileCounts.{level_tiles}
use Rattle.model_images.specs.Tiles.{AreZeroAround, AreZeroOutside, held_image, hull_of_tiles, put_image}
use Rattle.model_images.proofs.Agreeing.{everywhere-raw}
use Rattle.model_images.proofs.AgreeingLevels.{levels-agree}
use Rattle.model_images.proofs.HeldTiles.{boxes-agree}
use Rattle.model_images.proofs.PutTiles.{around-hull, hull-is}
use Rattle.pixel_formats.specs.declared.format.Format.{Format}
use Rattle.plane_rect.specs.Tile.{Tile, tile_square}
use Rattle.chain_owners.specs.Cause.{HasSwapCause}
use Rattle.chain_owners.specs.declared.swap_refused.SwapRefused.{SwapRefused}
use Rattle.chain_owners.proofs.Causes.{cause-before, cause-more}
use Rattle.root_tiles.specs.Growth.{HoldsMoreTiles, RootState, names_with_root_levels, root_state}
use Rattle.root_tiles.specs.Roots.{IsRootOver, RootTiles, root_image, root_names}
use Rattle.root_tiles.proofs.HullTiles.{hull-levels}
use Rattle.root_tiles.proofs.Written.{held_image-same}

-- ---- the levels of a table are those of its root

pub root-level : (root : RootTiles) (held : Held) → IsRootOver root held → (z : ℕ) (at : Tile) (bytes : List ℕ)
    → IsTileOfLevel (image_of root.tiles held) z at bytes → IsTileOfLevel (root_image root held) z at bytes
root-level root held over z at bytes = of held.content
  where
    of : {X : Type 0} (content : Option X)
        → IsTileOfLevel (option_map (λ (x : X). put_image root.tiles.format (positions root.tiles) (bytes_in held root.tiles.put)) content) z at bytes
        → IsTileOfLevel (option_map (λ (x : X). held_image root.box root.tiles.format (bytes_in held root.tiles.put)) content) z at bytes
    of None is = tt
    of (Some x) is =
        let shown = bytes_in held root.tiles.put in
        let hull = hull_of root.tiles in
        is
        ∙ everywhere-raw (level (held_image hull root.tiles.format shown) z) (level (held_image root.box root.tiles.format shown) z) (tile_square at)
        (levels-agree (held_image hull root.tiles.format shown) (held_image root.box root.tiles.format shown) z (hull-is (positions root.tiles)) over.rectangle
        (boxes-agree root.tiles.format shown hull root.box
        (around-hull root.tiles.format (positions root.tiles) shown (λ tile some. among-put root.tiles held over.table.shape tile some)) over.zero))

-- ---- what a call of the table leaves of the root

fewer-names : (before after hull box held more : ℕ) → after + (hull - more) ≤ before + (hull - held) → held ≤ hull → more ≤ hull → hull ≤ box
    → after + (box - more) ≤ before + (box - held)
fewer-names before after hull box held more few most most' wide = omega (arith, few, most, most', wide)

module _ (z : ℕ) (root : RootTiles) (tiles : LevelTiles) (held held' : Held) (counts counts' : Counts) (over : IsRootOver root held)
    (more : HoldsMore z (state root.tiles held counts) (state tiles held' counts')) where
  format-kept : tiles.format ≡ root.tiles.format
  format-kept = kept-format (state root.tiles held counts) (state tiles held' counts') more.kept

  positions-kept : positions tiles ≡ positions root.tiles
  positions-kept = ap (λ (put : List (Tile × ℕ)). keys_of put) (kept-put (state root.tiles held counts) (state tiles held' counts') more.kept)

  image-kept : root_image (record { box = root.box; tiles = tiles }) held' ≡ root_image root held
  image-kept =
      where_exposed held'.content held.content _ _ more.kept.others.exposed
      (ap (λ (f : Format). held_image root.box f (bytes_in held' tiles.put)) format-kept
      ∙ held_image-same root.box root.tiles.format (bytes_in held root.tiles.put) (bytes_in held' tiles.put) more.kept.bytes)

  zero-kept : AreZeroAround root.box tiles.format (bytes_in held' tiles.put)
  zero-kept tile =
      let P : Option (List ℕ) → Type 0 = λ o. IfSome o (AreZeroOutside root.box root.tiles.format tile) in
      let Q : Format → Type 0 = λ f. IfSome (bytes_in held' tiles.put tile) (AreZeroOutside root.box f tile) in
      subst Q (sym format-kept) (subst P (sym (more.kept.bytes tile)) (over.zero tile))

  over-kept : IsRootOver (record { box = root.box; tiles = tiles }) held'
  over-kept = record {
    table = more.kept.over;
    rectangle = over.rectangle;
    limits = over.limits;
    meeting = λ tile there. over.meeting tile (subst (λ (ts : List Tile). Contains ts tile) positions-kept there);
    zero = zero-kept;
  }

  names-kept : (top : ℕ) → z ≤ top
      → counts'.names + (level_tiles root.box top - level_count top tiles.levels) ≤ counts.names + (level_tiles root.box top - level_count top root.tiles.levels)
  names-kept top low =
      let same : hull_of tiles ≡ hull_of root.tiles = ap (λ (ts : List Tile). hull_of_tiles ts) positions-kept in
      let most : level_count top tiles.levels ≤ level_tiles (hull_of root.tiles) top =
      subst (λ h. level_count top tiles.levels ≤ level_tiles h top) same (levels-most tiles more.kept.over.shape top) in
      let few : counts'.names + (level_tiles (hull_of root.tiles) top - level_count top tiles.levels)
      ≤ counts.names + (level_tiles (hull_of root.tiles) top - level_count top root.tiles.levels) =
      subst (λ h. counts'.names + (level_tiles h top - level_count top tiles.levels)
      ≤ counts.names + (level_tiles (hull_of root.tiles) top - level_count top root.tiles.levels)) same (more.names top low) in
      fewer-names counts.names counts'.names (level_tiles (hull_of root.tiles) top) (level_tiles root.box top)
      (level_count top root.tiles.levels) (level_count top tiles.levels) few (levels-most root.tiles over.table.shape top) most
      (hull-levels root.box (positions root.tiles) top over.rectangle over.meeting)

  pub root-holds : HoldsMoreTiles z (root_state root held counts) (root_state (record { box = root.box; tiles = tiles }) held' counts')
  root-holds = record {
    root = ap (λ (t : LevelTiles). record root { tiles = t }) more.kept.put;
    image = image-kept;
    over = over-kept;
    others = more.kept.others;
    counts = more.kept.counts;
    names = names-kept;
  }

-- ---- one call after another

pub read-holds : (z : ℕ) (root : RootTiles) (old new : Held) (first last : Counts) → IsRootOver root old → new ≡ old → Grows 0 first last
    → HoldsMoreTiles z (root_state root old first) (root_state root new last)
read-holds z root old new first last over same grows = record {
  root = refl;
  image = ap (root_image root) same;
  over = subst (IsRootOver root) (sym same) over;
  others = subst (λ (h : Held). Respects old h (root_names root) (root_names root)) (sym same) (respects-same old (root_names root));
  counts = grows.continues;
  names = λ top low. omega (arith, grows.names);
}

pub tiles-both : (z : ℕ) (a b c : RootState) → HoldsMoreTiles z a b → HoldsMoreTiles z b c → HoldsMoreTiles z a c
tiles-both z a b c first second = record {
  root = second.root ∙ ap (λ (r : RootTiles). record r { tiles = record r.tiles { levels = c.root.tiles.levels } }) first.root;
  image = second.image ∙ first.image;
  over = second.over;
  others = respects-both a.held b.held (root_names a.root) (root_names b.root) first.others c.held (root_names c.root) second.others;
  counts = continues-both a.counts b.counts c.counts first.counts second.counts;
  names = λ top low. omega (arith, first.names top low, second.names top low);
}

pub tiles-raise : (z top : ℕ) (a b : RootState) → z ≤ top → HoldsMoreTiles z a b → HoldsMoreTiles top a b
tiles-raise z top a b low is = record {
  root = is.root;
  image = is.image;
  over = is.over;
  others = is.others;
  counts = is.counts;
  names = λ n high. is.names n (omega (arith, low, high));
}

pub tiles-names : (z : ℕ) (a b : RootState) → HoldsMoreTiles z a b → b.counts.names ≤ a.counts.names + level_tiles a.root.box z
tiles-names z a b is = let few = is.names z (omega arith) in omega (arith, few)

-- a refusal after such calls is excused as if there had been none
pub cause-later : (z : ℕ) (a b c : RootState) → HoldsMoreTiles z a b → (top : ℕ) → z ≤ top → (refused : SwapRefused)
    → HasSwapCause b.counts c.counts (names_with_root_levels top b) refused
    → HasSwapCause a.counts c.counts (names_with_root_levels top a) refused
cause-later z a b c more top low refused cause =
    let grows : Grows b.counts.names a.counts b.counts = record { continues = more.counts; names = omega arith } in
    cause-before a.counts b.counts c.counts b.counts.names (names_with_root_levels top a) refused grows
    (cause-more b.counts c.counts (names_with_root_levels top b) (names_with_root_levels top a) refused (more.names top low) cause)

-- the same number without what is held already
pub cause-plain : (z : ℕ) (a b : RootState) (refused : SwapRefused) → HasSwapCause a.counts b.counts (names_with_root_levels z a) refused
    → HasSwapCause a.counts b.counts (a.counts.names + level_tiles a.root.box z) refused
cause-plain z a b refused cause =
    cause-more a.counts b.counts (names_with_root_levels z a) (a.counts.names + level_tiles a.root.box z) refused (omega arith) cause

-- a refusal of the table is excused by the tiles of the box
pub box-cause : (root : RootTiles) (held : Held) (old new : Counts) (top : ℕ) (refused : SwapRefused) → IsRootOver root held
    → HasSwapCause old new (names_with_levels top (state root.tiles held old)) refused
    → HasSwapCause old new (names_with_root_levels top (root_state root held old)) refused
box-cause root held old new top refused over cause =
    let wide = hull-levels root.box (positions root.tiles) top over.rectangle over.meeting in
    cause-more old new (names_with_levels top (state root.tiles held old)) (names_with_root_levels top (root_state root held old)) refused (omega (arith, wide)) cause

pub box-cause-plain : (root : RootTiles) (held : Held) (old new : Counts) (top : ℕ) (refused : SwapRefused) → IsRootOver root held
    → HasSwapCause old new (names_with_levels top (state root.tiles held old)) refused
    → HasSwapCause old new (old.names + level_tiles root.box top) refused
box-cause-plain root held old new top refused over cause =
    let wide = hull-levels root.box (positions root.tiles) top over.rectangle over.meeting in
    cause-more old new (names_with_levels top (state root.tiles held old)) (old.names + level_tiles root.box top) refused (omega (arith, wide)) cause
