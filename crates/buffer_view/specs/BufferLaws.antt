-- What holds of all tables of buffers over chains. These laws are here and not among the proofs, since buffers are declared
-- with them.
use Rattle.std.specs.Prelude.{◌≡◌, ℕ, suc, ◌<◌, All, List, [], ◌∷◌, ◌++◌, map, Option, Some, None, IfSome, IsSome, is_some}
use Rattle.std.specs.Option.{option_map, option_map_or}
use Rattle.std.proofs.Common.{refl, sym, ap, subst, ◌∙◌, true≢false, arith}
use Rattle.std.proofs.lemmas.List.Elements.{All-cons, All-nil}
use Rattle.chain_owners.specs.Held.{Held}
use Rattle.chain_owners.specs.Owners.{IsFramed, Owns, Unchanged, times}
use Rattle.chain_owners.proofs.Ownership.{owns-fewer, times-append}
use Rattle.level_tables.specs.LevelTiles.{bytes_in}
use Rattle.level_tables.proofs.Frames.{bytes-framed, over-framed}
use Rattle.model_buffers.specs.Layout.{TableLayout, facts_of}
use Rattle.model_buffers.specs.Table.{Table, layout_of}
use Rattle.model_graphs.specs.Facts.{AreImagesOf}
use Rattle.model_graphs.specs.Shapes.{Shape, shape_of_image}
use Rattle.model_images.specs.FromRaw.{pixels_from_raw}
use Rattle.model_images.specs.Image.{Image}
use Rattle.model_images.specs.Tiles.{AreZeroOutside, HeldTiles, held_image, held_pixels}
use Rattle.model_images.proofs.Laws.{generated_equal}
use Rattle.model_sessions.specs.Tables.{table_images}
use Rattle.model_sessions.proofs.Sources.{images_known}
use Rattle.op_contracts.specs.Sources.{AreExposed, IsFramedCondition}
use Rattle.pixel_formats.specs.declared.format.Format.{Format}
use Rattle.plane_rect.specs.Rectangle.{Rectangle}
use Rattle.plane_rect.specs.Tile.{Tile, tile_at, tile_square}
use Rattle.root_tiles.specs.Roots.{IsRootOver, RootTiles, root_names, root_shape}
use Rattle.buffer_view.specs.BufferTables.{AreBuffersOver, BufferTable, IsBufferTable, buffer_images, buffers_names, image_over, images_over, names_of_roots, table_of}

-- ---- lists

module _ {X : Type 0} (P : X → Type 0) where
  pub All-first : (x : X) (xs : List X) → All P (x ∷ xs) → P x
  All-first x xs all = all 0 x (omega arith)

  pub All-rest : (x : X) (xs : List X) → All P (x ∷ xs) → All P xs
  All-rest x xs all = λ k d below. all (suc k) d (omega (arith, below))

-- ---- roots

-- the image depends on the tiles alone
pub tiles-same : (box : Rectangle) (format : Format) (held later : HeldTiles) → ((tile : Tile) → later tile ≡ held tile) → held_image box format later ≡ held_image box format held
tiles-same box format held later same =
    generated_equal box format (held_pixels format later) (held_pixels format held)
    (λ u v c there known. ap (λ (o : Option (List ℕ)). option_map_or (λ bytes. pixels_from_raw (tile_square (tile_at u v)) format bytes u v c) o 0) (same (tile_at u v)))

-- the image of a root is the same over another chain
abbrev pub IsSameOver : Held → Held → RootTiles → Type 0
IsSameOver old new root = image_over new root ≡ image_over old root

-- names are unchanged
abbrev pub AreUnchanged : Held → Held → List ℕ → Type 0
AreUnchanged old new names = (name : ℕ) → 0 < times names name → Unchanged old new name

module _ (old new : Held) (exposed : is_some new.content ≡ is_some old.content) where
  root-framed : (root : RootTiles) → AreUnchanged old new (root_names root) → Owns new (root_names root) → IsRootOver root old → IsRootOver root new
  root-framed root unchanged owns over = record {
    table = over-framed root.tiles old new exposed unchanged over.table owns;
    rectangle = over.rectangle;
    limits = over.limits;
    meeting = over.meeting;
    zero = λ tile. subst (λ (o : Option (List ℕ)). IfSome o (AreZeroOutside root.box root.tiles.format tile))
        (sym (bytes-framed root.tiles old new exposed unchanged tile)) (over.zero tile);
  }

  unchanged-first : (root : RootTiles) (roots : List RootTiles) → AreUnchanged old new (root_names root ++ names_of_roots roots) → AreUnchanged old new (root_names root)
  unchanged-first root roots unchanged = λ q some. unchanged q (omega (arith, some, times-append (root_names root) (names_of_roots roots) q))

  unchanged-rest : (root : RootTiles) (roots : List RootTiles) → AreUnchanged old new (root_names root ++ names_of_roots roots) → AreUnchanged old new (names_of_roots roots)
  unchanged-rest root roots unchanged = λ q some. unchanged q (omega (arith, some, times-append (root_names root) (names_of_roots roots) q))

  pub images-framed : (roots : List RootTiles) → AreUnchanged old new (names_of_roots roots) → All (IsSameOver old new) roots
  images-framed [] unchanged = All-nil (IsSameOver old new)
  images-framed (root ∷ roots) unchanged =
      All-cons (IsSameOver old new) root roots
      (tiles-same root.box root.tiles.format (bytes_in old root.tiles.put) (bytes_in new root.tiles.put)
      (bytes-framed root.tiles old new exposed (unchanged-first root roots unchanged)))
      (images-framed roots (unchanged-rest root roots unchanged))

  pub roots-framed : (roots : List RootTiles) → AreUnchanged old new (names_of_roots roots) → Owns new (names_of_roots roots) → All (λ (root : RootTiles). IsRootOver root old) roots
      → All (λ (root : RootTiles). IsRootOver root new) roots
  roots-framed [] unchanged owns over = All-nil (λ (root : RootTiles). IsRootOver root new)
  roots-framed (root ∷ roots) unchanged owns over =
      All-cons (λ (root : RootTiles). IsRootOver root new) root roots
      (root-framed root (unchanged-first root roots unchanged)
      (owns-fewer new (root_names root ++ names_of_roots roots) (root_names root) (λ q. omega (arith, times-append (root_names root) (names_of_roots roots) q)) owns)
      (All-first (λ (root : RootTiles). IsRootOver root old) root roots over))
      (roots-framed roots (unchanged-rest root roots unchanged)
      (owns-fewer new (root_names root ++ names_of_roots roots) (names_of_roots roots) (λ q. omega (arith, times-append (root_names root) (names_of_roots roots) q)) owns)
      (All-rest (λ (root : RootTiles). IsRootOver root old) root roots over))

-- ---- tables

pub images-same : (old new : Held) (entries : List (List ℕ × Shape)) (roots : List RootTiles) → All (IsSameOver old new) roots
    → images_over new entries roots ≡ images_over old entries roots
images-same old new [] roots all = refl
images-same old new (entry ∷ entries) [] all = refl
images-same old new (entry ∷ entries) (root ∷ roots) all =
    ap (λ (image : Image). (entry.0, image) ∷ images_over new entries roots) (All-first (IsSameOver old new) root roots all)
    ∙ ap (λ (rest : List (List ℕ × Image)). (entry.0, image_over old root) ∷ rest) (images-same old new entries roots (All-rest (IsSameOver old new) root roots all))

-- two values where both chains expose their bytes, or none does
pub known-same : {X Y W : Type 0} (o : Option X) (p : Option Y) (b d : W) → is_some o ≡ is_some p → b ≡ d
    → option_map (λ (x : X). b) o ≡ option_map (λ (y : Y). d) p
known-same None None b d same is = refl
known-same None (Some y) b d same is = absurd (true≢false (sym same))
known-same (Some x) None b d same is = absurd (true≢false same)
known-same (Some x) (Some y) b d same is = ap Some is

pub table-framed : (buffers : BufferTable) (old new : Held) → is_some new.content ≡ is_some old.content → AreUnchanged old new (buffers_names buffers)
    → table_of buffers new ≡ table_of buffers old
table-framed buffers old new exposed unchanged =
    known-same new.content old.content _ _ exposed
    (ap (λ (images : List (List ℕ × Image)). let t : Table = record { roots = images; buffers = buffers.layout.buffers } in t)
    (images-same old new buffers.layout.roots buffers.roots (images-framed old new exposed buffers.roots unchanged)))

shapes-again : (held : Held) (entries : List (List ℕ × Shape)) (roots : List RootTiles) → map root_shape roots ≡ map (λ (entry : List ℕ × Shape). entry.1) entries
    → map (λ (entry : List ℕ × Image). (entry.0, shape_of_image entry.1)) (images_over held entries roots) ≡ entries
shapes-again held [] roots same = refl
shapes-again held (entry ∷ entries) [] same = absurd (cc)
shapes-again held (entry ∷ entries) (root ∷ roots) same =
    let first : root_shape root ≡ entry.1 = cc in
    ap (λ (s : Shape). (entry.0, s) ∷ map (λ (e : List ℕ × Image). (e.0, shape_of_image e.1)) (images_over held entries roots)) first
    ∙ ap (λ (rest : List (List ℕ × Shape)). entry ∷ rest) (shapes-again held entries roots (cc))

module _ (buffers : BufferTable) (held : Held) (is : IsBufferTable buffers) where
  abbrev pub shown : Table
  shown = record { roots = images_over held buffers.layout.roots buffers.roots; buffers = buffers.layout.buffers }

  pub layout-shown : layout_of shown ≡ buffers.layout
  layout-shown =
      ap (λ (roots : List (List ℕ × Shape)). let l : TableLayout = record { roots = roots; buffers = buffers.layout.buffers } in l)
      (shapes-again held buffers.layout.roots buffers.roots is.shapes)

  images-shown : AreImagesOf (facts_of buffers.layout) (table_images shown)
  images-shown = subst (λ (layout : TableLayout). AreImagesOf (facts_of layout) (table_images shown)) layout-shown (images_known shown)

-- ---- buffers as a source of tiles

pub buffers_framed : (buffers : BufferTable) → IsFramed (buffers_names buffers) (buffer_images buffers)
buffers_framed buffers = λ old new exposed unchanged. ap (option_map table_images) (table-framed buffers old new exposed unchanged)

pub buffers_framed_condition : (buffers : BufferTable) → IsFramedCondition (buffers_names buffers) (AreBuffersOver buffers)
buffers_framed_condition buffers = λ old new over exposed unchanged owns. record {
  table = over.table;
  owned = owns;
  roots = roots-framed old new exposed buffers.roots unchanged owns over.roots;
}

pub buffers_exposed : (buffers : BufferTable) (held : Held) → AreBuffersOver buffers held → AreExposed (facts_of buffers.layout) held (buffer_images buffers held)
buffers_exposed buffers held over = record { shapes = shapes held.content; known = known held.content }
  where
    shapes : {X : Type 0} (o : Option X) → IfSome (option_map table_images (option_map (λ (x : X). shown buffers held over.table) o)) (AreImagesOf (facts_of buffers.layout))
    shapes None = tt
    shapes (Some x) = images-shown buffers held over.table

    known : {X : Type 0} (o : Option X) → IsSome o → IsSome (option_map table_images (option_map (λ (x : X). shown buffers held over.table) o))
    known None some = some
    known (Some x) some = refl
