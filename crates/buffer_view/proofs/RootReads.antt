-- Levels of buffers, by those of their roots.
use Rattle.std.proofs.Common.{◌≡◌, ℕ, zero, suc, ◌+◌, ◌<◌, ◌≤◌, List, [], ◌∷◌, ◌++◌, All, length, get_or, Option, Some, None, refl, sym, ap, subst, ◌∙◌, arith}
use Rattle.std.specs.Prelude.{slice_get}
use Rattle.std.specs.Option.{IsSomeAnd, option_map, option_map_or}
use Rattle.std.proofs.Math.ListN.{set}
use Rattle.buffer_layouts.specs.Views.{root_view}
use Rattle.buffer_layouts.specs.declared.views.RootView.{RootView}
use Rattle.chain_owners.specs.Counts.{Counts, Grows}
use Rattle.chain_owners.specs.Held.{Held}
use Rattle.chain_owners.specs.Owners.{Owns, Respects}
use Rattle.chain_owners.proofs.Ownership.{owns-fewer, times-append}
use Rattle.model_buffers.specs.Layout.{IsLayout, TableLayout, View, buffer_shape, find, root_shape as layout_root_shape, seen_shape}
use Rattle.model_buffers.specs.Table.{Table, image_of, root_image as table_root, seen as seen_image}
use Rattle.model_graphs.specs.Shapes.{Shape}
use Rattle.model_images.specs.Abyss.{abyss_at}
use Rattle.model_images.specs.Image.{Image, image_from_fn}
use Rattle.model_images.specs.Level.{level}
use Rattle.model_images.specs.Paint.{cut}
use Rattle.model_images.specs.TileCounts.{level_tiles, names_after_read}
use Rattle.pixel_formats.specs.declared.abyss.Abyss.{Abyss}
use Rattle.plane_rect.specs.Rectangle.{Includes, Rectangle, empty}
use Rattle.root_tiles.specs.Growth.{HoldsMoreTiles, RootState}
use Rattle.root_tiles.specs.Roots.{HasShape, RootTiles, part_shape, root_image, root_names, root_shape}
use Rattle.chain_owners.specs.Cause.{HasSwapCause}
use Rattle.chain_owners.specs.declared.swap_refused.SwapRefused.{SwapRefused}
use Rattle.view_reads.specs.Views.{IsReadOfLevel, view_image}
use Rattle.buffer_view.specs.BufferLaws.{IsSameOver, images-same}
use Rattle.buffer_view.specs.BufferTables.{AreBuffersOver, BufferTable, IsBufferTable, image_over, images_over, names_of_roots, table_of}
use Rattle.buffer_view.specs.Reads.{IsReadOfBuffer, box_of_root, part_of_buffer}
use Rattle.buffer_view.proofs.Beside.{images-beside}
use Rattle.buffer_view.proofs.Parts.{root-shown, shape-numbered}
use Rattle.buffer_view.proofs.RootLists.{names-without, without}
use Rattle.buffer_view.proofs.Shown.{known-both}
use Rattle.buffer_view.proofs.Targets.{by_target}

module _ (buffers : BufferTable) (held : Held) (is : IsBufferTable buffers) (name : List ℕ) (seen : RootView) (target : root_view buffers.layout name ≡ Some seen)
    (root : RootTiles) (here : get_or buffers.roots seen.root root ≡ root) where
  abbrev pub shown : Table
  shown = record { roots = images_over held buffers.layout.roots buffers.roots; buffers = buffers.layout.buffers }

  -- the root is that of the view
  by_view : (P : Type 0) → ((view : View) → find buffers.layout.buffers name ≡ Some view → view.extent ≡ seen.extent
      → root_shape root ≡ layout_root_shape buffers.layout view.root → table_root shown view.root ≡ image_over held root → P) → P
  by_view P then = by_target buffers.layout is.layout name seen target P (λ view there seen_is entry within.
      then view there (ap (λ (s : RootView). s.extent) seen_is)
      (shape-numbered seen.root buffers.layout.roots buffers.roots root view.root (layout_root_shape buffers.layout view.root) is.shapes entry here)
      (root-shown buffers held is seen.root root view.root (layout_root_shape buffers.layout view.root) entry here))

  pub image-shown : image_of shown name ≡ cut (image_over held root) seen.extent
  image-shown = by_view _ (λ view there extent shape image.
      ap (seen_image shown) there ∙ ap (λ (i : Image). cut i view.extent) image ∙ ap (cut (image_over held root)) extent)

  pub reads : (z : ℕ) (policy : Abyss) (r : Rectangle) (patch : Image) → IsReadOfLevel (view_image root seen.extent held) z policy r patch
      → IsReadOfBuffer (table_of buffers held) name z policy r patch
  reads z policy r patch known = by held.content known
    where
      by : {X : Type 0} (o : Option X) → IsReadOfLevel (option_map (λ (image : Image). cut image seen.extent) (option_map (λ (x : X). image_over held root) o)) z policy r patch
          → IsReadOfBuffer (option_map (λ (x : X). shown) o) name z policy r patch
      by None read = tt
      by (Some x) read = read ∙ ap (λ (i : Image). image_from_fn r i.format (abyss_at (level i z) policy)) (sym image-shown)

  pub format-of-buffer : root.tiles.format ≡ (buffer_shape buffers.layout name).format
  format-of-buffer = by_view _ (λ view there extent shape image.
      ap (λ (s : Shape). s.format) shape ∙ sym (ap (λ (o : Option View). (seen_shape buffers.layout o).format) there))

  pub box-of-buffer : seen.extent ≡ (buffer_shape buffers.layout name).box
  box-of-buffer = by_view _ (λ view there extent shape image.
      sym extent ∙ sym (ap (λ (o : Option View). (seen_shape buffers.layout o).box) there))

  pub part-of-buffer : (r : Rectangle) (patch : Image) → HasShape (part_shape root r) patch → HasShape (part_of_buffer buffers.layout name r) patch
  part-of-buffer r patch has = record { box = has.box; format = has.format ∙ format-of-buffer }

  pub box-of-root : root.box ≡ box_of_root buffers.layout name
  box-of-root = by_view _ (λ view there extent shape image.
      ap (λ (s : Shape). s.box) shape
      ∙ sym (ap (λ (o : Option View). option_map_or (λ (v : View). (layout_root_shape buffers.layout v.root).box) o empty) there))

-- what is seen is in the root of the number
pub view-inside : (layout : TableLayout) → IsLayout layout → (name : List ℕ) (seen : RootView) → root_view layout name ≡ Some seen
    → IsSomeAnd (slice_get layout.roots seen.root) (λ (entry : List ℕ × Shape). Includes entry.1.box seen.extent)
view-inside layout is name seen target = by_target layout is name seen target _ (λ view there seen_is entry within.
    subst (λ (o : Option (List ℕ × Shape)). IsSomeAnd o (λ (e : List ℕ × Shape). Includes e.1.box seen.extent)) (sym entry)
    (subst (λ (r : Rectangle). Includes (layout_root_shape layout view.root).box r) (ap (λ (s : RootView). s.extent) seen_is) within))

-- how many names are added by tiles of levels that are held
pub grows-levels : (z : ℕ) (a b : RootState) (box : Rectangle) → HoldsMoreTiles z a b → b.counts.names ≤ a.counts.names + level_tiles a.root.box z
    → a.root.box ≡ box → Grows (level_tiles box z) a.counts b.counts
grows-levels z a b box more few same =
    subst (λ (r : Rectangle). Grows (level_tiles r z) a.counts b.counts) same (record { continues = more.counts; names = few })

pub cause-levels : (z : ℕ) (old new : Counts) (first box : Rectangle) (refused : SwapRefused) → first ≡ box
    → HasSwapCause old new (old.names + level_tiles first z) refused → HasSwapCause old new (names_after_read old.names box z) refused
cause-levels z old new first box refused same cause =
    subst (λ (r : Rectangle). HasSwapCause old new (old.names + level_tiles r z) refused) same cause

-- ---- one root of a table whose image is as it was

module _ (old new : Held) where
  pub images-kept : (n : ℕ) (entries : List (List ℕ × Shape)) (roots : List RootTiles) (before after : RootTiles) → n < length roots → get_or roots n before ≡ before
      → All (IsSameOver old new) (without n roots) → image_over new after ≡ image_over old before
      → images_over new entries (set roots n after) ≡ images_over old entries roots
  images-kept n [] roots before after below is same image = refl
  images-kept n (entry ∷ entries) [] before after below is same image = absurd (omega (arith, below))
  images-kept zero (entry ∷ entries) (first ∷ roots) before after below is same image =
      ap (λ (i : Image). (entry.0, i) ∷ images_over new entries roots) (image ∙ ap (image_over old) (sym is))
      ∙ ap (λ (rest : List (List ℕ × Image)). (entry.0, image_over old first) ∷ rest) (images-same old new entries roots same)
  images-kept (suc n) (entry ∷ entries) (first ∷ roots) before after below is same image =
      let here : image_over new first ≡ image_over old first = same 0 first (omega arith) in
      ap (λ (i : Image). (entry.0, i) ∷ images_over new entries (set roots n after)) here
      ∙ ap (λ (rest : List (List ℕ × Image)). (entry.0, image_over old first) ∷ rest)
      (images-kept n entries roots before after (omega (arith, below)) is (λ k d inside. same (suc k) d (omega (arith, inside))) image)

module _ (buffers : BufferTable) (n : ℕ) (before after : RootTiles) (old new : Held) (over : AreBuffersOver buffers old)
    (below : n < length buffers.roots) (is : get_or buffers.roots n before ≡ before)
    (respects : Respects old new (root_names before) (root_names after)) where
  abbrev others : List RootTiles
  others = without n buffers.roots

  owned-others : Owns old (root_names before ++ names_of_roots others)
  owned-others =
      owns-fewer old (names_of_roots buffers.roots) (root_names before ++ names_of_roots others)
      (λ q. omega (arith, times-append (root_names before) (names_of_roots others) q, names-without n buffers.roots before below is q)) over.owned

  pub shown-kept : root_image after new ≡ root_image before old
      → table_of (record { layout = buffers.layout; roots = set buffers.roots n after }) new ≡ table_of buffers old
  shown-kept image =
      known-both new.content old.content (image_over new after) (image_over old before) _ _ (λ (i : Image). i) (λ (table : Table). table)
      respects.exposed (image ∙ sym (known-id (root_image before old)))
      (λ here. ap (λ (images : List (List ℕ × Image)). let t : Table = record { roots = images; buffers = buffers.layout.buffers } in t)
      (images-kept old new n buffers.layout.roots buffers.roots before after below is
      (images-beside old new (root_names before) (root_names after) respects others owned-others) here))
      ∙ known-id (table_of buffers old)
    where
      known-id : {X : Type 0} (o : Option X) → option_map (λ (x : X). x) o ≡ o
      known-id None = refl
      known-id (Some x) = refl
