-- Tiles of buffers, by the tiles of their roots.
use Rattle.std.proofs.Common.{◌≡◌, ℕ, List, length, get_or, Option, Some, None, refl, sym, ap, subst, ◌∙◌}
use Rattle.std.specs.Prelude.{IfSome, IsSome}
use Rattle.std.specs.Option.{option_map}
use Rattle.buffer_layouts.specs.Views.{on_root, root_view}
use Rattle.buffer_layouts.specs.declared.views.RootView.{RootView}
use Rattle.chain_owners.specs.Held.{Held}
use Rattle.level_tables.specs.Over.{tile_length}
use Rattle.model_buffers.specs.Layout.{TableLayout, View, fact_in, facts_of, find, root_shape as layout_root_shape}
use Rattle.model_buffers.specs.Table.{Table, root_image as table_root, seen as seen_image}
use Rattle.model_buffers.proofs.FactLaws.{fact-found}
use Rattle.model_graphs.specs.Evaluation.{Buffers, buffer_image}
use Rattle.model_graphs.specs.Facts.{fact_of}
use Rattle.model_graphs.specs.Shapes.{Shape}
use Rattle.model_graphs.specs.declared.buffer.BufferFact.{BufferFact}
use Rattle.model_images.specs.Image.{Image}
use Rattle.model_images.specs.Paint.{cut}
use Rattle.model_images.specs.Raw.{tile_bytes}
use Rattle.model_sessions.specs.Tables.{table_images}
use Rattle.model_sessions.proofs.Sources.{image-read}
use Rattle.op_contracts.specs.Sources.{HasBufferLength, IsTileOf}
use Rattle.plane_rect.specs.Rectangle.{Includes, Rectangle}
use Rattle.plane_rect.specs.Tile.{Tile}
use Rattle.root_tiles.specs.Roots.{RootTiles, root_shape}
use Rattle.view_reads.specs.Views.{view_image}
use Rattle.buffer_view.specs.BufferTables.{BufferTable, IsBufferTable, buffer_images, image_over, images_over}
use Rattle.buffer_view.proofs.Parts.{root-shown, shape-numbered}
use Rattle.buffer_view.proofs.Targets.{by_target}

-- a buffer of which something is known has a view
pub view-known : (layout : TableLayout) (name : List ℕ) → IsSome (fact_of (facts_of layout) name) → IsSome (root_view layout name)
view-known layout name known = by (find layout.buffers name) (subst (λ (o : Option BufferFact). IsSome o) (fact-found layout name) known)
  where
    by : (o : Option View) → IsSome (option_map (fact_in layout name) o) → IsSome (option_map (on_root layout) o)
    by None some = absurd (cc)
    by (Some view) some = refl

module _ (buffers : BufferTable) (held : Held) (is : IsBufferTable buffers) (name : List ℕ) (seen : RootView) (target : root_view buffers.layout name ≡ Some seen)
    (root : RootTiles) (here : get_or buffers.roots seen.root root ≡ root) where
  -- the root is that of the view
  by_view : (P : Type 0) → ((view : View) → find buffers.layout.buffers name ≡ Some view → view.extent ≡ seen.extent
      → root_shape root ≡ layout_root_shape buffers.layout view.root
      → table_root (record { roots = images_over held buffers.layout.roots buffers.roots; buffers = buffers.layout.buffers }) view.root ≡ image_over held root → P) → P
  by_view P then = by_target buffers.layout is.layout name seen target P (λ view there seen_is entry within.
      then view there (ap (λ (s : RootView). s.extent) seen_is)
      (shape-numbered seen.root buffers.layout.roots buffers.roots root view.root (layout_root_shape buffers.layout view.root) is.shapes entry here)
      (root-shown buffers held is seen.root root view.root (layout_root_shape buffers.layout view.root) entry here))

  pub extent-inside : Includes root.box seen.extent
  extent-inside = by_target buffers.layout is.layout name seen target _ (λ view there seen_is entry within.
      let shape = shape-numbered seen.root buffers.layout.roots buffers.roots root view.root (layout_root_shape buffers.layout view.root) is.shapes entry here in
      let extent : view.extent ≡ seen.extent = ap (λ (s : RootView). s.extent) seen_is in
      subst (λ (s : Shape). Includes s.box seen.extent) (sym shape) (subst (λ (r : Rectangle). Includes (layout_root_shape buffers.layout view.root).box r) extent within))

  pub has-length : (bytes : List ℕ) → length bytes ≡ tile_length root.tiles.format → HasBufferLength (facts_of buffers.layout) name bytes
  has-length bytes count = by_view _ (λ view there extent shape image.
      subst (λ (o : Option BufferFact). IfSome o (λ fact. length bytes ≡ tile_length fact.format))
      (sym (fact-found buffers.layout name ∙ ap (option_map (fact_in buffers.layout name)) there))
      (count ∙ ap (λ (s : Shape). tile_length s.format) shape))

  pub shows : (at : Tile) (bytes : List ℕ) → IfSome (view_image root seen.extent held) (λ image. bytes ≡ tile_bytes image at)
      → IsTileOf (buffer_images buffers held) name at bytes
  shows at bytes known = by_view _ (λ view there extent shape image.
      let image_is : buffer_image (table_images shown_table) name ≡ cut (image_over held root) seen.extent =
      image-read shown_table name ∙ ap (seen_image shown_table) there ∙ ap (λ (i : Image). cut i view.extent) image
      ∙ ap (cut (image_over held root)) extent in
      by held.content image_is known)
    where
      shown_table : Table
      shown_table = record { roots = images_over held buffers.layout.roots buffers.roots; buffers = buffers.layout.buffers }

      by : {X : Type 0} (o : Option X) → buffer_image (table_images shown_table) name ≡ cut (image_over held root) seen.extent
          → IfSome (option_map (λ (image : Image). cut image seen.extent) (option_map (λ (x : X). image_over held root) o)) (λ image. bytes ≡ tile_bytes image at)
          → IfSome (option_map table_images (option_map (λ (x : X). shown_table) o)) (λ (images : Buffers). bytes ≡ tile_bytes (buffer_image images name) at)
      by None image_is is_tile = tt
      by (Some x) image_is is_tile = is_tile ∙ ap (λ (i : Image). tile_bytes i at) (sym image_is)
