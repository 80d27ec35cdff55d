-- The images of buffers are tables.
use Rattle.std.proofs.Common.{◌≡◌, ℕ, Bool, true, false, cond, List, [], ◌∷◌, ◌++◌, Option, Some, None, refl, sym, subst}
use Rattle.std.specs.Prelude.{IfSome, IsSome}
use Rattle.std.specs.Option.{option_map}
use Rattle.std.specs.Str.{bytes_eq}
use Rattle.chain_owners.specs.Held.{Held}
use Rattle.chain_owners.specs.Owners.{Owns, Respects}
use Rattle.chain_owners.proofs.Ownership.{others-unchanged}
use Rattle.model_buffers.specs.Layout.{IsLayout, find}
use Rattle.model_buffers.specs.Table.{IsTable, Table, layout_of}
use Rattle.model_graphs.specs.Shapes.{Shape}
use Rattle.model_images.specs.Image.{IsImage}
use Rattle.model_images.specs.Tiles.{held_pixels}
use Rattle.model_images.proofs.Laws.{IsImage-image_from_fn}
use Rattle.level_tables.specs.LevelTiles.{bytes_in}
use Rattle.root_tiles.specs.Roots.{RootTiles}
use Rattle.buffer_view.specs.BufferLaws.{buffers_framed_condition, layout-shown, shown, table-framed}
use Rattle.buffer_view.specs.BufferTables.{AreBuffersOver, BufferTable, IsBufferTable, buffers_names, image_over, images_over, table_of}
use Rattle.buffer_view.proofs.Beside.{owned-beside}

whole-images : (held : Held) (entries : List (List ℕ × Shape)) (roots : List RootTiles) (name : List ℕ) → IfSome (find (images_over held entries roots) name) IsImage
whole-images held [] roots name = tt
whole-images held (entry ∷ entries) [] name = tt
whole-images held (entry ∷ entries) (root ∷ roots) name = cases (bytes_eq name entry.0) (whole-images held entries roots name)
  where
    cases : (b : Bool) → IfSome (find (images_over held entries roots) name) IsImage
        → IfSome (cond b (Some (image_over held root)) (find (images_over held entries roots) name)) IsImage
    cases true rest = IsImage-image_from_fn root.box root.tiles.format (held_pixels root.tiles.format (bytes_in held root.tiles.put))
    cases false rest = rest

module _ (buffers : BufferTable) (held : Held) (is : IsBufferTable buffers) where
  pub is-table : IsTable (shown buffers held is)
  is-table = record {
    layout = subst IsLayout (sym (layout-shown buffers held is)) is.layout;
    whole = whole-images held buffers.layout.roots buffers.roots;
  }

  if-known : {X : Type 0} (o : Option X) (P : Table → Type 0) → P (shown buffers held is) → IfSome (option_map (λ (x : X). shown buffers held is) o) P
  if-known None P has = tt
  if-known (Some x) P has = has

  pub known-layout : IfSome (table_of buffers held) (λ (table : Table). layout_of table ≡ buffers.layout)
  known-layout = if-known held.content (λ (table : Table). layout_of table ≡ buffers.layout) (layout-shown buffers held is)

  pub known-table : IfSome (table_of buffers held) IsTable
  known-table = if-known held.content IsTable is-table

pub known-exposed : (buffers : BufferTable) (held : Held) → IsSome held.content → IsSome (table_of buffers held)
known-exposed buffers held known = by held.content known
  where
    images : Table
    images = record { roots = images_over held buffers.layout.roots buffers.roots; buffers = buffers.layout.buffers }

    by : {X : Type 0} (o : Option X) → IsSome o → IsSome (option_map (λ (x : X). images) o)
    by (Some x) some = refl
    by None some = absurd (cc)

-- ---- buffers that a call wasn't handed

module _ (buffers : BufferTable) (old new : Held) (before after : List ℕ) (respects : Respects old new before after)
    (owns : Owns old (before ++ buffers_names buffers)) where
  pub table-beside : table_of buffers new ≡ table_of buffers old
  table-beside = table-framed buffers old new respects.exposed (others-unchanged old new before after respects (buffers_names buffers) owns)

  pub over-beside : AreBuffersOver buffers old → AreBuffersOver buffers new
  over-beside over =
      buffers_framed_condition buffers old new over respects.exposed (others-unchanged old new before after respects (buffers_names buffers) owns)
      (owned-beside old new before after respects buffers.roots owns)
