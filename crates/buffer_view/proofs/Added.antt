-- Tables of buffers to which a buffer is added.
use Rattle.std.proofs.Common.{◌≡◌, ℕ, ◌+◌, ◌<◌, List, [], ◌∷◌, ◌++◌, length, map, get_or, Option, Some, None, refl, sym, ap, ap₂, subst, ◌∙◌, arith}
use Rattle.std.specs.Prelude.{slice_get}
use Rattle.std.specs.Option.{option_map}
use Rattle.std.proofs.lemmas.List.Elements.{All-push}
use Rattle.buffer_layouts.specs.Views.{on_root, root_view}
use Rattle.buffer_layouts.specs.declared.views.RootView.{RootView}
use Rattle.buffer_layouts.proofs.Adding.{duplicate_is, kept}
use Rattle.chain_owners.specs.Held.{Held}
use Rattle.chain_owners.specs.Owners.{Owns, Respects, times}
use Rattle.chain_owners.proofs.Ownership.{others-own, owns-fewer, respects-beside, times-append}
use Rattle.level_tables.specs.LevelTiles.{bytes_in}
use Rattle.model_buffers.specs.BufferEdit.{IsProperEdit, added, edit_refused, layout_with, layout_with_part, layout_with_root, part_of}
use Rattle.model_buffers.specs.Edits.{by_view, table_with, with_root, with_view}
use Rattle.model_buffers.specs.Layout.{IsLayout, TableLayout, View, find, root_shape as layout_root_shape}
use Rattle.model_buffers.specs.Table.{Table, root_image as table_root}
use Rattle.model_buffers.specs.declared.edit.BufferEdit.{BufferEdit}
use Rattle.model_buffers.specs.declared.edit.BufferEdit.TheVariants.{Create, Duplicate, Sub}
use Rattle.model_graphs.specs.Shapes.{Shape}
use Rattle.model_images.specs.Image.{Image}
use Rattle.model_images.specs.Paint.{blank}
use Rattle.model_images.specs.Tiles.{held_pixels}
use Rattle.model_images.proofs.Laws.{generated_equal}
use Rattle.pixel_formats.specs.declared.format.Format.{Format}
use Rattle.plane_rect.specs.Rectangle.{Rectangle}
use Rattle.root_tiles.specs.Roots.{IsRootOver, RootTiles, empty_root, root_names, root_shape}
use Rattle.buffer_view.specs.BufferTables.{AreBuffersOver, BufferTable, IsBufferTable, buffers_names, image_over, images_over, names_of_roots, table_of}
use Rattle.buffer_view.proofs.Changed.{held_as}
use Rattle.buffer_view.proofs.RootLists.{entry_shape, names-append, names-blank, names-without, shapes-added, without}
use Rattle.buffer_view.proofs.Sharing.{owned-others, roots-shared}
use Rattle.buffer_view.proofs.Shown.{images-added, table-content}
use Rattle.buffer_view.proofs.Targets.{by_target, mapped-same}
use Rattle.buffer_view.proofs.Parts.{number-below, root-shown, shape-numbered}

-- ---- a root is added with a buffer of its name

module _ (buffers : BufferTable) (root : RootTiles) (name : List ℕ) (extent : Rectangle) where
  abbrev pub with_new : BufferTable
  with_new = record { layout = layout_with_root buffers.layout name (root_shape root) extent; roots = buffers.roots ++ root ∷ [] }

  pub table-added : IsBufferTable buffers → IsLayout (layout_with_root buffers.layout name (root_shape root) extent) → IsBufferTable with_new
  table-added is layout = record {
    layout = layout;
    shapes = shapes-added buffers.roots buffers.layout.roots root name (root_shape root) is.shapes refl;
  }

  pub shown-added : (held : Held) → IsBufferTable buffers
      → table_of with_new held ≡ option_map (λ (table : Table). with_root table name (image_over held root) extent) (table_of buffers held)
  shown-added held is = by held.content
    where
      shown : BufferTable → Table
      shown b = record { roots = images_over held b.layout.roots b.roots; buffers = b.layout.buffers }

      by : {X : Type 0} (o : Option X) → option_map (λ (x : X). shown with_new) o
          ≡ option_map (λ (table : Table). with_root table name (image_over held root) extent) (option_map (λ (x : X). shown buffers) o)
      by None = refl
      by (Some x) =
          ap (λ (images : List (List ℕ × Image)). let t : Table = record { roots = images; buffers = added buffers.layout.buffers name (record { root = name; extent = extent }) } in Some t)
          (images-added held buffers.layout.roots buffers.roots name (root_shape root) root is.shapes)

-- ---- a buffer of zeros

pub blank-image : (held : Held) (box : Rectangle) (format : Format) → image_over held (empty_root box format) ≡ blank box format
blank-image held box format = generated_equal box format (held_pixels format (bytes_in held [])) (λ u v c. 0) (λ u v c there known. refl)

module _ (buffers : BufferTable) (is : IsBufferTable buffers) (name : List ℕ) (format : Format) (extent : Rectangle)
    (proper : IsProperEdit (Create name format extent)) (none : edit_refused buffers.layout (Create name format extent) ≡ None) where
  abbrev created : BufferTable
  created = with_new buffers (empty_root extent format) name extent

  pub table-created : IsBufferTable created
  table-created = table-added buffers (empty_root extent format) name extent is (kept buffers.layout is.layout (Create name format extent) proper none)

  pub names-created : buffers_names created ≡ buffers_names buffers
  names-created = names-blank buffers.roots (empty_root extent format) refl

  pub over-created : (held : Held) → IsRootOver (empty_root extent format) held → AreBuffersOver buffers held → AreBuffersOver created held
  over-created held blank over = record {
    table = table-created;
    owned = subst (Owns held) (sym names-created) over.owned;
    roots = All-push (λ (root : RootTiles). IsRootOver root held) buffers.roots (empty_root extent format) over.roots blank;
  }

  pub shown-created : (held : Held) → table_of created held ≡ option_map (λ (table : Table). table_with table (Create name format extent)) (table_of buffers held)
  shown-created held =
      shown-added buffers (empty_root extent format) name extent held is
      ∙ ap (λ (image : Image). option_map (λ (table : Table). with_root table name image extent) (table_of buffers held)) (blank-image held extent format)

-- ---- a part of a buffer

module _ (buffers : BufferTable) (is : IsBufferTable buffers) (name parent : List ℕ) (rectangle : Rectangle)
    (proper : IsProperEdit (Sub name parent rectangle)) (none : edit_refused buffers.layout (Sub name parent rectangle) ≡ None) where
  abbrev parted : BufferTable
  parted = record { layout = layout_with buffers.layout (Sub name parent rectangle); roots = buffers.roots }

  roots-parted : parted.layout.roots ≡ buffers.layout.roots
  roots-parted = by (find buffers.layout.buffers parent)
    where
      by : (o : Option View) → (layout_with_part buffers.layout name rectangle o).roots ≡ buffers.layout.roots
      by None = refl
      by (Some view) = refl

  pub table-parted : IsBufferTable parted
  table-parted = record {
    layout = kept buffers.layout is.layout (Sub name parent rectangle) proper none;
    shapes = is.shapes ∙ ap (λ (entries : List (List ℕ × Shape)). map entry_shape entries) (sym roots-parted);
  }

  pub over-parted : (held : Held) → AreBuffersOver buffers held → AreBuffersOver parted held
  over-parted held over = record { table = table-parted; owned = over.owned; roots = over.roots }

  pub shown-parted : (held : Held) → table_of parted held ≡ option_map (λ (table : Table). table_with table (Sub name parent rectangle)) (table_of buffers held)
  shown-parted held = by held.content
    where
      shown : TableLayout → Table
      shown layout = record { roots = images_over held layout.roots buffers.roots; buffers = layout.buffers }

      same : (o : Option View) → shown (layout_with_part buffers.layout name rectangle o)
          ≡ by_view (shown buffers.layout) o (λ view. with_view (shown buffers.layout) name (part_of view rectangle))
      same None = refl
      same (Some view) = refl

      by : {X : Type 0} (o : Option X) → option_map (λ (x : X). shown parted.layout) o
          ≡ option_map (λ (table : Table). table_with table (Sub name parent rectangle)) (option_map (λ (x : X). shown buffers.layout) o)
      by None = refl
      by (Some x) = ap (λ (t : Table). Some t) (same (find buffers.layout.buffers parent))

-- ---- a duplicate

module _ (buffers : BufferTable) (name from : List ℕ) (seen : RootView) (root : RootTiles) (old new : Held) (over : AreBuffersOver buffers old)
    (target : root_view buffers.layout from ≡ Some seen) (none : edit_refused buffers.layout (Duplicate name from) ≡ None)
    (below : seen.root < length buffers.roots) (here : get_or buffers.roots seen.root root ≡ root)
    (content : new.content ≡ old.content) (respects : Respects old new (root_names root) (root_names root ++ root_names root))
    (root_over : IsRootOver root new) where
  abbrev others : List RootTiles
  others = without seen.root buffers.roots

  abbrev duplicated : BufferTable
  duplicated = record { layout = layout_with buffers.layout (Duplicate name from); roots = buffers.roots ++ root ∷ [] }

  names-duplicated : (q : ℕ) → times (names_of_roots (buffers.roots ++ root ∷ [])) q
      ≡ times (root_names root ++ root_names root) q + times (names_of_roots others) q
  names-duplicated q =
      omega (
        arith,
        names-append buffers.roots (root ∷ []) q,
        times-append (root_names root) [] q,
        times-append (root_names root) (root_names root) q,
        names-without seen.root buffers.roots root below here q,
      )

  pub others-duplicated : Respects old new (buffers_names buffers) (buffers_names duplicated)
  others-duplicated =
      respects-beside old new (root_names root) (root_names root ++ root_names root) respects (names_of_roots buffers.roots)
      (names_of_roots (buffers.roots ++ root ∷ [])) (names_of_roots others) (names-without seen.root buffers.roots root below here) names-duplicated

  layout_is : duplicated.layout ≡ layout_with_root buffers.layout name (root_shape root) seen.extent
  layout_is =
      duplicate_is buffers.layout name from seen target
      ∙ ap (λ (shape : Shape). layout_with_root buffers.layout name shape seen.extent) (sym shape_is)
    where
      shape_is : root_shape root ≡ record { box = seen.bounds; format = seen.format }
      shape_is = by_target buffers.layout over.table.layout from seen target _ (λ view there seen_is entry within.
          shape-numbered seen.root buffers.layout.roots buffers.roots root view.root (layout_root_shape buffers.layout view.root) over.table.shapes entry here
          ∙ ap (λ (s : RootView). record { box = s.bounds; format = s.format }) seen_is)

  pub table-duplicated : IsBufferTable duplicated
  table-duplicated =
      subst (λ (layout : TableLayout). IsBufferTable (record { layout = layout; roots = buffers.roots ++ root ∷ [] })) (sym layout_is)
      (table-added buffers root name seen.extent over.table
      (subst IsLayout layout_is (kept buffers.layout over.table.layout (Duplicate name from) tt none)))

  pub over-duplicated : AreBuffersOver duplicated new
  over-duplicated =
      record {
        table = table-duplicated;
        owned =
            owns-fewer new ((root_names root ++ root_names root) ++ names_of_roots others) (names_of_roots (buffers.roots ++ root ∷ []))
            (λ q. omega (arith, names-duplicated q, times-append (root_names root ++ root_names root) (names_of_roots others) q))
            (others-own old new (root_names root) (root_names root ++ root_names root) respects (names_of_roots others)
            (owned-others buffers.roots seen.root root old new below here over.owned respects));
        roots = All-push (λ (r : RootTiles). IsRootOver r new) buffers.roots root
            (roots-shared buffers.roots seen.root root old new below here over.owned respects over.roots root_over) root_over;
      }

  pub shown-duplicated : table_of duplicated new ≡ option_map (λ (table : Table). table_with table (Duplicate name from)) (table_of buffers old)
  shown-duplicated =
      ap (λ (layout : TableLayout). table_of (record { layout = layout; roots = buffers.roots ++ root ∷ [] }) new) layout_is
      ∙ shown-added buffers root name seen.extent new over.table
      ∙ by_target buffers.layout over.table.layout from seen target _ (λ view there seen_is entry within.
      same view there seen_is entry)
    where
      later : table_of buffers new ≡ table_of buffers old
      later = table-content buffers old new content

      same : (view : View) → find buffers.layout.buffers from ≡ Some view → on_root buffers.layout view ≡ seen
          → slice_get buffers.layout.roots seen.root ≡ Some (view.root, layout_root_shape buffers.layout view.root)
          → option_map (λ (table : Table). with_root table name (image_over new root) seen.extent) (table_of buffers new)
          ≡ option_map (λ (table : Table). table_with table (Duplicate name from)) (table_of buffers old)
      same view there seen_is entry =
          mapped-same new.content (shown-table new) (λ (table : Table). with_root table name (image_over new root) seen.extent)
          (λ (table : Table). table_with table (Duplicate name from))
          (ap (λ (image : Image). with_root (shown-table new) name image seen.extent)
          (sym (root-shown buffers new over.table seen.root root view.root (layout_root_shape buffers.layout view.root) entry here))
          ∙ ap (λ (s : RootView). with_root (shown-table new) name (table_root (shown-table new) view.root) s.extent) (sym seen_is)
          ∙ ap (λ (o : Option View). by_view (shown-table new) o (λ view. with_root (shown-table new) name (table_root (shown-table new) view.root) view.extent)) (sym there))
          ∙ ap (option_map (λ (table : Table). table_with table (Duplicate name from))) later
        where
          shown-table : Held → Table
          shown-table held = record { roots = images_over held buffers.layout.roots buffers.roots; buffers = buffers.layout.buffers }

-- ---- tables as they are held, once a buffer is added

pub created-new : (old now : BufferTable) → old ≡ now → (name : List ℕ) (format : Format) (extent : Rectangle) (middle layout : TableLayout) (roots : List RootTiles) (root : RootTiles)
    → middle ≡ old.layout → layout ≡ layout_with middle (Create name format extent) → roots ≡ old.roots ++ root ∷ [] → root ≡ empty_root extent format
    → held_as layout roots ≡ with_new now (empty_root extent format) name extent
created-new old now same name format extent middle layout roots root before after more blank =
    ap₂ held_as
    (after ∙ ap (λ (l : TableLayout). layout_with l (Create name format extent)) before) (more ∙ ap (λ (r : RootTiles). old.roots ++ r ∷ []) blank)
    ∙ ap (λ (b : BufferTable). with_new b (empty_root extent format) name extent) same

pub edited-new : (old now : BufferTable) → old ≡ now → (edit : BufferEdit) (middle layout : TableLayout) → middle ≡ old.layout → layout ≡ layout_with middle edit
    → held_as layout old.roots ≡ held_as (layout_with now.layout edit) now.roots
edited-new old now same edit middle layout before after =
    ap (λ (l : TableLayout). held_as l old.roots) (after ∙ ap (λ (l : TableLayout). layout_with l edit) before)
    ∙ ap (λ (b : BufferTable). held_as (layout_with b.layout edit) b.roots) same

pub duplicated-new : (old now : BufferTable) → old ≡ now → (name from : List ℕ) (middle layout : TableLayout) (held roots : List RootTiles) (root shared : RootTiles)
    → middle ≡ old.layout → layout ≡ layout_with middle (Duplicate name from) → held ≡ old.roots → roots ≡ held ++ shared ∷ [] → shared ≡ root
    → held_as layout roots ≡ held_as (layout_with now.layout (Duplicate name from)) (now.roots ++ root ∷ [])
duplicated-new old now same name from middle layout held roots root shared before after held_is more is =
    ap₂ held_as (after ∙ ap (λ (l : TableLayout). layout_with l (Duplicate name from)) before)
    (more ∙ ap₂ (λ (rs : List RootTiles) (r : RootTiles). rs ++ r ∷ []) held_is is)
    ∙ ap (λ (b : BufferTable). held_as (layout_with b.layout (Duplicate name from)) (b.roots ++ root ∷ [])) same

-- the root that is seen is one of the table's
pub target-below : (buffers : BufferTable) → IsBufferTable buffers → (name : List ℕ) (seen : RootView) → root_view buffers.layout name ≡ Some seen → seen.root < length buffers.roots
target-below buffers is name seen target =
    by_target buffers.layout is.layout name seen target _ (λ view there seen_is entry within.
    number-below seen.root buffers.layout.roots buffers.roots (view.root, layout_root_shape buffers.layout view.root) is.shapes entry)
