-- Lines that write a file of a buffer.
use Rattle.std.proofs.Common.{◌≡◌, ◌≢◌, ℕ, ◌*◌, Bool, true, IsTrue, IfSome, List, length, Option, Some, None, is_some, refl, sym, ap, ◌∙◌, subst}
use Rattle.std.specs.Option.{option_map, option_map_or}
use Rattle.buffer_view.specs.BufferTables.{table_of}
use Rattle.buffer_view.specs.Reads.{IsReadOfBuffer, box_of_root, part_of_buffer}
use Rattle.chain_owners.specs.Held.{Held}
use Rattle.commit_session.specs.Parts.{Parts}
use Rattle.model_buffers.proofs.ShapeLaws.{buffer_shape-is}
use Rattle.model_buffers.specs.Layout.{TableLayout, View, buffer_shape, find, root_shape}
use Rattle.model_buffers.specs.Table.{Table, image_of}
use Rattle.model_graphs.specs.Shapes.{Shape}
use Rattle.model_images.proofs.ByteLaws.{length-raw_with, raw-image_from_fn}
use Rattle.model_images.proofs.LevelLaws.{level-format}
use Rattle.model_images.specs.Abyss.{abyss_at, raw_with}
use Rattle.model_images.specs.Image.{Image, image_from_fn}
use Rattle.model_images.specs.Level.{level}
use Rattle.model_images.specs.Raw.{raw}
use Rattle.model_images.specs.TileCounts.{level_tiles}
use Rattle.model_operations.specs.declared.operation.IntOp.{IntOp}
use Rattle.model_runs.specs.Effects.{grabs, grabs_view, writes}
use Rattle.model_runs.specs.State.{Effect, RunState, refuses, workspace_of}
use Rattle.outside_io.specs.Files.{Files}
use Rattle.pixel_formats.specs.Format.{pixel_bytes}
use Rattle.pixel_formats.specs.declared.abyss.Abyss.{Abyss}
use Rattle.plane_rect.specs.Rectangle.{Rectangle, area, empty}
use Rattle.root_tiles.specs.Roots.{HasShape}
use Rattle.run_lines.specs.States.{Holds}
use Rattle.model_runs.specs.Texts.{grab_text}
use Rattle.model_runs.specs.declared.cause.Cause.TheVariants as causes

module _ (exposed : Bool) (capacity line : ℕ) (state : RunState) (files : Files) (parts : Parts IntOp) (held : Held) (shelf : Option Files) (name : List ℕ) (z : ℕ) (policy : Abyss) (r : Rectangle) (target : List ℕ)
    (holds : Holds exposed capacity state files parts held shelf) where
  abbrev working : Table
  working = (workspace_of state).working

  abbrev layout : TableLayout
  layout = parts.versions.working.layout

  abbrev pub planned : List ℕ
  planned = raw_with (level (image_of working name) z) policy r

  abbrev pub grabbed : Effect
  grabbed = grabs line state name z policy r target

  view_found : find working.buffers name ≡ find layout.buffers name
  view_found = ap (λ (l : TableLayout). find l.buffers name) holds.session.working.layout

  pub grab_unknown : find layout.buffers name ≡ None → grabbed ≡ refuses line state causes.UnknownBuffer
  grab_unknown none = ap (grabs_view line state name z policy r target) (view_found ∙ none)

  tiles_by : (view : Option View) → find layout.buffers name ≡ view → view ≢ None → grabbed.tiles ≡ level_tiles (box_of_root layout name) z
  tiles_by None found some = absurd (some refl)
  tiles_by (Some view) found some =
      ap (λ (o : Option View). (grabs_view line state name z policy r target o).tiles) (view_found ∙ found)
      ∙ ap (λ (l : TableLayout). level_tiles (root_shape l view.root).box z) holds.session.working.layout
      ∙ sym (ap (λ (o : Option View). level_tiles (option_map_or (λ (view : View). (root_shape layout view.root).box) o empty) z) found)

  -- the tiles of a grab whose buffer is there
  pub grab_tiles : find layout.buffers name ≢ None → grabbed.tiles ≡ level_tiles (box_of_root layout name) z
  grab_tiles some = tiles_by (find layout.buffers name) refl some

  given_by : (view : Option View) → find layout.buffers name ≡ view → view ≢ None →
      (grabbed.events ≡ writes target planned (grab_text line (length planned))) × (grabbed.refused ≡ None) × (grabbed.next ≡ state)
  given_by None found some = absurd (some refl)
  given_by (Some view) found some =
      let gives : grabbed ≡ grabs_view line state name z policy r target (Some view) = ap (grabs_view line state name z policy r target) (view_found ∙ found) in
      (ap (λ (e : Effect). e.events) gives, ap (λ (e : Effect). e.refused) gives, ap (λ (e : Effect). e.next) gives)

  pub grab_given : find layout.buffers name ≢ None →
      (grabbed.events ≡ writes target planned (grab_text line (length planned))) × (grabbed.refused ≡ None) × (grabbed.next ≡ state)
  grab_given some = given_by (find layout.buffers name) refl some

  image_format : (image_of working name).format ≡ (buffer_shape layout name).format
  image_format = ap (λ (shape : Shape). shape.format) (sym (buffer_shape-is working name) ∙ ap (λ (l : TableLayout). buffer_shape l name) holds.session.working.layout)

  -- the bytes that were read have the length of those that are to be written
  pub grab_length : (patch : Image) (bytes : List ℕ) → HasShape (part_of_buffer layout name r) patch → length bytes ≡ area patch.box * pixel_bytes patch.format → length planned ≡ length bytes
  grab_length patch bytes shape count =
      length-raw_with (level (image_of working name) z) policy r
      ∙ ap (λ format. area r * pixel_bytes format) (level-format (image_of working name) z ∙ image_format)
      ∙ sym (count ∙ ap (λ box. area box * pixel_bytes patch.format) shape.box ∙ ap (λ format. area r * pixel_bytes format) shape.format)

  -- the table is known where the chain exposes its bytes
  table_known : (known : Option Table) → is_some known ≡ true → IfSome known (λ (table : Table). table ≡ working) → known ≡ Some working
  table_known None some is = absurd (cc)
  table_known (Some table) some is = ap Some is

  content_known : {X : Type 0} (content : Option X) (table : X → Table) → is_some content ≡ true → is_some (option_map table content) ≡ true
  content_known None table some = absurd (cc)
  content_known (Some x) table some = refl

  held_table : IsTrue exposed → table_of parts.versions.working held ≡ Some working
  held_table e = table_known (table_of parts.versions.working held) (content_known held.content _ (holds.content ∙ e)) holds.session.working.images

  -- and are these where the chain exposes its bytes
  pub grab_bytes : (patch : Image) → IsTrue exposed → HasShape (part_of_buffer layout name r) patch → IsReadOfBuffer (table_of parts.versions.working held) name z policy r patch → raw patch patch.box ≡ planned
  grab_bytes patch e shape read =
      let image = image_of working name in
      let is : patch ≡ image_from_fn r image.format (abyss_at (level image z) policy) =
      subst (λ (o : Option Table). IsReadOfBuffer o name z policy r patch) (held_table e) read in
      ap (λ box. raw patch box) shape.box ∙ ap (λ (p : Image). raw p r) (is ∙ ap (λ format. image_from_fn r format (abyss_at (level image z) policy)) (sym (level-format image z)))
      ∙ raw-image_from_fn (level image z) policy r
