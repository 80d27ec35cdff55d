-- How many tiles edits may add.
use Rattle.std.proofs.Common.{◌≡◌, ℕ, List, Option, Some, None, Result, Ok, Err, refl}
use Rattle.std.specs.Prelude.{IfSome, option_map}
use Rattle.plane_rect.specs.declared.rect.RectRefused.{RectRefused}
use Rattle.plane_rect.specs.Rectangle.{Rectangle, shifted}
use Rattle.model_images.specs.TileCounts.{tile_count}
use Rattle.model_buffers.specs.BufferEdit.{on_root, written_by}
use Rattle.model_buffers.specs.Counts.{moved_count, tiles_added}
use Rattle.model_buffers.specs.Layout.{TableLayout, root_named}
use Rattle.model_buffers.specs.declared.edit.BufferEdit.{BufferEdit}
use Rattle.model_buffers.specs.declared.edit.BufferEdit.TheVariants.{Copy, Create, Duplicate, Fill, Put, Sub}

-- a rectangle of a root
of_root : (o : Option (List ℕ)) (r : Rectangle) → IfSome (option_map (λ (root : List ℕ). (root, r)) o) (λ (written : List ℕ × Rectangle). tile_count r ≡ tile_count written.1)
of_root (Some root) r = refl
of_root None r = tt

moved : (layout : TableLayout) (name : List ℕ) (m : Result Rectangle RectRefused)
    → IfSome (on_root layout name m) (λ (written : List ℕ × Rectangle). moved_count m ≡ tile_count written.1)
moved layout name (Ok r) = of_root (root_named layout name) r
moved layout name (Err refused) = tt

pub tiles-written : (layout : TableLayout) (edit : BufferEdit) → IfSome (written_by layout edit) (λ (written : List ℕ × Rectangle). tiles_added edit ≡ tile_count written.1)
tiles-written layout (Create name format extent) = tt
tiles-written layout (Sub name parent r) = tt
tiles-written layout (Duplicate name from) = tt
tiles-written layout (Fill name r samples) = of_root (root_named layout name) r
tiles-written layout (Put name r bytes) = of_root (root_named layout name) r
tiles-written layout (Copy from to r dx dy) = moved layout to (shifted dx dy r)
