-- What calls that edit buffers leave.
use Rattle.std.specs.Prelude.{◌≡◌, ℕ, ◌+◌, Err, IfErr, IfOk, List, MatchResult, None, OnErr, OnOk, Result, Some, slice_get}
use Rattle.std.specs.Option.{option_map}
use Rattle.chain_owners.specs.Held.{Held}
use Rattle.model_buffers.specs.BufferEdit.{edit_refused, layout_with}
use Rattle.model_buffers.specs.Counts.{tiles_added}
use Rattle.model_buffers.specs.Edits.{table_with, written}
use Rattle.model_buffers.specs.declared.edit.BufferEdit.{BufferEdit}
use Rattle.model_buffers.specs.declared.refused.EditRefused.{EditRefused}
use Rattle.model_graphs.specs.Shapes.{Shape}
use Rattle.model_images.specs.TileCounts.{tile_count}
use Rattle.pixel_formats.specs.Row.{Pixel}
use Rattle.pixel_formats.specs.declared.format.Format.{Format}
use Rattle.plane_rect.specs.Rectangle.{Rectangle}
use Rattle.root_tiles.specs.Chains.{ChainState, Leaves}
use Rattle.chain_owners.specs.Cause.{HasSwapCause}
use Rattle.chain_owners.specs.declared.swap_refused.SwapRefused.{SwapRefused}
use Rattle.buffer_view.specs.BufferTables.{AreBuffersOver, BufferTable, buffers_names, table_of}
use Rattle.buffer_view.specs.Causes.{HasAddCause, HasEditCause}
use Rattle.buffer_view.specs.declared.refused.BufferRefused.{BufferRefused}
use Rattle.buffer_view.specs.declared.refused.BufferRefused.TheVariants.{Edit}

-- f's samples, by the root's format, were written over a rectangle of the root of a number, all or nothing: its image has
-- them there, or the images are as before. What others hold of the chain is unchanged.
pub record WritesRoot {X : Type 0} (number : ℕ) (r : Rectangle) (f : Format → ℕ → ℕ → Pixel) (result : Result X SwapRefused) (old new : BufferTable) (before after : ChainState) : Type 0 where
  pub layout : new.layout ≡ old.layout
  pub table : (root : List ℕ) (shape : Shape) → slice_get old.layout.roots number ≡ Some (root, shape) →
      OnOk result (table_of new after.held ≡ option_map (λ table. written table root r (f shape.format)) (table_of old before.held))
  pub same : OnErr result (table_of new after.held ≡ table_of old before.held)
  pub over : AreBuffersOver new after.held
  pub cause : IfErr result (HasSwapCause before.counts after.counts (before.counts.names + tile_count r))
  pub left : Leaves (tile_count r) (buffers_names old) (buffers_names new) before after

-- What an edit makes of buffers and of their chain: it is carried out, or else the buffers and their images are as before.
-- What others hold of the chain is unchanged.
pub record EditsBuffers {X : Type 0} (edit : BufferEdit) (result : Result X BufferRefused) (old new : BufferTable) (before after : ChainState) : Type 0 where
  -- the layout is that after the edit, or as before
  pub layout : MatchResult result (λ _. new.layout ≡ layout_with old.layout edit) (λ _. new.layout ≡ old.layout)
  -- and so are the images, where the chain exposes its bytes
  pub table : MatchResult result
      (λ _. table_of new after.held ≡ option_map (λ table. table_with table edit) (table_of old before.held))
      (λ _. table_of new after.held ≡ table_of old before.held)
  -- what the layout refuses is refused by this cause
  pub exact : (cause : EditRefused) → edit_refused old.layout edit ≡ Some cause → result ≡ Err (Edit cause)
  -- it is refused by the layout, by the swap, or where memory runs out
  pub cause : IfErr result (HasEditCause old.layout edit before.counts after.counts)
  -- the layout didn't refuse what is carried out
  pub carried_out : IfOk result (λ _. edit_refused old.layout edit ≡ None)
  -- the chain has what the buffers ask of it
  pub over : AreBuffersOver new after.held
  -- it has at most a name more for each tile that the edit adds
  pub left : Leaves (tiles_added edit) (buffers_names old) (buffers_names new) before after

-- An edit that adds a buffer and touches no chain is carried out, or else the buffers and their images are as before, over
-- each chain.
pub record AddsBuffer {X : Type 0} (edit : BufferEdit) (result : Result X BufferRefused) (old new : BufferTable) : Type 0 where
  pub layout : MatchResult result (λ _. new.layout ≡ layout_with old.layout edit) (λ _. new.layout ≡ old.layout)
  pub table : (held : Held) → MatchResult result
      (λ _. table_of new held ≡ option_map (λ table. table_with table edit) (table_of old held))
      (λ _. table_of new held ≡ table_of old held)
  pub exact : (cause : EditRefused) → edit_refused old.layout edit ≡ Some cause → result ≡ Err (Edit cause)
  pub cause : IfErr result (HasAddCause old.layout edit)
  pub carried_out : IfOk result (λ _. edit_refused old.layout edit ≡ None)
  pub over : (held : Held) → AreBuffersOver old held → AreBuffersOver new held
  pub names : buffers_names new ≡ buffers_names old
