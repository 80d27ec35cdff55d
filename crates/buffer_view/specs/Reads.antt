-- What reads of buffers give, and why they are refused.
use Rattle.std.specs.Prelude.{◌≡◌, ℕ, ⊤, Err, IfErr, IfOk, List, Option, None, IfSome, Result}
use Rattle.std.specs.Option.{option_map_or}
use Rattle.chain_owners.specs.Counts.{Counts}
use Rattle.model_buffers.specs.Layout.{TableLayout, View, buffer_shape, find, root_shape}
use Rattle.model_buffers.specs.Table.{Table, image_of}
use Rattle.model_buffers.specs.declared.refused.EditRefused.TheVariants.{UnknownBuffer}
use Rattle.model_graphs.specs.Shapes.{Shape}
use Rattle.model_images.specs.Abyss.{abyss_at}
use Rattle.model_images.specs.Image.{Image, image_from_fn}
use Rattle.model_images.specs.Level.{level}
use Rattle.model_images.specs.TileCounts.{level_tiles, names_after_read}
use Rattle.pixel_formats.specs.declared.abyss.Abyss.{Abyss}
use Rattle.plane_rect.specs.Rectangle.{Rectangle, empty}
use Rattle.root_tiles.specs.Chains.{ChainState, Leaves}
use Rattle.root_tiles.specs.Roots.{HasShape}
use Rattle.chain_owners.specs.Cause.{HasSwapCause}
use Rattle.chain_owners.specs.declared.swap_refused.SwapRefused.TheVariants as swap_refusals
use Rattle.buffer_view.specs.BufferTables.{AreBuffersOver, BufferTable, buffers_names, table_of}
use Rattle.buffer_view.specs.declared.refused.BufferRefused.{BufferRefused}
use Rattle.buffer_view.specs.declared.refused.BufferRefused.TheVariants as refusals

-- the box of the root of a buffer, of no position where no buffer has the name
abbrev pub box_of_root : TableLayout → List ℕ → Rectangle
box_of_root layout name = option_map_or (λ (view : View). (root_shape layout view.root).box) (find layout.buffers name) empty

-- a rectangle in the format of a buffer
abbrev pub part_of_buffer : TableLayout → List ℕ → Rectangle → Shape
part_of_buffer layout name r = record { box = r; format = (buffer_shape layout name).format }

-- an image is what a policy gives over a rectangle of a level of a buffer's image, where the table is known
abbrev pub IsReadOfBuffer : Option Table → List ℕ → ℕ → Abyss → Rectangle → Image → Type 0
IsReadOfBuffer table name z policy r patch =
    IfSome table (λ known. patch ≡ image_from_fn r (image_of known name).format (abyss_at (level (image_of known name) z) policy))

-- Why a read of a level is refused: no buffer has the name, or by the swap, where so many names may be made. It may run out
-- of memory at any time.
abbrev pub HasReadCause : TableLayout → List ℕ → ℕ → Counts → Counts → BufferRefused → Type 0
HasReadCause layout name z old new (refusals.Edit refused) = (refused ≡ UnknownBuffer) × (find layout.buffers name ≡ None)
HasReadCause layout name z old new (refusals.Swap swap_refusals.NoMemory) = ⊥
HasReadCause layout name z old new (refusals.Swap refused) =
    HasSwapCause old new (names_after_read old.names (box_of_root layout name) z) refused
HasReadCause layout name z old new refusals.NoMemory = ⊤

-- What a read of a level of a buffer's image gives, under a policy outside the level, and what it leaves of the buffers and
-- of their chain: the images are unchanged, whatever it answers.
pub record GrabsBuffer (name : List ℕ) (z : ℕ) (policy : Abyss) (r : Rectangle) (result : Result Image BufferRefused) (old new : BufferTable) (before after : ChainState) : Type 0 where
  -- what is read has the rectangle, in the buffer's format
  pub shape : IfOk result (HasShape (part_of_buffer old.layout name r))
  -- and the samples of the level there
  pub image : IfOk result (IsReadOfBuffer (table_of old before.held) name z policy r)
  -- without a buffer of the name it is refused by this cause
  pub unknown : find old.layout.buffers name ≡ None → result ≡ Err (refusals.Edit UnknownBuffer)
  -- it is refused for that, by the swap, or where memory runs out
  pub cause : IfErr result (HasReadCause old.layout name z before.counts after.counts)
  pub layout : new.layout ≡ old.layout
  pub table : table_of new after.held ≡ table_of old before.held
  -- the chain has what the buffers ask of it
  pub over : AreBuffersOver new after.held
  -- it has at most a name more for each tile of the levels
  pub left : Leaves (level_tiles (box_of_root old.layout name) z) (buffers_names old) (buffers_names new) before after
