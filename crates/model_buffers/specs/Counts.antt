-- How many tiles edits may add to a chain, how many names it has then, and how much of a swap suffices for them.
use Rattle.std.specs.Prelude.{ℕ, ◌+◌, ◌*◌, ◌≤◌, min, Result, Ok, Err}
use Rattle.plane_rect.specs.declared.rect.RectRefused.{RectRefused}
use Rattle.plane_rect.specs.Rectangle.{Rectangle, shifted}
use Rattle.model_images.specs.TileCounts.{tile_count}
use Rattle.model_buffers.specs.declared.edit.BufferEdit.{BufferEdit}
use Rattle.model_buffers.specs.declared.edit.BufferEdit.TheVariants.{Copy, Create, Duplicate, Fill, Put, Sub}

-- those that meet a rectangle after a move, where that is one
abbrev pub moved_count : Result Rectangle RectRefused → ℕ
moved_count (Ok rectangle) = tile_count rectangle
moved_count (Err refused) = 0

-- How many tiles an edit may add: those that meet the rectangle that it writes.
abbrev pub tiles_added : BufferEdit → ℕ
tiles_added (Create name format extent) = 0
tiles_added (Sub name parent rectangle) = 0
tiles_added (Duplicate name from) = 0
tiles_added (Fill name rectangle samples) = tile_count rectangle
tiles_added (Put name rectangle bytes) = tile_count rectangle
tiles_added (Copy from to rectangle dx dy) = moved_count (shifted dx dy rectangle)

-- ---- the most names that a chain has after a call: by them a full swap is excused

-- after an edit, where there were so many names
abbrev pub names_after_edit : ℕ → BufferEdit → ℕ
names_after_edit names edit = names + tiles_added edit

-- After a render whose cache holds at most `capacity` pairs: there were `others` names that aren't the cache's, and
-- `cached` pairs; so many pairs were applied, and one tile more is at work.
abbrev pub names_after_render : ℕ → ℕ → ℕ → ℕ → ℕ
names_after_render others cached capacity applied = others + min capacity (cached + applied) + 1

-- A store of so many blocks is never full while there are at most k names: a tile takes at most 16 blocks, so k tiles
-- leave k + 1 gaps of 16 blocks or more on average.
abbrev pub RoomFor : ℕ → ℕ → Type 0
RoomFor k used = 32 * (k + 1) ≤ used
