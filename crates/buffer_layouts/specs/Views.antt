-- What buffers show of numbered roots.
use Rattle.std.specs.Prelude.{◌≡◌, ℕ, ℤ, IfErr, IfOk, List, None, Option, Some, Ok, Result, slice_get, unwrap_or}
use Rattle.std.specs.List.{position_or_len}
use Rattle.std.specs.Option.{option_map}
use Rattle.std.specs.Str.{bytes_eq}
use Rattle.plane_rect.specs.Rectangle.{Rectangle, shifted}
use Rattle.model_graphs.specs.Shapes.{Shape, no_shape}
use Rattle.model_buffers.specs.BufferEdit.{edit_refused}
use Rattle.model_buffers.specs.Layout.{TableLayout, View, find, root_shape}
use Rattle.model_buffers.specs.declared.edit.BufferEdit.{BufferEdit}
use Rattle.model_buffers.specs.declared.refused.EditRefused.{EditRefused}
use Rattle.buffer_layouts.specs.declared.views.CopyParts.{CopyParts}
use Rattle.buffer_layouts.specs.declared.views.RootView.{RootView}

-- the number of a root: how many roots were added before it, and all of them where there is none of the name
abbrev pub root_number : TableLayout → List ℕ → ℕ
root_number layout root = position_or_len (λ (entry : List ℕ × Shape). bytes_eq root entry.0) layout.roots

-- the shape of the root of a number
abbrev pub shape_at : TableLayout → ℕ → Shape
shape_at layout number = unwrap_or (option_map (λ (entry : List ℕ × Shape). entry.1) (slice_get layout.roots number)) no_shape

-- a view, with the number and the shape of its root
abbrev pub on_root : TableLayout → View → RootView
on_root layout view = record {
  root = root_number layout view.root;
  bounds = (root_shape layout view.root).box;
  format = (root_shape layout view.root).format;
  extent = view.extent;
}

-- that of a buffer, where there is one of the name
abbrev pub root_view : TableLayout → List ℕ → Option RootView
root_view layout name = option_map (on_root layout) (find layout.buffers name)

-- the box and the format of what is seen
abbrev pub seen_shape : RootView → Shape
seen_shape view = record { box = view.extent; format = view.format }

-- What is read and what is written by a copy of a rectangle of one buffer to another or the same, dx to the right and dy
-- down.
pub record AreCopyParts (layout : TableLayout) (from to : List ℕ) (rectangle : Rectangle) (dx dy : ℤ) (parts : CopyParts) : Type 0 where
  pub source : root_view layout from ≡ Some parts.source
  pub target : root_view layout to ≡ Some parts.target
  pub moved : shifted dx dy rectangle ≡ Ok parts.moved

-- What is answered before an edit of what a buffer shows: the view of it, or why the layout refuses the edit.
pub record IsTarget (layout : TableLayout) (name : List ℕ) (edit : BufferEdit) (result : Result RootView EditRefused) : Type 0 where
  pub carried_out : IfOk result (λ _. edit_refused layout edit ≡ None)
  pub target : IfOk result (λ view. root_view layout name ≡ Some view)
  pub refused : IfErr result (λ cause. edit_refused layout edit ≡ Some cause)
