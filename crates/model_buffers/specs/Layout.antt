-- Tables of buffers without their samples: what can be said of them where no sample is known.
use Rattle.std.specs.Prelude.{◌≢◌, ℕ, ◌≤◌, List, map, length, Option, Some, None, IsSome, IfSome, unwrap_or}
use Rattle.std.specs.List.{AllPairs}
use Rattle.std.specs.Map.{lookup}
use Rattle.std.specs.Option.{option_map}
use Rattle.std.specs.Str.{bytes_eq}
use Rattle.plane_rect.specs.Rectangle.{Rectangle, IsRectangle, InLimits, Includes}
use Rattle.pixel_formats.specs.Limits.{max_buffers}
use Rattle.model_graphs.specs.Facts.{Facts}
use Rattle.model_graphs.specs.Shapes.{Shape, no_shape}
use Rattle.model_graphs.specs.declared.buffer.BufferFact.{BufferFact}

-- What a buffer shows: the name of a root, and the part of the root's image that is seen.
pub record View : Type 0 where
  pub root : List ℕ
  pub extent : Rectangle

-- The shapes of the roots by the roots' names, and the view of each buffer by its name, both in the order in which they
-- were added.
pub record TableLayout : Type 0 where
  pub roots : List (List ℕ × Shape)
  pub buffers : List (List ℕ × View)

-- the first value of a name in a list
abbrev pub find : {X : Type 0} → List (List ℕ × X) → List ℕ → Option X
find entries name = lookup (bytes_eq name) entries

-- the shape of a root
abbrev pub root_shape : TableLayout → List ℕ → Shape
root_shape layout root = unwrap_or (find layout.roots root) no_shape

-- what is seen of a root through a view: its format, over the extent
abbrev pub view_shape : TableLayout → View → Shape
view_shape layout view = record { box = view.extent; format = (root_shape layout view.root).format }

abbrev pub seen_shape : TableLayout → Option View → Shape
seen_shape layout None = no_shape
seen_shape layout (Some view) = view_shape layout view

-- the shape of a buffer
abbrev pub buffer_shape : TableLayout → List ℕ → Shape
buffer_shape layout name = seen_shape layout (find layout.buffers name)

-- the root of a buffer
abbrev pub root_named : TableLayout → List ℕ → Option (List ℕ)
root_named layout name = option_map (λ (view : View). view.root) (find layout.buffers name)

-- what a graph knows of a buffer
abbrev pub fact_in : TableLayout → List ℕ → View → BufferFact
fact_in layout name view =
    record { name = name; root = view.root; bounds = view.extent; format = (root_shape layout view.root).format }

-- what it knows of all buffers, in their order
abbrev pub facts_of : TableLayout → Facts
facts_of layout = map (λ (entry : List ℕ × View). fact_in layout entry.0 entry.1) layout.buffers

-- ---- layouts that edits make

-- the shape of an image that a table may hold
pub record IsValidShape (shape : Shape) : Type 0 where
  pub box : IsRectangle shape.box
  pub limits : InLimits shape.box

-- A view of a root of the table, whose extent is in the root's box.
pub record IsRooted (layout : TableLayout) (view : View) : Type 0 where
  pub root : IsSome (find layout.roots view.root)
  pub inside : Includes (root_shape layout view.root).box view.extent
  pub extent : IsRectangle view.extent

-- No name is there twice.
abbrev pub AreDistinct : {X : Type 0} → List (List ℕ × X) → Type 0
AreDistinct {X} entries = AllPairs (λ (a b : List ℕ × X). a.0 ≢ b.0) entries

-- A layout: at most 64 buffers of distinct names, each of which sees a part of a root, and roots of distinct names,
-- each of which is a buffer's name too.
pub record IsLayout (layout : TableLayout) : Type 0 where
  pub few : length layout.buffers ≤ max_buffers
  pub buffer_names : AreDistinct layout.buffers
  pub root_names : AreDistinct layout.roots
  pub named : (root : List ℕ) → IsSome (find layout.roots root) → IsSome (find layout.buffers root)
  pub rooted : (name : List ℕ) → IfSome (find layout.buffers name) (IsRooted layout)
  pub kept : (root : List ℕ) → IfSome (find layout.roots root) IsValidShape
