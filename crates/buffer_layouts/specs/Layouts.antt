-- Layouts as they are held: shapes of roots, and facts of buffers.
use Rattle.std.specs.Prelude.{◌≡◌, ℕ, All, List, map}
use Rattle.std.specs.Option.{IsSomeAnd}
use Rattle.model_graphs.specs.Facts.{Facts}
use Rattle.model_graphs.specs.Shapes.{Shape}
use Rattle.model_graphs.specs.declared.buffer.BufferFact.{BufferFact}
use Rattle.model_buffers.specs.Layout.{IsLayout, TableLayout, View, find}
use Rattle.buffer_layouts.specs.declared.views.RootShape.{RootShape}

-- A layout, and how many buffers with a root each can be added to it without memory.
pub record RoomyLayout : Type 0 where
  pub layout : TableLayout
  pub room : ℕ

-- a root as the layout has it
abbrev pub root_entry : RootShape → List ℕ × Shape
root_entry root = (root.name, record { box = root.bounds; format = root.format })

-- a buffer as the layout has it
abbrev pub buffer_entry : BufferFact → List ℕ × View
buffer_entry fact = (fact.name, record { root = fact.root; extent = fact.bounds })

-- the layout that is held as these
abbrev pub layout_of_facts : List RootShape → Facts → TableLayout
layout_of_facts roots facts = record { roots = map root_entry roots; buffers = map buffer_entry facts }

-- a fact has the format of its root, which is there
abbrev pub HasRootFormat : List (List ℕ × Shape) → BufferFact → Type 0
HasRootFormat roots fact = IsSomeAnd (find roots fact.root) (λ (shape : Shape). shape.format ≡ fact.format)

-- These are held of a layout.
pub record AreHeld (roots : List RootShape) (facts : Facts) : Type 0 where
  pub layout : IsLayout (layout_of_facts roots facts)
  pub formats : All (HasRootFormat (map root_entry roots)) facts
