-- Tables of buffers as graphs read them.
use Rattle.std.specs.Prelude.{◌≡◌, ℕ, List, map, Some}
use Rattle.model_images.specs.Agreement.{AgreeOutside}
use Rattle.model_images.specs.Image.{Image}
use Rattle.model_images.specs.Paint.{cut}
use Rattle.model_buffers.specs.Layout.{View, facts_of}
use Rattle.model_buffers.specs.Table.{Table, image_of, layout_of, root_image, root_of}
use Rattle.model_graphs.specs.Evaluation.{Buffers}
use Rattle.model_graphs.specs.Facts.{Facts, shapes_of_facts}
use Rattle.model_graphs.specs.Shapes.{Shapes}
use Rattle.model_states.specs.Rectangles.{Rectangles, rectangle_of}

-- ---- what is known without samples

-- what a graph knows of the buffers of a table
abbrev pub table_facts : Table → Facts
table_facts table = facts_of (layout_of table)

-- their boxes and formats, by their names
abbrev pub table_shapes : Table → Shapes
table_shapes table = shapes_of_facts (table_facts table)

-- ---- with samples

-- what a view shows of its table
abbrev pub view_image : Table → View → Image
view_image table view = cut (root_image table view.root) view.extent

-- the images of the buffers of a table, by their names
abbrev pub table_images : Table → Buffers
table_images table = map (λ (entry : List ℕ × View). (entry.0, view_image table entry.1)) table.buffers

-- Each buffer of a table is in another one too, on the same root, and there its image is the same outside the rectangle
-- of that root.
abbrev pub Continues : Table → Rectangles → Table → Type 0
Continues table rectangles next =
    (name root : List ℕ) → root_of table name ≡ Some root →
    (root_of next name ≡ Some root) × AgreeOutside (image_of table name) (image_of next name) (rectangle_of rectangles root)
