-- Tables of buffers. A buffer is a name for a part of a root's image, and a name is its bytes.
use Rattle.std.specs.Prelude.{ℕ, List, [], map, Option, Some, None, IfSome, unwrap_or}
use Rattle.model_images.specs.Image.{Image, IsImage}
use Rattle.model_images.specs.Paint.{cut, no_image}
use Rattle.model_graphs.specs.Shapes.{shape_of_image}
use Rattle.model_buffers.specs.Layout.{IsLayout, TableLayout, View, find, root_named}

-- The images of the roots by the roots' names, and the view of each buffer by its name.
pub record Table : Type 0 where
  pub roots : List (List ℕ × Image)
  pub buffers : List (List ℕ × View)

-- the table without a buffer
abbrev pub no_buffers : Table
no_buffers = record { roots = []; buffers = [] }

-- the table without its samples
abbrev pub layout_of : Table → TableLayout
layout_of table = record {
  roots = map (λ (entry : List ℕ × Image). (entry.0, shape_of_image entry.1)) table.roots;
  buffers = table.buffers;
}

-- the image of a root
abbrev pub root_image : Table → List ℕ → Image
root_image table root = unwrap_or (find table.roots root) no_image

-- what is seen of the roots through a view
abbrev pub seen : Table → Option View → Image
seen table None = no_image
seen table (Some view) = cut (root_image table view.root) view.extent

-- the image of a buffer: its root's image, cut to its extent
abbrev pub image_of : Table → List ℕ → Image
image_of table name = seen table (find table.buffers name)

-- the root of a buffer
abbrev pub root_of : Table → List ℕ → Option (List ℕ)
root_of table name = root_named (layout_of table) name

-- A table: a layout, and whole images of its roots.
pub record IsTable (table : Table) : Type 0 where
  pub layout : IsLayout (layout_of table)
  pub whole : (root : List ℕ) → IfSome (find table.roots root) IsImage
