-- Tables of buffers whose roots' images are held by tiles over a chain.
use Rattle.std.specs.Prelude.{◌≡◌, ℕ, All, List, [], ◌∷◌, ◌++◌, Option, map}
use Rattle.std.specs.Option.{option_map}
use Rattle.chain_owners.specs.Held.{Held}
use Rattle.chain_owners.specs.Owners.{Owns}
use Rattle.level_tables.specs.LevelTiles.{bytes_in}
use Rattle.model_buffers.specs.Layout.{IsLayout, TableLayout}
use Rattle.model_buffers.specs.Table.{Table}
use Rattle.model_graphs.specs.Evaluation.{Buffers}
use Rattle.model_graphs.specs.Shapes.{Shape}
use Rattle.model_images.specs.Image.{Image}
use Rattle.model_images.specs.Tiles.{held_image}
use Rattle.model_sessions.specs.Tables.{table_images}
use Rattle.root_tiles.specs.Roots.{IsRootOver, RootTiles, root_names, root_shape}

-- a layout, and the tiles of its roots in their order
pub record BufferTable : Type 0 where
  pub layout : TableLayout
  pub roots : List RootTiles

-- the table of no buffer
abbrev pub empty_table : BufferTable
empty_table = record { layout = record { roots = []; buffers = [] }; roots = [] }

-- the roots have the shapes that the layout says
pub record IsBufferTable (buffers : BufferTable) : Type 0 where
  pub layout : IsLayout buffers.layout
  pub shapes : map root_shape buffers.roots ≡ map (λ (entry : List ℕ × Shape). entry.1) buffers.layout.roots

-- the image that the tiles of a root are
abbrev pub image_over : Held → RootTiles → Image
image_over held root = held_image root.box root.tiles.format (bytes_in held root.tiles.put)

-- the images of roots by their names
abbrev pub images_over : Held → List (List ℕ × Shape) → List RootTiles → List (List ℕ × Image)
images_over held [] roots = []
images_over held (entry ∷ entries) [] = []
images_over held (entry ∷ entries) (root ∷ roots) = (entry.0, image_over held root) ∷ images_over held entries roots

-- The table of the buffers' images, where the chain exposes its bytes.
abbrev pub table_of : BufferTable → Held → Option Table
table_of buffers held =
    option_map (λ _. record { roots = images_over held buffers.layout.roots buffers.roots; buffers = buffers.layout.buffers }) held.content

-- the images of the buffers, by their names
abbrev pub buffer_images : BufferTable → Held → Option Buffers
buffer_images buffers held = option_map table_images (table_of buffers held)

-- the names of a chain that roots hold, each as often as it is held
abbrev pub names_of_roots : List RootTiles → List ℕ
names_of_roots [] = []
names_of_roots (root ∷ roots) = root_names root ++ names_of_roots roots

abbrev pub buffers_names : BufferTable → List ℕ
buffers_names buffers = names_of_roots buffers.roots

-- What a table of buffers asks of a chain: it owns the names that its roots hold, and what each root asks.
pub record AreBuffersOver (buffers : BufferTable) (held : Held) : Type 0 where
  pub table : IsBufferTable buffers
  pub owned : Owns held (buffers_names buffers)
  pub roots : All (λ root. IsRootOver root held) buffers.roots
