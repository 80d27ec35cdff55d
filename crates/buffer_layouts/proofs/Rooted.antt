-- What buffers show of numbered roots.
use Rattle.std.proofs.Common.{◌≡◌, ℕ, ◌<◌, List, length, Some, refl}
use Rattle.std.specs.Prelude.{slice_get}
use Rattle.model_graphs.specs.Shapes.{Shape}
use Rattle.model_buffers.specs.Layout.{IsLayout, TableLayout, View, find, root_shape}
use Rattle.model_buffers.proofs.LayoutLaws.{by_value, rooted_view}
use Rattle.buffer_layouts.specs.Views.{root_number, shape_at}
use Rattle.buffer_layouts.proofs.Numbering.{entry_numbered, number_below, numbered}

module _ (layout : TableLayout) (name : List ℕ) (view : View) (is : IsLayout layout) (there : find layout.buffers name ≡ Some view) where
  pub number_of_view : root_number layout view.root < length layout.roots
  number_of_view = by_value _ (find layout.roots view.root) (rooted_view layout is name view there).root (λ (shape : Shape) e.
      number_below layout.roots view.root shape e)

  pub entry_of_view : slice_get layout.roots (root_number layout view.root) ≡ Some (view.root, root_shape layout view.root)
  entry_of_view = by_value _ (find layout.roots view.root) (rooted_view layout is name view there).root (λ (shape : Shape) e.
      rw e (entry_numbered layout.roots view.root shape e))

-- the shape of a root is at its number
pub shape_numbered : (layout : TableLayout) (root : List ℕ) → shape_at layout (root_number layout root) ≡ root_shape layout root
shape_numbered layout root = rw (numbered layout.roots root) refl
