-- What is seen of tables.
use Rattle.std.proofs.Common.{◌≡◌, ℕ, ◌≤◌, true, List, Option, Some, None, inl, inr, sym, subst, arith}
use Rattle.std.specs.Prelude.{IfSome}
use Rattle.std.proofs.lemmas.Bool.Decides.{nat_tests}
use Rattle.std.proofs.lemmas.Nat.{mul-le}
use Rattle.plane_rect.specs.Rectangle.{Rectangle, Includes, IsRectangle, InLimits, area, empty, has_positions}
use Rattle.plane_rect.proofs.Differences.{reaches}
use Rattle.plane_rect.proofs.Rectangles.{some_or_empty}
use Rattle.plane_rect.proofs.RectangleLaws.{IsRectangle-empty}
use Rattle.pixel_formats.specs.declared.format.Format.TheVariants.{Y8}
use Rattle.model_images.specs.Image.{IsImage, at}
use Rattle.model_graphs.specs.Shapes.{shape_of_image}
use Rattle.model_images.proofs.Laws.{IsImage-image_from_fn}
use Rattle.model_buffers.specs.Layout.{AreDistinct, View, find, IsValidShape, IsLayout, IsRooted, TableLayout, buffer_shape, root_shape, seen_shape}
use Rattle.model_buffers.specs.Table.{Table, image_of, layout_of, no_buffers, root_image, seen, IsTable}
use Rattle.model_buffers.proofs.FindLaws.{AreDistinct-from_mapped}
use Rattle.model_buffers.proofs.LayoutLaws.{kept_root}
use Rattle.model_buffers.proofs.ShapeLaws.{buffer_shape-is}

-- a part of a rectangle in limits is in limits
pub InLimits-part : (r part : Rectangle) → InLimits r → IsRectangle part → Includes r part → InLimits part
InLimits-part r part limits is inside = elim (some_or_empty part is) [
  | inl some ↦
      let positions : has_positions part ≡ true = grind (arith, nat_tests, some) in
      let far = reaches r part positions inside in
      let wide : part.width ≤ r.width = omega (arith, far, some) in
      let high : part.height ≤ r.height = omega (arith, far, some) in
      let fewer : area part ≤ area r = mul-le part.width part.height r.width r.height wide high in
      (omega (arith, wide, limits), omega (arith, high, limits), omega (arith, fewer, limits))
  | inr none ↦ subst InLimits (sym none) (omega arith, omega arith, omega arith)
]

pub IsValidShape-buffer : (layout : TableLayout) → IsLayout layout → (name : List ℕ) → IsValidShape (buffer_shape layout name)
IsValidShape-buffer layout is name = cases (find layout.buffers name) (is.rooted name)
  where
    cases : (o : Option View) → IfSome o (IsRooted layout) → IsValidShape (seen_shape layout o)
    cases (Some view) rooted =
        let root = kept_root layout is view.root rooted.root in record {
          box = rooted.extent;
          limits = InLimits-part (root_shape layout view.root).box view.extent root.limits rooted.extent rooted.inside;
        }
    cases None rooted = record { box = IsRectangle-empty; limits = (omega arith, omega arith, omega arith) }

pub IsValidShape-image_of : (table : Table) → IsTable table → (name : List ℕ) → IsValidShape (shape_of_image (image_of table name))
IsValidShape-image_of table is name = subst IsValidShape (buffer_shape-is table name) (IsValidShape-buffer (layout_of table) is.layout name)

pub IsImage-image_of : (table : Table) (name : List ℕ) → IsImage (image_of table name)
IsImage-image_of table name = cases (find table.buffers name)
  where
    cases : (o : Option View) → IsImage (seen table o)
    cases (Some view) = IsImage-image_from_fn view.extent (root_image table view.root).format (at (root_image table view.root))
    cases None = IsImage-image_from_fn empty Y8 (λ u v c. 0)

pub IsTable-no_buffers : IsTable no_buffers
IsTable-no_buffers = record {
  layout = record {
    few = omega arith;
    buffer_names = λ i j d before below. absurd (omega (arith, before, below));
    root_names = λ i j d before below. absurd (omega (arith, before, below));
    named = λ root some. absurd (cc);
    rooted = λ name. tt;
    kept = λ root. tt;
  };
  whole = λ root. tt;
}

pub AreDistinct-roots : (table : Table) → IsTable table → AreDistinct table.roots
AreDistinct-roots table is = AreDistinct-from_mapped shape_of_image table.roots is.layout.root_names
