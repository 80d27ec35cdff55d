-- Tables of buffers as graphs read them.
use Rattle.std.proofs.Common.{◌≡◌, ℕ, List, [], ◌∷◌, map, refl, sym, ap, ◌∙◌, subst, Option, Some, None, unwrap_or}
use Rattle.std.specs.Option.{option_map}
use Rattle.std.specs.List.{IsDistinct}
use Rattle.std.specs.Str.{bytes_eq}
use Rattle.std.proofs.lemmas.Map.Made.{lookup-map_values}
use Rattle.plane_rect.specs.Rectangle.{Rectangle}
use Rattle.model_images.specs.Agreement.{AgreeOutside}
use Rattle.model_images.specs.Image.{Image}
use Rattle.model_images.specs.Paint.{no_image}
use Rattle.model_buffers.specs.Layout.{View, fact_in, find, root_shape}
use Rattle.model_buffers.specs.Table.{IsTable, Table, image_of, layout_of, root_of, seen}
use Rattle.model_buffers.proofs.FactLaws as laws
use Rattle.model_buffers.proofs.ShapeLaws.{root_shape-is}
use Rattle.model_graphs.specs.declared.buffer.BufferFact.{BufferFact}
use Rattle.model_graphs.specs.Evaluation.{buffer_image}
use Rattle.model_graphs.specs.Facts.{AreImagesOf, fact_names, fact_of, shape_of_fact, shapes_of_facts}
use Rattle.model_graphs.specs.Shapes.{Shape, Shapes, shapes_of_images}
use Rattle.model_states.specs.Rectangles.{Rectangles, rectangle_of}
use Rattle.model_sessions.specs.Histories.{AreTablesSeparated}
use Rattle.model_sessions.specs.Tables.{Continues, table_facts, table_images, view_image}

-- ---- facts

pub fact-found : (table : Table) (name : List ℕ) → fact_of (table_facts table) name ≡ option_map (fact_in (layout_of table) name) (find table.buffers name)
fact-found table name = laws.fact-found (layout_of table) name

pub names_distinct : (table : Table) → IsTable table → IsDistinct bytes_eq (fact_names (table_facts table))
names_distinct table is = laws.facts-distinct (layout_of table) is.layout

-- ---- images

shapes-from : (table : Table) (entries : List (List ℕ × View)) →
    shapes_of_images (map (λ (entry : List ℕ × View). (entry.0, view_image table entry.1)) entries)
    ≡ shapes_of_facts (map (λ (entry : List ℕ × View). fact_in (layout_of table) entry.0 entry.1) entries)
shapes-from table [] = refl
shapes-from table (entry ∷ entries) =
    let named : Shape → List ℕ × Shape = λ shape. (entry.0, record { box = entry.1.extent; format = shape.format }) in
    ap (λ (shape : List ℕ × Shape). shape ∷ shapes_of_images (map (λ (entry : List ℕ × View). (entry.0, view_image table entry.1)) entries))
    (ap named (sym (root_shape-is table entry.1.root)))
    ∙ ap (λ (shapes : Shapes). named (root_shape (layout_of table) entry.1.root) ∷ shapes) (shapes-from table entries)

pub images_known : (table : Table) → AreImagesOf (table_facts table) (table_images table)
images_known table = shapes-from table table.buffers

pub image-read : (table : Table) (name : List ℕ) → buffer_image (table_images table) name ≡ image_of table name
image-read table name =
    ap (λ o. unwrap_or o no_image) (lookup-map_values (view_image table) (bytes_eq name) table.buffers)
    ∙ of (find table.buffers name)
  where
    of : (o : Option View) → unwrap_or (option_map (view_image table) o) no_image ≡ seen table o
    of None = refl
    of (Some view) = refl

-- ---- neighbors

-- The view of a name, of which this is known.
record IsSeen (table : Table) (name : List ℕ) (fact : BufferFact) : Type 0 where
  root : root_of table name ≡ Some fact.root
  box : (image_of table name).box ≡ fact.bounds
  format : (image_of table name).format ≡ fact.format

is_seen : (table : Table) (name : List ℕ) (fact : BufferFact) → fact_of (table_facts table) name ≡ Some fact → IsSeen table name fact
is_seen table name fact found = by (find table.buffers name) refl (sym (fact-found table name) ∙ found)
  where
    by : (o : Option View) → find table.buffers name ≡ o → option_map (fact_in (layout_of table) name) o ≡ Some fact → IsSeen table name fact
    by None e none = absurd (cc)
    by (Some view) e is =
        let same : fact_in (layout_of table) name view ≡ fact = cc in
        subst (IsSeen table name) same
        (record {
          root = ap (option_map (λ (view : View). view.root)) e;
          box = ap (λ o. (seen table o).box) e;
          format = ap (λ o. (seen table o).format) e ∙ sym (ap (λ (shape : Shape). shape.format) (root_shape-is table view.root));
        })

shape-same : (a b : BufferFact) → a.bounds ≡ b.bounds → a.format ≡ b.format → shape_of_fact a ≡ shape_of_fact b
shape-same a b bounds format =
    ap (λ box. record { box = box; format = a.format }) bounds
    ∙ ap (λ format. record { box = b.bounds; format = format }) format

pub neighbors : (table next : Table) (rectangles : Rectangles) → Continues table rectangles next → AreTablesSeparated table next rectangles
neighbors table next rectangles continued =
    record {
      steady = λ name a b found again.
          let was = is_seen table name a found in
          let is = is_seen next name b again in
          let on = continued name a.root was.root in
          record {
            root = cc (on.0, is.root);
            shape = shape-same a b (sym was.box ∙ on.1.box ∙ is.box) (sym was.format ∙ on.1.format ∙ is.format);
          };
      images = λ name a b found again.
          let was = is_seen table name a found in
          let is = is_seen next name b again in
          let on = continued name a.root was.root in
          let roots : a.root ≡ b.root = cc (on.0, is.root) in
          rw (image-read table name, image-read next name, sym roots) on.1;
    }

-- ---- what is the same from the other side

agree-back : (a b : Image) (r : Rectangle) → AgreeOutside a b r → AgreeOutside b a r
agree-back a b r agreed = record { box = sym agreed.box; format = sym agreed.format; samples = λ u v c out. sym (agreed.samples u v c out) }

pub neighbors-back : (table next : Table) (rectangles : Rectangles) → AreTablesSeparated table next rectangles → AreTablesSeparated next table rectangles
neighbors-back table next rectangles are =
    record {
      steady = λ name b a again found.
          let steady = are.steady name a b found again in
          record { root = sym steady.root; shape = sym steady.shape };
      images = λ name b a again found.
          let steady = are.steady name a b found again in
          subst (λ root. AgreeOutside (buffer_image (table_images next) name) (buffer_image (table_images table) name) (rectangle_of rectangles root)) (sym steady.root)
          (agree-back (buffer_image (table_images table) name) (buffer_image (table_images next) name) (rectangle_of rectangles b.root) (are.images name a b found again));
    }
