-- The laws of buffers that are added to a table.
use Rattle.std.proofs.Common.{◌≡◌, ℕ, List, [], ◌∷◌, Option, Some, None, refl, sym, ap, ◌∙◌, arith, length-append}
use Rattle.std.specs.Prelude.{IsSome, IfSome}
use Rattle.std.specs.Option.{option_map, is_some}
use Rattle.plane_rect.specs.Rectangle.{Rectangle}
use Rattle.model_images.specs.Image.{Image, IsImage}
use Rattle.model_images.specs.Paint.{cut}
use Rattle.model_graphs.specs.Shapes.{shape_of_image}
use Rattle.model_buffers.specs.Edits.{with_root, with_view}
use Rattle.model_buffers.specs.Effects.{IsAdded, HasOwnRoot}
use Rattle.model_buffers.specs.Layout.{View, find, IsRooted}
use Rattle.model_buffers.specs.Table.{Table, layout_of, root_image, seen, root_of, IsTable}
use Rattle.model_buffers.proofs.FindLaws.{find-kept, find-new, find-other}
use Rattle.model_buffers.proofs.LayoutLaws.{by_option, by_value, find-either, no_root}
use Rattle.model_buffers.proofs.ShapeLaws.{find-shapes}

-- a root whose shape is there is there
same_presence : (o : Option Image) → is_some (option_map shape_of_image o) ≡ is_some o
same_presence (Some image) = refl
same_presence None = refl

pub root_there : (table : Table) (root : List ℕ) → IsSome (find (layout_of table).roots root) → IsSome (find table.roots root)
root_there table root some = sym (ap is_some (find-shapes table root) ∙ same_presence (find table.roots root)) ∙ some

pub root_lacking : (table : Table) (root : List ℕ) → find (layout_of table).roots root ≡ None → find table.roots root ≡ None
root_lacking table root none = by_option _ (find table.roots root)
    (λ (image : Image) e. absurd (cc (none, find-shapes table root, ap (option_map shape_of_image) e)))
    (λ lacking. lacking)

module _ (table : Table) (is : IsTable table) (name : List ℕ) (new : find table.buffers name ≡ None) where
  pub no_image_yet : find table.roots name ≡ None
  no_image_yet = root_lacking table name (no_root (layout_of table) is.layout name new)

  -- ---- a buffer of a root that is there

  module _ (view : View) where
    pub IsAdded-with_view : IsAdded table name (cut (root_image table view.root) view.extent) (with_view table name view)
    IsAdded-with_view = record {
      new = new;
      shows = rw (find-new table.buffers name view new) refl;
      others = λ other apart. ap (seen table) (find-other table.buffers other name view apart);
      roots = λ other apart. ap (option_map (λ (v : View). v.root)) (find-other table.buffers other name view apart);
      count = length-append table.buffers ((name, view) ∷ []) ∙ omega arith;
    }

    pub root-with_view : root_of (with_view table name view) name ≡ Some view.root
    root-with_view = rw (find-new table.buffers name view new) refl

  -- ---- a buffer and its root

  module _ (image : Image) (extent : Rectangle) where
    abbrev view : View
    view = record { root = name; extent = extent }

    root_image-kept : (q : List ℕ) → IsSome (find table.roots q) → root_image (with_root table name image extent) q ≡ root_image table q
    root_image-kept q some = by_value _ (find table.roots q) some
        (λ (x : Image) e. rw (find-kept table.roots q name image x e, e) refl)

    root_image-new : root_image (with_root table name image extent) name ≡ image
    root_image-new = rw (find-new table.roots name image no_image_yet) refl

    seen-kept : (o : Option View) → IfSome o (IsRooted (layout_of table)) → seen (with_root table name image extent) o ≡ seen table o
    seen-kept (Some old) rooted = ap (λ (i : Image). cut i old.extent) (root_image-kept old.root (root_there table old.root rooted.root))
    seen-kept None rooted = refl

    pub IsAdded-with_root : IsAdded table name (cut image extent) (with_root table name image extent)
    IsAdded-with_root = record {
      new = new;
      shows = rw (find-new table.buffers name view new) (ap (λ (i : Image). cut i extent) root_image-new);
      others = λ other apart. ap (seen (with_root table name image extent)) (find-other table.buffers other name view apart)
          ∙ seen-kept (find table.buffers other) (is.layout.rooted other);
      roots = λ other apart. ap (option_map (λ (v : View). v.root)) (find-other table.buffers other name view apart);
      count = length-append table.buffers ((name, view) ∷ []) ∙ omega arith;
    }

    pub HasOwnRoot-with_root : HasOwnRoot (with_root table name image extent) name
    HasOwnRoot-with_root = record {
      root = rw (find-new table.buffers name view new) refl;
      alone = λ other apart on. foreign (find table.buffers other) (is.layout.rooted other)
          (sym (ap (option_map (λ (v : View). v.root)) (find-other table.buffers other name view apart)) ∙ on);
    }
      where
        foreign : (o : Option View) → IfSome o (IsRooted (layout_of table)) → option_map (λ (v : View). v.root) o ≡ Some name → ⊥
        foreign (Some old) rooted on =
            let here : old.root ≡ name = cc on in
            let there = root_there table old.root rooted.root in
            let none = no_image_yet in
            cc (there, none, ap (find table.roots) here)
        foreign None rooted on = cc

    -- the new root's image is whole where the one it is made of is
    pub whole-with_root : IsImage image → (root : List ℕ) → IfSome (find (with_root table name image extent).roots root) IsImage
    whole-with_root whole root = find-either IsImage table.roots root name image no_image_yet (λ _. whole) (is.whole root)
