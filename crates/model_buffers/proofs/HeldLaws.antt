-- The laws of tables whose roots are held by tiles.
use Rattle.std.proofs.Common.{◌≡◌, ℕ, suc, ◌<◌, Bool, true, false, cond, List, [], ◌∷◌, ◌++◌, map, length, get_or, Option, Some, None, refl, sym, ap, ◌∙◌, subst, arith}
use Rattle.std.specs.Prelude.{IfSome, option_map, unwrap_or}
use Rattle.std.specs.Option.{option_map_or}
use Rattle.std.specs.Str.{bytes_eq}
use Rattle.std.proofs.lemmas.List.{map-append}
use Rattle.std.proofs.lemmas.Simd.{map-map}
use Rattle.plane_rect.specs.Rectangle.{Rectangle, empty}
use Rattle.plane_rect.specs.Tile.{Tile, tile_at, tile_square}
use Rattle.pixel_formats.specs.declared.format.Format.{Format}
use Rattle.pixel_formats.specs.declared.format.Format.TheVariants.{Y8}
use Rattle.model_images.specs.FromRaw.{pixels_from_raw}
use Rattle.model_images.specs.Image.{Image, IsImage, at, is_inside}
use Rattle.model_images.specs.Paint.{blank, cut, no_image, painted}
use Rattle.model_images.specs.Tiles.{HeldTiles, held_image, held_pixels}
use Rattle.model_images.proofs.HeldTiles.{image-held, part-held}
use Rattle.model_images.proofs.Laws.{IsImage-image_from_fn, generated_equal}
use Rattle.model_graphs.specs.Shapes.{Shape, no_shape, shape_of_image}
use Rattle.model_buffers.specs.BufferEdit.{added, layout_with, layout_with_duplicate, layout_with_part, layout_with_root, part_of}
use Rattle.model_buffers.specs.Edits.{by_view, table_with, with_root, with_view, written}
use Rattle.model_buffers.specs.Held.{ArePainted, AreSameBut, HeldRoots, held_root, held_table}
use Rattle.model_buffers.specs.Layout.{IsLayout, TableLayout, View, find, root_shape, view_shape}
use Rattle.model_buffers.specs.Table.{IsTable, layout_of, image_of, root_image, seen}
use Rattle.model_buffers.specs.declared.edit.BufferEdit.TheVariants.{Create, Duplicate, Sub}
use Rattle.model_buffers.proofs.LayoutLaws.{rooted_view}
use Rattle.model_buffers.proofs.FindLaws.{find-listed, find-mapped, name_from_test, same_name, unlisted}

-- ---- lists

map-entries : {X Y : Type 0} (f g : X → Y) (xs : List X) → ((i : ℕ) (d : X) → i < length xs → f (get_or xs i d) ≡ g (get_or xs i d)) → map f xs ≡ map g xs
map-entries f g [] same = refl
map-entries {Y = Y} f g (x ∷ xs) same =
    ap (λ (y : Y). y ∷ map f xs) (same 0 x (omega arith))
    ∙ ap (λ (ys : List Y). g x ∷ ys) (map-entries f g xs (λ i d below. same (suc i) d (omega (arith, below))))

-- ---- images of tiles

tiles-same : (box : Rectangle) (format : Format) (held later : HeldTiles) → ((tile : Tile) → later tile ≡ held tile) → held_image box format later ≡ held_image box format held
tiles-same box format held later same =
    generated_equal box format (held_pixels format later) (held_pixels format held)
    (λ u v c there known. ap (λ (o : Option (List ℕ)). option_map_or (λ bytes. pixels_from_raw (tile_square (tile_at u v)) format bytes u v c) o 0) (same (tile_at u v)))

-- ---- tables of tiles

module _ (layout : TableLayout) (held : HeldRoots) where
  abbrev entry : List ℕ × Shape → List ℕ × Image
  entry e = (e.0, held_root held e.0 e.1)

  abbrev shaped : List ℕ × Image → List ℕ × Shape
  shaped e = (e.0, shape_of_image e.1)

  shapes-again : (roots : List (List ℕ × Shape)) → map shaped (map entry roots) ≡ roots
  shapes-again [] = refl
  shapes-again (e ∷ roots) = ap (λ (rest : List (List ℕ × Shape)). e ∷ rest) (shapes-again roots)

  pub held-layout : layout_of (held_table layout held) ≡ layout
  held-layout = ap (λ (roots : List (List ℕ × Shape)). record { roots = roots; buffers = layout.buffers }) (shapes-again layout.roots)

  found : (root : List ℕ) → find (held_table layout held).roots root ≡ option_map (held_root held root) (find layout.roots root)
  found root = find-mapped (held_root held) layout.roots root

  pub held-table : IsLayout layout → IsTable (held_table layout held)
  held-table is = record {
    layout = subst IsLayout (sym held-layout) is;
    whole = λ root. subst (λ (o : Option Image). IfSome o IsImage) (sym (found root)) (of root (find layout.roots root));
  }
    where
      of : (root : List ℕ) (o : Option Shape) → IfSome (option_map (held_root held root) o) IsImage
      of root (Some shape) = IsImage-image_from_fn shape.box shape.format (held_pixels shape.format (held root))
      of root None = tt

  pub held-root : (root : List ℕ) → root_image (held_table layout held) root ≡ held_root held root (root_shape layout root)
  held-root root = rw (found root) (of (find layout.roots root))
    where
      of : (o : Option Shape) → unwrap_or (option_map (held_root held root) o) no_image ≡ held_root held root (unwrap_or o no_shape)
      of (Some shape) = refl
      of None = generated_equal empty Y8 (λ u v c. 0) (held_pixels Y8 (held root)) (λ u v c there known. absurd (omega (arith, there.column)))

  pub held-buffer : (name : List ℕ) (view : View) → IsLayout layout → find layout.buffers name ≡ Some view
      → image_of (held_table layout held) name ≡ held_root held view.root (view_shape layout view)
  held-buffer name view is e =
      let shape = root_shape layout view.root in
      ap (seen (held_table layout held)) e
      ∙ ap (λ (image : Image). cut image view.extent) (held-root view.root)
      ∙ part-held shape.box view.extent shape.format (held view.root) (rooted_view layout is name view e).inside

  -- ---- buffers more

  module _ (later : HeldRoots) (name : List ℕ) (new : find layout.roots name ≡ None) (same : AreSameBut name held later) where
    abbrev later_entry : List ℕ × Shape → List ℕ × Image
    later_entry e = (e.0, held_root later e.0 e.1)

    others-same : map later_entry layout.roots ≡ map entry layout.roots
    others-same = map-entries later_entry entry layout.roots (λ i d below.
        let e = get_or layout.roots i d in
        let apart = unlisted layout.roots name new i d below in
        ap (λ (image : Image). let pair : List ℕ × Image = (e.0, image) in pair)
        (tiles-same e.1.box e.1.format (held e.0) (later e.0) (λ tile. same e.0 tile apart)))

    root-more : (shape : Shape) (extent : Rectangle) (image : Image) → held_root later name shape ≡ image
        → held_table (layout_with_root layout name shape extent) later ≡ with_root (held_table layout held) name image extent
    root-more shape extent image is =
        ap (λ (roots : List (List ℕ × Image)). record { roots = roots; buffers = added layout.buffers name (record { root = name; extent = extent }) })
        (map-append later_entry layout.roots ((name, shape) ∷ [])
        ∙ ap (λ (first : List (List ℕ × Image)). first ++ (name, held_root later name shape) ∷ []) others-same
        ∙ ap (λ (i : Image). map entry layout.roots ++ (name, i) ∷ []) is)

    pub created-tiles : (format : Format) (extent : Rectangle) → ((tile : Tile) → later name tile ≡ None)
        → held_table (layout_with layout (Create name format extent)) later ≡ table_with (held_table layout held) (Create name format extent)
    created-tiles format extent none =
        root-more (record { box = extent; format = format }) extent (blank extent format)
        (tiles-same extent format (λ tile. None) (later name) none)

    pub duplicated-tiles : (from : List ℕ) (view : View) → find layout.buffers from ≡ Some view → ((tile : Tile) → later name tile ≡ held view.root tile)
        → held_table (layout_with layout (Duplicate name from)) later ≡ table_with (held_table layout held) (Duplicate name from)
    duplicated-tiles from view e tiles =
        ap (λ (o : Option View). held_table (layout_with_duplicate layout name o) later) e
        ∙ root-more shape view.extent (root_image (held_table layout held) view.root)
        (tiles-same shape.box shape.format (held view.root) (later name) tiles ∙ sym (held-root view.root))
        ∙ sym (ap (λ (o : Option View). by_view (held_table layout held) o (λ view. with_root (held_table layout held) name (root_image (held_table layout held) view.root) view.extent)) e)
      where
        shape : Shape
        shape = root_shape layout view.root

  pub part-tiles : (name parent : List ℕ) (r : Rectangle) → held_table (layout_with layout (Sub name parent r)) held ≡ table_with (held_table layout held) (Sub name parent r)
  part-tiles name parent r = of (find layout.buffers parent)
    where
      of : (o : Option View) → held_table (layout_with_part layout name r o) held ≡ by_view (held_table layout held) o (λ view. with_view (held_table layout held) name (part_of view r))
      of (Some view) = refl
      of None = refl

  -- ---- written samples

  module _ (later : HeldRoots) (root : List ℕ) (r : Rectangle) (f : ℕ → ℕ → ℕ → ℕ) (is : IsLayout layout) (same : AreSameBut root held later) (tiles : ArePainted held later root (root_shape layout root) r f) where
    abbrev changed : List ℕ × Image → List ℕ × Image
    changed e = (e.0, cond (bytes_eq root e.0) (painted e.1 r f) e.1)

    -- the root itself
    own : (name : List ℕ) (shape : Shape) → root ≡ name → root_shape layout root ≡ shape → held_root later name shape ≡ painted (held_root held name shape) r f
    own name shape here is_shape =
        let painted_there : ArePainted held later name shape r f =
        subst (λ (q : List ℕ). ArePainted held later q shape r f) here (subst (λ (s : Shape). ArePainted held later root s r f) is_shape tiles) in
        let image = held_root held name shape in
        image-held (painted image r f) (later name) (IsImage-image_from_fn shape.box shape.format (λ u v c. cond (is_inside u v r) (f u v c) (at image u v c))) painted_there

    one : (i : ℕ) (d : List ℕ × Shape) → i < length layout.roots → (let e = get_or layout.roots i d in
        held_root later e.0 e.1 ≡ cond (bytes_eq root e.0) (painted (held_root held e.0 e.1) r f) (held_root held e.0 e.1))
    one i d below = cases (bytes_eq root e.0) refl
      where
        e : List ℕ × Shape
        e = get_or layout.roots i d

        cases : (b : Bool) → bytes_eq root e.0 ≡ b → held_root later e.0 e.1 ≡ cond b (painted (held_root held e.0 e.1) r f) (held_root held e.0 e.1)
        cases true t =
            let here = name_from_test root e.0 t in
            own e.0 e.1 here (ap (λ (q : List ℕ). unwrap_or (find layout.roots q) no_shape) here ∙ ap (λ (o : Option Shape). unwrap_or o no_shape) (find-listed layout.roots is.root_names i d below))
        cases false t =
            tiles-same e.1.box e.1.format (held e.0) (later e.0) (λ tile. same e.0 tile (λ here. cc (t, same_name root, here)))

    pub written-tiles : held_table layout later ≡ written (held_table layout held) root r f
    written-tiles =
        ap (λ (roots : List (List ℕ × Image)). record { roots = roots; buffers = layout.buffers })
        (map-entries (λ (e : List ℕ × Shape). let pair : List ℕ × Image = (e.0, held_root later e.0 e.1) in pair) (λ e. changed (entry e)) layout.roots
        (λ i d below. ap (λ (image : Image). let pair : List ℕ × Image = ((get_or layout.roots i d).0, image) in pair) (one i d below))
        ∙ sym (map-map changed entry layout.roots))
