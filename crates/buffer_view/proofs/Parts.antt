-- Roots that are read or shared, by their numbers.
use Rattle.std.proofs.Common.{◌≡◌, ℕ, zero, suc, ◌<◌, Bool, true, false, cond, List, [], ◌∷◌, length, map, get_or, unwrap_or, Option, Some, None, refl, sym, ap, subst, ◌∙◌, arith}
use Rattle.std.specs.Prelude.{IfSome, slice_get}
use Rattle.std.specs.Option.{IsSomeAnd, option_map}
use Rattle.std.specs.Str.{bytes_eq}
use Rattle.chain_owners.specs.Held.{Held}
use Rattle.model_buffers.specs.Layout.{AreDistinct, find}
use Rattle.model_buffers.specs.Table.{Table, root_image as table_root}
use Rattle.model_buffers.proofs.FindLaws.{apart_test, same_name}
use Rattle.model_graphs.specs.Shapes.{Shape}
use Rattle.model_images.specs.Image.{Image}
use Rattle.model_images.specs.Paint.{cut, no_image}
use Rattle.model_images.specs.Raw.{raw}
use Rattle.plane_rect.specs.Rectangle.{Rectangle}
use Rattle.root_tiles.specs.Roots.{IsPartOf, RootTiles, root_image, root_shape}
use Rattle.buffer_view.specs.BufferTables.{BufferTable, IsBufferTable, image_over, images_over, table_of}
use Rattle.buffer_view.proofs.Changed.{distinct-rest, first-apart}
use Rattle.buffer_view.proofs.RootLists.{entry_shape}

-- the shape of the root of a number
pub shape-numbered : (n : ℕ) (entries : List (List ℕ × Shape)) (roots : List RootTiles) (root : RootTiles) (name : List ℕ) (shape : Shape)
    → map root_shape roots ≡ map entry_shape entries → slice_get entries n ≡ Some (name, shape) → get_or roots n root ≡ root → root_shape root ≡ shape
shape-numbered n [] roots root name shape same there is = absurd (cc)
shape-numbered n (entry ∷ entries) [] root name shape same there is = absurd (cc)
shape-numbered zero (entry ∷ entries) (first ∷ roots) root name shape same there is =
    let here : entry ≡ (name, shape) = cc in
    let first_is : root_shape first ≡ entry_shape entry = cc in
    ap root_shape (sym is) ∙ first_is ∙ ap entry_shape here
shape-numbered (suc n) (entry ∷ entries) (first ∷ roots) root name shape same there is = shape-numbered n entries roots root name shape (cc) there is

-- a number of the layout's is one of the roots
pub number-below : (n : ℕ) (entries : List (List ℕ × Shape)) (roots : List RootTiles) (entry : List ℕ × Shape)
    → map root_shape roots ≡ map entry_shape entries → slice_get entries n ≡ Some entry → n < length roots
number-below n [] roots entry same there = absurd (cc)
number-below n (e ∷ entries) [] entry same there = absurd (cc)
number-below zero (e ∷ entries) (first ∷ roots) entry same there = omega arith
number-below (suc n) (e ∷ entries) (first ∷ roots) entry same there = omega (arith, number-below n entries roots entry (cc) there)

-- its image is found by its name
pub found-numbered : (held : Held) (n : ℕ) (entries : List (List ℕ × Shape)) (roots : List RootTiles) (root : RootTiles) (name : List ℕ) (shape : Shape)
    → slice_get entries n ≡ Some (name, shape) → AreDistinct entries → n < length roots → get_or roots n root ≡ root
    → find (images_over held entries roots) name ≡ Some (image_over held root)
found-numbered held n [] roots root name shape there distinct below is = absurd (cc)
found-numbered held n (entry ∷ entries) [] root name shape there distinct below is = absurd (omega (arith, below))
found-numbered held zero (entry ∷ entries) (first ∷ roots) root name shape there distinct below is =
    let here : entry ≡ (name, shape) = cc in
    let hit : bytes_eq name entry.0 ≡ true = ap (λ (e : List ℕ × Shape). bytes_eq name e.0) here ∙ same_name name in
    ap (λ (b : Bool). cond b (Some (image_over held first)) (find (images_over held entries roots) name)) hit
    ∙ ap (λ (r : RootTiles). Some (image_over held r)) is
found-numbered held (suc n) (entry ∷ entries) (first ∷ roots) root name shape there distinct below is =
    let miss : bytes_eq name entry.0 ≡ false = apart_test name entry.0 (first-apart entry entries n name shape distinct there) in
    ap (λ (b : Bool). cond b (Some (image_over held first)) (find (images_over held entries roots) name)) miss
    ∙ found-numbered held n entries roots root name shape there (distinct-rest entry entries distinct) (omega (arith, below)) is

module _ (buffers : BufferTable) (held : Held) (is : IsBufferTable buffers) (n : ℕ) (root : RootTiles) (name : List ℕ) (shape : Shape)
    (there : slice_get buffers.layout.roots n ≡ Some (name, shape)) (here : get_or buffers.roots n root ≡ root) where
  abbrev shown : Table
  shown = record { roots = images_over held buffers.layout.roots buffers.roots; buffers = buffers.layout.buffers }

  pub root-shown : table_root shown name ≡ image_over held root
  root-shown =
      ap (λ (o : Option Image). unwrap_or o no_image)
      (found-numbered held n buffers.layout.roots buffers.roots root name shape there is.layout.root_names
      (number-below n buffers.layout.roots buffers.roots (name, shape) is.shapes there) here)

  -- the raw bytes of a part of the root
  pub part-shown : (r : Rectangle) (patch : Image) (bytes : List ℕ) → IsPartOf (root_image root held) r patch → patch.box ≡ r → bytes ≡ raw patch patch.box
      → IfSome (table_of buffers held) (λ (table : Table). bytes ≡ raw (cut (table_root table name) r) r)
  part-shown r patch bytes part box are = by held.content part
    where
      by : {X : Type 0} (o : Option X) → IsPartOf (option_map (λ (x : X). image_over held root) o) r patch
          → IfSome (option_map (λ (x : X). shown) o) (λ (table : Table). bytes ≡ raw (cut (table_root table name) r) r)
      by None known = tt
      by (Some x) known =
          are ∙ ap (raw patch) box ∙ ap (λ (i : Image). raw i r) (known ∙ ap (λ (i : Image). cut i r) (sym root-shown))

  pub format-shown : root.tiles.format ≡ shape.format
  format-shown = ap (λ (s : Shape). s.format) (shape-numbered n buffers.layout.roots buffers.roots root name shape is.shapes there here)

-- what holds of the shape of a number is true of the root
module _ (buffers : BufferTable) (is : IsBufferTable buffers) (n : ℕ) where
  pub entry-below : (P : List ℕ × Shape → Type 0) → IsSomeAnd (slice_get buffers.layout.roots n) P → n < length buffers.roots
  entry-below P has = by (slice_get buffers.layout.roots n) refl has
    where
      by : (o : Option (List ℕ × Shape)) → slice_get buffers.layout.roots n ≡ o → IsSomeAnd o P → n < length buffers.roots
      by None e h = absurd h
      by (Some entry) e h = number-below n buffers.layout.roots buffers.roots entry is.shapes e

  pub entry-holds : (P : Shape → Type 0) (root : RootTiles) → get_or buffers.roots n root ≡ root
      → IsSomeAnd (slice_get buffers.layout.roots n) (λ (entry : List ℕ × Shape). P entry.1) → P (root_shape root)
  entry-holds P root here has = by (slice_get buffers.layout.roots n) refl has
    where
      by : (o : Option (List ℕ × Shape)) → slice_get buffers.layout.roots n ≡ o → IsSomeAnd o (λ (entry : List ℕ × Shape). P entry.1) → P (root_shape root)
      by None e h = absurd h
      by (Some entry) e h = subst P (sym (shape-numbered n buffers.layout.roots buffers.roots root entry.0 entry.1 is.shapes e here)) h
