-- Images of views that tiles hold, one tile after another.
use Rattle.std.proofs.Common.{◌≡◌, ℕ, ◌*◌, ◌<◌, ◌⊎◌, inl, inr, Bool, true, false, cond, List, [], ◌∷◌, Contains, get_or, replicate, Option, Some, None, refl, sym, ap, subst, ◌∙◌, arith}
use Rattle.std.specs.Prelude.{IfSome, unwrap_or}
use Rattle.std.specs.Map.{lookup}
use Rattle.std.specs.Option.{option_map}
use Rattle.buffer_layouts.specs.Views.{root_view}
use Rattle.buffer_layouts.specs.declared.views.RootView.{RootView}
use Rattle.chain_owners.specs.Held.{Held}
use Rattle.frozen_images.specs.Frozen.{FrozenTiles, bytes_in, frozen_image}
use Rattle.indexmap.specs.IndexMap.{insert_entry}
use Rattle.level_tables.specs.LevelTiles.{bytes_in as bytes_of_tiles}
use Rattle.model_buffers.specs.Layout.{buffer_shape}
use Rattle.model_images.specs.FromRaw.{pixels_from_raw}
use Rattle.model_images.specs.Image.{Image, IsImage, at as sample}
use Rattle.model_images.specs.Paint.{cut}
use Rattle.model_images.specs.Raw.{tile_bytes}
use Rattle.model_images.specs.Tiles.{AreZeroOutside, held_image, tile_or_zeros}
use Rattle.model_images.proofs.HeldTiles.{image-held}
use Rattle.model_images.proofs.Laws.{IsImage-image_from_fn, at_outside}
use Rattle.model_images.proofs.RawLaws.{raw-samples}
use Rattle.pixel_formats.specs.Format.{channels, pixel_bytes}
use Rattle.pixel_formats.specs.declared.format.Format.{Format}
use Rattle.plane_rect.specs.Rectangle.{Includes, Rectangle}
use Rattle.plane_rect.specs.SameTile.{same_tile-laws, same_tile-true}
use Rattle.plane_rect.specs.Tile.{Meets, Tile, same_tile, tile_square}
use Rattle.plane_rect.proofs.Lists.{Contains-cases}
use Rattle.root_tiles.specs.Roots.{RootTiles}
use Rattle.view_reads.specs.Views.{view_image}
use Rattle.view_reads.proofs.ViewTiles.{always, both-known, if-known}
use Rattle.buffer_view.specs.BufferTables.{BufferTable, IsBufferTable, image_over, table_of}
use Rattle.buffer_view.specs.Freezing.{IsFrozenBuffer, IsFrozenImage, IsFrozenOver, with_held}
use Rattle.buffer_view.proofs.RootReads.{box-of-buffer, format-of-buffer, image-shown, shown}

-- ---- bytes that encode zeros outside an extent

pub part-zero : (part : Image) (extent : Rectangle) (format : Format) (t : Tile) (bytes : List ℕ) → part.format ≡ format → Includes extent part.box
    → bytes ≡ tile_bytes part t → AreZeroOutside extent format t bytes
part-zero part extent format t bytes same all is = λ u v c there out known.
    ap (λ (b : List ℕ). pixels_from_raw (tile_square t) format b u v c) is
    ∙ sym (ap (λ (f : Format). pixels_from_raw (tile_square t) f (tile_bytes part t) u v c) same)
    ∙ raw-samples part (tile_square t) u v c there (subst (λ (f : Format). c < channels f) (sym same) known)
    ∙ at_outside part u v c (λ inside. out (all u v inside))

-- ---- tiles that are held, with one more

pub inserted-here : (held : List (Tile × List ℕ)) (at : Tile) (bytes : List ℕ) → lookup (same_tile at) (insert_entry same_tile held at bytes) ≡ Some bytes
inserted-here [] at bytes = ap (λ (b : Bool). cond b (Some bytes) None) (same_tile-laws.refl at)
inserted-here (entry ∷ held) at bytes = by (inserted-here held at bytes) (same_tile at entry.0) refl
  where
    by : lookup (same_tile at) (insert_entry same_tile held at bytes) ≡ Some bytes → (b : Bool) → same_tile at entry.0 ≡ b
        → lookup (same_tile at) (cond b ((entry.0, bytes) ∷ held) (entry ∷ insert_entry same_tile held at bytes)) ≡ Some bytes
    by later true is = ap (λ (b : Bool). cond b (Some bytes) (lookup (same_tile at) held)) is
    by later false is =
        ap (λ (b : Bool). cond b (Some entry.1) (lookup (same_tile at) (insert_entry same_tile held at bytes))) is
        ∙ later

pub inserted-other : (held : List (Tile × List ℕ)) (at t : Tile) (bytes : List ℕ) → same_tile t at ≡ false
    → lookup (same_tile t) (insert_entry same_tile held at bytes) ≡ lookup (same_tile t) held
inserted-other [] at t bytes other = ap (λ (b : Bool). cond b (Some bytes) None) other
inserted-other (entry ∷ held) at t bytes other = by (inserted-other held at t bytes other) (same_tile at entry.0) refl
  where
    by : lookup (same_tile t) (insert_entry same_tile held at bytes) ≡ lookup (same_tile t) held → (b : Bool) → same_tile at entry.0 ≡ b
        → lookup (same_tile t) (cond b ((entry.0, bytes) ∷ held) (entry ∷ insert_entry same_tile held at bytes)) ≡ lookup (same_tile t) (entry ∷ held)
    by later true is =
        let miss : same_tile t entry.0 ≡ false = ap (same_tile t) (sym (same_tile-true at entry.0 is)) ∙ other in
        ap (λ (b : Bool). cond b (Some bytes) (lookup (same_tile t) held)) miss
        ∙ sym (ap (λ (b : Bool). cond b (Some entry.1) (lookup (same_tile t) held)) miss)
    by later false is = ap (λ (o : Option (List ℕ)). cond (same_tile t entry.0) (Some entry.1) o) later

-- ---- an image of which some tiles are still to come

abbrev pub IsFrozenBut : FrozenTiles → List Tile → Image → Type 0
IsFrozenBut frozen rest image =
    (t : Tile) → Meets t image.box → Contains rest t ⊎ (tile_or_zeros image.format (bytes_in frozen) t ≡ tile_bytes image t)

frozen-next : (frozen new : FrozenTiles) (image : Image) (at : Tile) (rest : List Tile) → new ≡ with_held frozen at (tile_bytes image at)
    → IsFrozenBut frozen (at ∷ rest) image → IsFrozenBut new rest image
frozen-next frozen new image at rest is but = λ t meets. by t meets (same_tile t at) refl
  where
    here : tile_or_zeros image.format (bytes_in new) at ≡ tile_bytes image at
    here =
        ap (λ (o : Option (List ℕ)). unwrap_or o (replicate (4096 * pixel_bytes image.format) 0))
        (ap (λ (f : FrozenTiles). bytes_in f at) is ∙ inserted-here frozen.tiles at (tile_bytes image at))

    at-once : (t : Tile) → at ≡ t → tile_or_zeros image.format (bytes_in new) t ≡ tile_bytes image t
    at-once t same = subst (λ (x : Tile). tile_or_zeros image.format (bytes_in new) x ≡ tile_bytes image x) same here

    by : (t : Tile) → Meets t image.box → (b : Bool) → same_tile t at ≡ b
        → Contains rest t ⊎ (tile_or_zeros image.format (bytes_in new) t ≡ tile_bytes image t)
    by t meets true e = inr (at-once t (sym (same_tile-true t at e)))
    by t meets false e = elim (but t meets) [
      | inl left ↦ elim (Contains-cases at rest t left) [
        | inl same ↦ inr (at-once t same)
        | inr later ↦ inl later
      ]
      | inr held ↦ inr
          (ap (λ (o : Option (List ℕ)). unwrap_or o (replicate (4096 * pixel_bytes image.format) 0))
          (ap (λ (f : FrozenTiles). bytes_in f t) is ∙ inserted-other frozen.tiles at t (tile_bytes image at) e)
          ∙ held)
    ]

-- a whole image over the extent
record IsWholeView (extent : Rectangle) (format : Format) (image : Image) : Type 0 where
  box : image.box ≡ extent
  format_is : image.format ≡ format
  whole : IsImage image

frozen-last : (frozen : FrozenTiles) (image : Image) (extent : Rectangle) (format : Format) → IsWholeView extent format image
    → frozen.box ≡ extent → frozen.format ≡ format → IsFrozenBut frozen [] image → frozen_image frozen ≡ image
frozen-last frozen image extent format view box form but =
    ap (λ (r : Rectangle). held_image r frozen.format (bytes_in frozen)) (box ∙ sym view.box)
    ∙ ap (λ (f : Format). held_image image.box f (bytes_in frozen)) (form ∙ sym view.format_is)
    ∙ image-held image (bytes_in frozen) view.whole (λ t meets. elim (but t meets) [
      | inl left ↦ absurd (omega (arith, left.1))
      | inr held ↦ held
    ])

module _ (root : RootTiles) (extent : Rectangle) (held : Held) where
  abbrev pub AreFrozenBut : FrozenTiles → List Tile → Type 0
  AreFrozenBut frozen rest = IfSome (view_image root extent held) (IsFrozenBut frozen rest)

  whole-view : IfSome (view_image root extent held) (IsWholeView extent root.tiles.format)
  whole-view =
      let image : Image = held_image root.box root.tiles.format (bytes_of_tiles held root.tiles.put) in
      always held.content image (λ known. cut known extent) (IsWholeView extent root.tiles.format)
      (record { box = refl; format_is = refl; whole = IsImage-image_from_fn extent root.tiles.format (sample image) })

  pub view-first : (frozen : FrozenTiles) (tiles : List Tile) → ((t : Tile) → Meets t extent → Contains tiles t) → AreFrozenBut frozen tiles
  view-first frozen tiles all =
      if-known (view_image root extent held) (IsWholeView extent root.tiles.format) (IsFrozenBut frozen tiles)
      (λ image view t meets. inl (all t (subst (λ (r : Rectangle). Meets t r) view.box meets))) whole-view

  pub view-next : (frozen new : FrozenTiles) (at : Tile) (rest before : List Tile) → before ≡ at ∷ rest
      → IfSome (view_image root extent held) (λ image. new ≡ with_held frozen at (tile_bytes image at)) → AreFrozenBut frozen before → AreFrozenBut new rest
  view-next frozen new at rest before steps is but =
      both-known (view_image root extent held) (λ image. new ≡ with_held frozen at (tile_bytes image at)) (IsFrozenBut frozen before) (IsFrozenBut new rest)
      (λ image one others. frozen-next frozen new image at rest one (subst (λ (ts : List Tile). IsFrozenBut frozen ts image) steps others)) is but

  pub view-last : (frozen : FrozenTiles) (rest : List Tile) → rest ≡ [] → IsFrozenOver (record { box = extent; format = root.tiles.format }) frozen
      → AreFrozenBut frozen rest → IsFrozenImage (view_image root extent held) frozen
  view-last frozen rest none over but =
      both-known (view_image root extent held) (IsWholeView extent root.tiles.format) (IsFrozenBut frozen rest) (λ image. frozen_image frozen ≡ image)
      (λ image view others. frozen-last frozen image extent root.tiles.format view over.box over.format
      (subst (λ (ts : List Tile). IsFrozenBut frozen ts image) none others)) whole-view but

-- ---- of buffers

module _ (buffers : BufferTable) (held : Held) (is : IsBufferTable buffers) (name : List ℕ) (seen : RootView) (target : root_view buffers.layout name ≡ Some seen)
    (root : RootTiles) (here : get_or buffers.roots seen.root root ≡ root) where
  pub frozen-shape : (frozen : FrozenTiles) → IsFrozenOver (record { box = seen.extent; format = root.tiles.format }) frozen
      → IsFrozenOver (buffer_shape buffers.layout name) frozen
  frozen-shape frozen over = record {
    box = over.box ∙ box-of-buffer buffers held is name seen target root here;
    format = over.format ∙ format-of-buffer buffers held is name seen target root here;
  }

  pub frozen-shown : (frozen : FrozenTiles) → IsFrozenImage (view_image root seen.extent held) frozen → IsFrozenBuffer (table_of buffers held) name frozen
  frozen-shown frozen known = by held.content known
    where
      by : {X : Type 0} (o : Option X) → IsFrozenImage (option_map (λ (image : Image). cut image seen.extent) (option_map (λ (x : X). image_over held root) o)) frozen
          → IsFrozenBuffer (option_map (λ (x : X). shown buffers held is name seen target root here) o) name frozen
      by None frozen_is = tt
      by (Some x) frozen_is = frozen_is ∙ sym (image-shown buffers held is name seen target root here)
