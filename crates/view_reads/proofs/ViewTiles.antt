-- Tiles of views, and of their levels, that are those of roots, or of parts of them.
use Rattle.std.proofs.Common.{◌≡◌, ℕ, ◌*◌, List, length, replicate, Option, Some, None, refl, sym, ap, subst, ◌∙◌, arith}
use Rattle.std.specs.Prelude.{IfSome}
use Rattle.std.specs.Option.{option_map}
use Rattle.chain_owners.specs.Held.{Held}
use Rattle.level_tables.specs.LevelTiles.{bytes_in}
use Rattle.level_tables.specs.Over.{IsTileOfLevel, tile_length}
use Rattle.model_images.specs.Image.{Image, at}
use Rattle.model_images.specs.Level.{level, source_of_level}
use Rattle.model_images.specs.Paint.{cut}
use Rattle.model_images.specs.Raw.{tile_bytes}
use Rattle.model_images.specs.Tiles.{held_image}
use Rattle.model_images.proofs.AgreeingLevels.{level-zeros, levels-local-bytes}
use Rattle.model_images.proofs.Agreeing.{cut-cut}
use Rattle.model_images.proofs.ByteLaws.{length-tile_bytes}
use Rattle.model_images.proofs.Laws.{at_outside, generated_equal}
use Rattle.model_images.proofs.LevelLaws.{level-zero}
use Rattle.model_images.proofs.RawLaws.{raw-over}
use Rattle.pixel_formats.specs.Format.{pixel_bytes}
use Rattle.pixel_formats.specs.declared.format.Format.{Format}
use Rattle.plane_rect.specs.Rectangle.{Includes, Inside, IsRectangle, Rectangle, meet}
use Rattle.plane_rect.specs.Tile.{Tile, plane, tile_rectangle, tile_square}
use Rattle.plane_rect.proofs.Rectangles.{Inside-meet}
use Rattle.root_tiles.specs.Roots.{IsPartOf, IsRootOver, RootTiles, root_image}
use Rattle.view_reads.specs.Views.{IsPartOfLevel, view_image}
use Rattle.view_reads.proofs.Cuts.{cuts-agree, whole-agrees}

-- a tile of a part of a root has as many bytes as the root's
pub length-part : (t : Tile) (patch : Image) (format : Format) (bytes : List ℕ) → bytes ≡ tile_bytes patch t → patch.format ≡ format
    → length bytes ≡ tile_length format
length-part t patch format bytes tile same =
    ap (λ (bytes : List ℕ). length bytes) tile ∙ length-tile_bytes patch t ∙ ap (λ (f : Format). 4096 * pixel_bytes f) same

-- what holds of a root's image holds of its view's
pub by-content : {X : Type 0} (content : Option X) (image : Image) (f : Image → Image) (P Q : Image → Type 0) → (P image → Q (f image))
    → IfSome (option_map (λ (x : X). image) content) P → IfSome (option_map f (option_map (λ (x : X). image) content)) Q
by-content None image f P Q step is = tt
by-content (Some x) image f P Q step is = step is

pub always : {X : Type 0} (content : Option X) (image : Image) (f : Image → Image) (Q : Image → Type 0) → Q (f image)
    → IfSome (option_map f (option_map (λ (x : X). image) content)) Q
always None image f Q is = tt
always (Some x) image f Q is = is

pub both-known : (o : Option Image) (P Q R : Image → Type 0) → ((image : Image) → P image → Q image → R image) → IfSome o P → IfSome o Q → IfSome o R
both-known None P Q R step is and = tt
both-known (Some image) P Q R step is and = step image is and

pub if-known : (o : Option Image) (P Q : Image → Type 0) → ((image : Image) → P image → Q image) → IfSome o P → IfSome o Q
if-known None P Q step is = tt
if-known (Some image) P Q step is = step image is

-- the box and the format of a view's image
pub record IsView (extent : Rectangle) (kind : Format) (image : Image) : Type 0 where
  pub box : image.box ≡ extent
  pub format : image.format ≡ kind

pub view-known : (root : RootTiles) (extent : Rectangle) (held : Held) → IfSome (view_image root extent held) (IsView extent root.tiles.format)
view-known root extent held =
    always held.content (held_image root.box root.tiles.format (bytes_in held root.tiles.put)) (λ image. cut image extent)
    (IsView extent root.tiles.format) (record { box = refl; format = refl })

pub first-level : (o : Option Image) (t : Tile) (bytes : List ℕ) → IsTileOfLevel o 0 t bytes → IfSome o (λ image. bytes ≡ tile_bytes image t)
first-level o t bytes =
    if-known o (λ image. bytes ≡ tile_bytes (level image 0) t) (λ image. bytes ≡ tile_bytes image t)
    (λ image is. is ∙ ap (λ (i : Image). tile_bytes i t) (level-zero image))

pub level-first : (o : Option Image) (t : Tile) (bytes : List ℕ) → IfSome o (λ image. bytes ≡ tile_bytes image t) → IsTileOfLevel o 0 t bytes
level-first o t bytes =
    if-known o (λ image. bytes ≡ tile_bytes image t) (λ image. bytes ≡ tile_bytes (level image 0) t)
    (λ image is. is ∙ ap (λ (i : Image). tile_bytes i t) (sym (level-zero image)))

module _ (root : RootTiles) (extent : Rectangle) (held : Held) (over : IsRootOver root held) (inside : Includes root.box extent) (is : IsRectangle extent) where
  abbrev whole : Image
  whole = held_image root.box root.tiles.format (bytes_in held root.tiles.put)

  -- a tile of a level of the root is the view's where the view contains all of the root that is averaged for it
  pub view-inside : (z : ℕ) (t : Tile) (bytes : List ℕ) → ((u v : ℕ) → Inside u v (source_of_level (tile_square t) z) → Inside u v root.box → Inside u v extent)
      → IsTileOfLevel (root_image root held) z t bytes → IsTileOfLevel (view_image root extent held) z t bytes
  view-inside z t bytes all =
      by-content held.content whole (λ image. cut image extent) (λ known. bytes ≡ tile_bytes (level known z) t) (λ known. bytes ≡ tile_bytes (level known z) t)
      (λ same. same ∙ levels-local-bytes whole (cut whole extent) z (tile_square t) over.rectangle is refl
      (whole-agrees whole extent (source_of_level (tile_square t) z) inside all))

  -- it is zero where nothing of the view is averaged for it
  pub view-outside : (z : ℕ) (t : Tile) (bytes : List ℕ) → ((u v : ℕ) → Inside u v (source_of_level (tile_square t) z) → ¬ Inside u v extent)
      → bytes ≡ replicate (tile_length root.tiles.format) 0 → IsTileOfLevel (view_image root extent held) z t bytes
  view-outside z t bytes none zero =
      always held.content whole (λ image. cut image extent) (λ known. bytes ≡ tile_bytes (level known z) t)
      (zero ∙ sym (level-zeros (cut whole extent) z (tile_square t) is (λ u v c there. at_outside (cut whole extent) u v c (none u v there))))

  -- where the view contains all of the root that a tile has
  pub tile-inside : (t : Tile) (bytes : List ℕ) → Includes extent (meet (tile_rectangle t) root.box)
      → IsTileOfLevel (root_image root held) 0 t bytes → IfSome (view_image root extent held) (λ image. bytes ≡ tile_bytes image t)
  tile-inside t bytes all tile =
      first-level (view_image root extent held) t bytes
      (view-inside 0 t bytes
      (λ u v square box.
      all u v ((Inside-meet u v (tile_rectangle t) root.box).1 ((Inside-meet u v (tile_square t) plane).1 (square, in-plane u v box), box)))
      tile)
    where
      in-plane : (u v : ℕ) → Inside u v root.box → Inside u v plane
      in-plane u v there = record {
        column = (omega arith, omega (arith, there.column, over.rectangle.columns));
        row = (omega arith, omega (arith, there.row, over.rectangle.rows));
      }

  -- a tile of a part of the root
  pub tile-part : (t : Tile) (patch : Image) (bytes : List ℕ) → IsPartOf (root_image root held) (meet extent (tile_rectangle t)) patch → bytes ≡ tile_bytes patch t
      → IfSome (view_image root extent held) (λ image. bytes ≡ tile_bytes image t)
  tile-part t patch bytes part tile =
      by-content held.content whole (λ image. cut image extent) (λ known. patch ≡ cut known (meet extent (tile_rectangle t))) (λ known. bytes ≡ tile_bytes known t)
      (λ same.
      tile ∙ ap (λ (i : Image). tile_bytes i t) same
      ∙ raw-over (cut whole (meet extent (tile_rectangle t))) (cut whole extent) (tile_square t) refl
      (cuts-agree whole (meet extent (tile_rectangle t)) extent (tile_square t)
      (λ u v square there. ((Inside-meet u v extent (tile_rectangle t)).0 there).0)
      (λ u v square there.
      (Inside-meet u v extent (tile_rectangle t)).1 (there, (Inside-meet u v (tile_square t) plane).1 (square, in-plane u v there)))))
      part
    where
      in-plane : (u v : ℕ) → Inside u v extent → Inside u v plane
      in-plane u v there = record {
        column = (omega arith, omega (arith, there.column, is.columns));
        row = (omega arith, omega (arith, there.row, is.rows));
      }

  -- the same where the part was asked for by the tile's square
  pub tile-part-of : (t : Tile) (square part : Rectangle) (patch : Image) (bytes : List ℕ) → square ≡ tile_rectangle t → part ≡ meet extent square
      → IsPartOf (root_image root held) part patch → bytes ≡ tile_bytes patch t → IfSome (view_image root extent held) (λ image. bytes ≡ tile_bytes image t)
  tile-part-of t square part patch bytes is_square is_part of tile =
      tile-part t patch bytes
      (subst (λ (r : Rectangle). IsPartOf (root_image root held) r patch) (is_part ∙ ap (λ (r : Rectangle). meet extent r) is_square) of) tile

  -- ---- parts

  pub part-same : (r part : Rectangle) (patch : Image) → part ≡ meet extent r → part ≡ r → IsPartOf (root_image root held) part patch
      → IsPartOf (view_image root extent held) r patch
  part-same r part patch shared same =
      by-content held.content whole (λ image. cut image extent) (λ known. patch ≡ cut known part) (λ known. patch ≡ cut known r)
      (λ cutted. cutted ∙ ap (cut whole) same ∙ sym (cut-cut whole extent r contains))
    where
      contains : Includes extent r
      contains u v there = ((Inside-meet u v extent r).0 (subst (λ (b : Rectangle). Inside u v b) (sym same ∙ shared) there)).0

  pub part-cut : (r part : Rectangle) (patch new : Image) → part ≡ meet extent r → IsPartOf (root_image root held) part patch → new ≡ cut patch r
      → IsPartOf (view_image root extent held) r new
  part-cut r part patch new shared exact is_new =
      by-content held.content whole (λ image. cut image extent) (λ known. patch ≡ cut known part) (λ known. new ≡ cut known r)
      (λ cutted.
      is_new
      ∙ ap (λ (i : Image). cut i r) cutted
      ∙ generated_equal r root.tiles.format (at (cut whole part)) (at (cut whole extent))
      (λ u v c there known. cuts-agree whole part extent r to from u v c there))
      exact
    where
      to : (u v : ℕ) → Inside u v r → Inside u v part → Inside u v extent
      to u v there in_part = ((Inside-meet u v extent r).0 (subst (λ (b : Rectangle). Inside u v b) shared in_part)).0

      from : (u v : ℕ) → Inside u v r → Inside u v extent → Inside u v part
      from u v there in_extent = subst (λ (b : Rectangle). Inside u v b) (sym shared) ((Inside-meet u v extent r).1 (in_extent, there))

pub part-first : (o : Option Image) (r : Rectangle) (patch : Image) → IsPartOf o r patch → IsPartOfLevel o 0 r patch
part-first o r patch =
    if-known o (λ known. patch ≡ cut known r) (λ known. patch ≡ cut (level known 0) r)
    (λ known is. is ∙ ap (λ (i : Image). cut i r) (sym (level-zero known)))
