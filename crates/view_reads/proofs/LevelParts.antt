-- Parts of levels of views, into which tiles are written one after another.
use Rattle.std.proofs.Common.{◌≡◌, ℕ, suc, ◌+◌, ◌<◌, inl, inr, List, [], ◌∷◌, Contains, refl, sym, ap, subst, ◌∙◌, arith}
use Rattle.std.specs.Prelude.{IfSome}
use Rattle.plane_rect.specs.Rectangle.{Inside, IsRectangle, Rectangle, meet}
use Rattle.plane_rect.specs.Tile.{Tile, plane, tile_at, tile_square}
use Rattle.plane_rect.proofs.Rectangles.{Inside-meet}
use Rattle.pixel_formats.specs.Format.{channels}
use Rattle.pixel_formats.specs.declared.format.Format.{Format}
use Rattle.chain_owners.specs.Held.{Held}
use Rattle.model_images.specs.FromRaw.{pixels_from_raw}
use Rattle.model_images.specs.Image.{Image, at, image_from_fn}
use Rattle.model_images.specs.Level.{halved_image, level, level_box, source_of_level}
use Rattle.model_images.specs.Paint.{blank, cut, put_raw}
use Rattle.model_images.specs.Raw.{tile_bytes}
use Rattle.model_images.proofs.Agreeing.{at-cut}
use Rattle.model_images.proofs.AgreeingLevels.{Inside-source_of_tile, level-box, levels-local-bytes}
use Rattle.model_images.proofs.Laws.{IsImage-image_from_fn, at-image_from_fn, at_outside}
use Rattle.model_images.proofs.LevelLaws.{IsRectangle-level, level-format, level-next, level-zero}
use Rattle.model_images.proofs.Positions.{by_positions}
use Rattle.model_images.proofs.RawLaws.{raw-samples}
use Rattle.root_tiles.specs.Roots.{RootTiles}
use Rattle.root_tiles.proofs.PatchTiles.{HasSamples, samples-last, samples-put}
use Rattle.view_reads.specs.Views.{view_image}
use Rattle.view_reads.proofs.Sources.{IsSource}
use Rattle.view_reads.proofs.ViewTiles.{IsView, both-known, if-known, view-known}

-- ---- a tile of the next level

pub rectangle-plane : (u v : ℕ) (r : Rectangle) → IsRectangle r → Inside u v r → Inside u v plane
rectangle-plane u v r is there = record {
  column = (omega arith, omega (arith, there.column, is.columns));
  row = (omega arith, omega (arith, there.row, is.rows));
}

-- it is averaged from all positions of the plane below it
half-exact : (known : Image) (z : ℕ) (square : Rectangle) (t : Tile) → IsRectangle known.box → IsRectangle square → IsSource 1 t square
    → tile_bytes (halved_image (cut (level known z) square)) t ≡ tile_bytes (level known (suc z)) t
half-exact known z square t is is_square source =
    let all = level known z in
    let part = cut all square in
    let next : z + 1 ≡ suc z = omega arith in
    ap (λ (i : Image). tile_bytes i t) (sym (level-next part 0 ∙ ap halved_image (level-zero part)))
    ∙ levels-local-bytes part all 1 (tile_square t) is_square (IsRectangle-level known z is) refl agree
    ∙ ap (λ (i : Image). tile_bytes i t) (level-next all 0 ∙ ap halved_image (level-zero all) ∙ sym (level-next known z) ∙ ap (level known) next)
  where
    agree : (u v c : ℕ) → Inside u v (source_of_level (tile_square t) 1) → at (cut (level known z) square) u v c ≡ at (level known z) u v c
    agree u v c there =
        by_positions _ u v square (at-cut (level known z) square u v c)
        (λ out.
        at_outside (cut (level known z) square) u v c out
        ∙ sym (at_outside (level known z) u v c
        (λ in_box. out ((source u v).1 (rectangle-plane u v (level known z).box (IsRectangle-level known z is) in_box, (Inside-source_of_tile u v t 1).0 there)))))

pub edge-exact : (root : RootTiles) (extent : Rectangle) (held : Held) (z n : ℕ) (square : Rectangle) (t : Tile) (part : Image) (bytes : List ℕ)
    → IsRectangle extent → IsRectangle square → IsSource 1 t square → n ≡ suc z
    → IfSome (view_image root extent held) (λ known. part ≡ cut (level known z) square) → bytes ≡ tile_bytes (halved_image part) t
    → IfSome (view_image root extent held) (λ known. bytes ≡ tile_bytes (level known n) t)
edge-exact root extent held z n square t part bytes is is_square source above exact half =
    both-known (view_image root extent held) (IsView extent root.tiles.format) (λ known. part ≡ cut (level known z) square) (λ known. bytes ≡ tile_bytes (level known n) t)
    (λ known view same.
    half
    ∙ ap (λ (i : Image). tile_bytes (halved_image i) t) same
    ∙ half-exact known z square t (subst IsRectangle (sym view.box) is) is_square source
    ∙ ap (λ (m : ℕ). tile_bytes (level known m) t) (sym above))
    (view-known root extent held) exact

-- ---- tiles written into a patch

-- each position of the patch has the image's sample, or is zero while its tile is still to come
abbrev pub Laid : Image → Image → List Tile → Type 0
Laid image patch rest = HasSamples (at image) patch rest

laid-first : (image : Image) (box : Rectangle) (format : Format) (tiles : List Tile)
    → ((u v : ℕ) → Inside u v box → Inside u v image.box → Contains tiles (tile_at u v)) → Laid image (blank box format) tiles
laid-first image box format tiles all = record {
  whole = IsImage-image_from_fn box format (λ u v c. 0);
  pixels = λ u v c there known.
      let none = at-image_from_fn box format (λ u v c. 0) u v c there known in
      by_positions _ u v image.box (λ in_image. inr (none, all u v there in_image)) (λ out. inl (none ∙ sym (at_outside image u v c out)));
}

laid-there : (image patch : Image) (t : Tile) (bytes : List ℕ) (rest : List Tile) → patch.format ≡ image.format → bytes ≡ tile_bytes image t
    → Laid image patch (t ∷ rest) → Laid image (put_raw patch (tile_square t) bytes) rest
laid-there image patch t bytes rest format is =
    samples-put (at image) patch t bytes rest
    (λ u v c there known.
    ap (λ (f : Format). pixels_from_raw (tile_square t) f bytes u v c) format
    ∙ ap (λ (b : List ℕ). pixels_from_raw (tile_square t) image.format b u v c) is
    ∙ raw-samples image (tile_square t) u v c there (subst (λ (f : Format). c < channels f) format known))

laid-last : (image patch : Image) (rest : List Tile) → rest ≡ [] → patch.format ≡ image.format → Laid image patch rest → patch ≡ cut image patch.box
laid-last image patch rest none format laid =
    samples-last (at image) patch rest none laid
    ∙ ap (λ (f : Format). image_from_fn patch.box f (at image)) format

-- the same of a level of a view, where it is known
abbrev pub LaidLevel : RootTiles → Rectangle → Held → ℕ → Image → List Tile → Type 0
LaidLevel root extent held z patch rest = IfSome (view_image root extent held) (λ known. Laid (level known z) patch rest)

module _ (root : RootTiles) (extent : Rectangle) (held : Held) (z : ℕ) where
  pub level-laid-first : (rect : Rectangle) (patch : Image) (tiles : List Tile) → patch ≡ blank rect root.tiles.format
      → ((u v : ℕ) → Inside u v (meet rect (level_box extent z)) → Contains tiles (tile_at u v)) → LaidLevel root extent held z patch tiles
  level-laid-first rect patch tiles is all =
      if-known (view_image root extent held) (IsView extent root.tiles.format) (λ known. Laid (level known z) patch tiles)
      (λ known view.
      let box : (level known z).box ≡ level_box extent z = level-box known z ∙ ap (λ (r : Rectangle). level_box r z) view.box in
      subst (λ (p : Image). Laid (level known z) p tiles) (sym is)
      (laid-first (level known z) rect root.tiles.format tiles
      (λ u v there in_level. all u v ((Inside-meet u v rect (level_box extent z)).1 (there, subst (λ (r : Rectangle). Inside u v r) box in_level)))))
      (view-known root extent held)

  format-of : (known patch : Image) → IsView extent root.tiles.format known → patch.format ≡ root.tiles.format → patch.format ≡ (level known z).format
  format-of known patch view is = is ∙ sym view.format ∙ sym (level-format known z)

  pub level-laid-next : (patch new : Image) (t : Tile) (bytes : List ℕ) (rest tiles : List Tile) → tiles ≡ t ∷ rest → patch.format ≡ root.tiles.format
      → new ≡ put_raw patch (tile_square t) bytes → IfSome (view_image root extent held) (λ known. bytes ≡ tile_bytes (level known z) t)
      → LaidLevel root extent held z patch tiles → LaidLevel root extent held z new rest
  level-laid-next patch new t bytes rest tiles is format put exact laid =
      both-known (view_image root extent held) (λ known. IsView extent root.tiles.format known × (bytes ≡ tile_bytes (level known z) t))
      (λ known. Laid (level known z) patch tiles) (λ known. Laid (level known z) new rest)
      (λ known both before.
      subst (λ (p : Image). Laid (level known z) p rest) (sym put)
      (laid-there (level known z) patch t bytes rest (format-of known patch both.0 format) both.1 (subst (Laid (level known z) patch) is before)))
      (both-known (view_image root extent held) (IsView extent root.tiles.format) (λ known. bytes ≡ tile_bytes (level known z) t)
      (λ known. IsView extent root.tiles.format known × (bytes ≡ tile_bytes (level known z) t)) (λ known a b. (a, b)) (view-known root extent held) exact)
      laid

  pub level-laid-last : (rect : Rectangle) (patch : Image) (rest : List Tile) → rest ≡ [] → patch.format ≡ root.tiles.format → patch.box ≡ rect
      → LaidLevel root extent held z patch rest → IfSome (view_image root extent held) (λ known. patch ≡ cut (level known z) rect)
  level-laid-last rect patch rest none format box laid =
      both-known (view_image root extent held) (IsView extent root.tiles.format) (λ known. Laid (level known z) patch rest) (λ known. patch ≡ cut (level known z) rect)
      (λ known view here. laid-last (level known z) patch rest none (format-of known patch view format) here ∙ ap (cut (level known z)) box)
      (view-known root extent held) laid
