-- Tiles that are cut from raw bytes, and positions that are taken a batch at a time.
use Rattle.std.proofs.Common.{◌≡◌, ℕ, List, [], ◌∷◌, ◌++◌, replicate, length, Option, Some, None, Bool, true, false, cond, refl, sym, ap, subst, ◌∙◌}
use Rattle.std.proofs.lemmas.List.Elements.{All-cons, All-head, All-nil, All-tail}
use Rattle.std.specs.Prelude.{All, IfSome}
use Rattle.std.specs.List.{AllZip}
use Rattle.level_tables.specs.Over.{tile_length}
use Rattle.model_images.specs.FromRaw.{image_from_raw, pixels_from_raw}
use Rattle.model_images.specs.Image.{is_inside}
use Rattle.model_images.specs.Paint.{put_raw}
use Rattle.model_images.specs.Tiles.{AreZeroAround, AreZeroOutside, HeldTiles, held_pixels}
use Rattle.model_images.proofs.HeldTiles.{pixel-held}
use Rattle.model_images.proofs.Samples.{inside_where}
use Rattle.plane_rect.specs.Rectangle.{Inside, Rectangle}
use Rattle.plane_rect.specs.Tile.{Tile, tile_square}
use Rattle.plane_rect.proofs.TileLists.{Inside-tile_square}
use Rattle.root_tiles.specs.Cutting.{AreCutFrom, Covers, Cutting, IsCut, IsCutAt, IsCutTile, IsRaster, no_tiles, raster_cutting}
use Rattle.root_tiles.specs.Paints.{IsPainted, Paints}
use Rattle.root_tiles.specs.declared.cutting.CutTile.{CutTile}
use Rattle.root_tiles.specs.declared.cutting.Raster.{Raster}
use Rattle.root_tiles.proofs.Blitting.{pixel-lacking}
use Rattle.root_tiles.proofs.PaintedTiles.{painted-is, start-zeros}

-- zeros over which raw bytes are painted are the tile that is cut from these
pub tile-cut : (raster : Raster) (at : Tile) (n : ℕ) (tile : List ℕ) → IsRaster raster → Covers raster.bounds raster.rect at
    → length tile ≡ tile_length raster.format
    → image_from_raw (tile_square at) raster.format tile ≡ put_raw (image_from_raw (tile_square at) raster.format (replicate n 0)) raster.rect raster.bytes.now
    → IsCut (raster_cutting raster) at tile
tile-cut raster at n tile is covered long painted = record {
  length = long;
  covered = covered;
  painted = painted-is raster.format no_tiles r r r at f raster.bytes.now (replicate n 0) tile paints (λ u v there inside. there) painted
      (start-zeros raster.format no_tiles raster.bounds r at (replicate n 0) n refl (λ t. tt) covered);
}
  where
    r : Rectangle
    r = raster.rect

    f : ℕ → ℕ → ℕ → ℕ
    f = pixels_from_raw r raster.format raster.bytes.now

    paints : Paints raster.format r r f r raster.bytes.now
    paints = record { count = is; within = λ u v there. there; covers = λ u v there. there; pixels = λ u v c there known. refl }

-- a tile that is cut is that of the root, since a root's tiles are zero outside its box
pub cut-painted : (cutting : Cutting) (held : HeldTiles) (t : Tile) (bytes : List ℕ) → AreZeroAround cutting.box cutting.format held
    → IsCut cutting t bytes → IsPainted cutting.format held cutting.rect cutting.pixels t bytes
cut-painted cutting held t bytes around cut u v c there known = cut.painted u v c there known ∙ of (is_inside u v cutting.rect) refl
  where
    zero : (found : Option (List ℕ)) → held t ≡ found → IfSome found (AreZeroOutside cutting.box cutting.format t) → ¬ Inside u v cutting.box
        → held_pixels cutting.format held u v c ≡ 0
    zero (Some bytes) e outside out = pixel-held cutting.format held t bytes u v c e there ∙ outside u v c there out known
    zero None e outside out = pixel-lacking cutting.format held t u v c e ((Inside-tile_square u v t).0 there)

    of : (b : Bool) → is_inside u v cutting.rect ≡ b
        → cond (is_inside u v cutting.rect) (cutting.pixels u v c) (held_pixels cutting.format no_tiles u v c)
        ≡ cond (is_inside u v cutting.rect) (cutting.pixels u v c) (held_pixels cutting.format held u v c)
    of true e = rw e refl
    of false e =
        let out : ¬ Inside u v cutting.box = λ inside. absurd (cc (sym e ∙ inside_where u v cutting.rect (cut.covered u v there inside))) in
        rw e (sym (zero (held t) refl (around t) out))

-- what holds of each element of two lists in a row
pub All-both : {X : Type 0} (P : X → Type 0) (xs ys : List X) → All P (xs ++ ys) → All P xs × All P ys
All-both P [] ys all = (All-nil P, all)
All-both P (x ∷ xs) ys all =
    let later = All-both P xs ys (All-tail P x (xs ++ ys) all) in
    (All-cons P x xs (All-head P x (xs ++ ys) all) later.0, later.1)

-- what was cut for positions
pub All-cut : (raster : Raster) (positions : List Tile) (cut : List CutTile) → AllZip (IsCutAt raster) positions cut → All (IsCutTile (raster_cutting raster)) cut
All-cut raster [] [] all = All-nil (IsCutTile (raster_cutting raster))
All-cut raster [] (x ∷ cut) all = absurd all
All-cut raster (at ∷ positions) [] all = absurd all
All-cut raster (at ∷ positions) (x ∷ cut) all =
    All-cons (IsCutTile (raster_cutting raster)) x cut all.0.tile (All-cut raster positions cut all.1)

-- the first tile of a batch, and those after it
pub first-cut : (cutting : Cutting) (old new : Raster) (left : List Tile) (x : CutTile) (batch rest : List CutTile) → raster_cutting old ≡ cutting
    → new ≡ old → batch ≡ x ∷ rest → AreCutFrom new left batch
    → IsCutTile cutting x × (raster_cutting new ≡ cutting) × AreCutFrom new left rest
first-cut cutting old new left x batch rest is same first from =
    let P : CutTile → Type 0 = IsCutTile (raster_cutting new) in
    let all : All P (x ∷ rest) = subst (All P) first from.cut in
    let now : raster_cutting new ≡ cutting = ap raster_cutting same ∙ is in (
      subst (λ (c : Cutting). IsCutTile c x) now (All-head P x rest all),
      now,
      record { bytes = from.bytes; whole = from.whole; cut = All-tail P x rest all },
    )
