use Rattle.std.proofs.Common.{◌≡◌, ℕ, ◌*◌, All, List, Some, length, refl, sym, ◌∙◌, subst}
use Rattle.std.specs.Prelude.{slice_get}
use Rattle.std.proofs.lemmas.Option.{slice_get_read}
use Rattle.plane_rect.specs.Tile.{IsWhole, Tile, strip_rectangles}
use Rattle.pixel_formats.specs.Format.{pixel_bytes}
use Rattle.pixel_formats.specs.declared.format.Format.{Format}
use Rattle.op_contracts.specs.TileList.{HasLength}
use Rattle.strip_patches.specs.Pictures.{AreTilesOver, HasRows, TiledRect}
use Rattle.strip_patches.proofs.Tiled.{band-shown, row-has}
use Rattle.strip_patches.proofs.tiled_patch.TiledPatch.band.Goals.{After-as_slice}
use Rattle.strip_patches.proofs.tiled_patch.TiledPatch.band.Goals as goal

-- what holds of each row of tiles holds of the one that is put
module _ (c : After-as_slice) where
  found : slice_get c.self.inside.rows.items c.args.index ≡ Some c.in-Some.tiles.now
  found =
      let rows = c.deref.result.now in
      subst (λ (all : List (List (Tile × List ℕ))). slice_get all c.args.index ≡ Some c.in-Some.tiles.now) c.deref.ensures.value
      (slice_get_read rows (length rows) c.args.index c.in-Some.tiles.now refl c.in-Some.ensures.lookup.3.0 c.in-Some.ensures.lookup.1)

pub put_by_bands-requires-clause-in_plane : goal.put_by_bands-requires-clause-in_plane
put_by_bands-requires-clause-in_plane c =
    subst (All (λ (entry : Tile × List ℕ). IsWhole entry.0)) (sym c.as_slice.ensures)
    (row-has (λ (row : List (Tile × List ℕ)). All (λ (entry : Tile × List ℕ). IsWhole entry.0) row)
    c.self.inside.rows.items c.args.index c.in-Some.tiles.now c.self.invariant.in_plane (found c))

pub put_by_bands-requires-clause-lengths : goal.put_by_bands-requires-clause-lengths
put_by_bands-requires-clause-lengths c =
    subst (λ (f : Format). All (HasLength (4096 * pixel_bytes f)) c.as_slice.result.now) (sym c.in_ok-patch.ensures.format)
    (subst (All (HasLength (4096 * pixel_bytes c.self.inside.format))) (sym c.as_slice.ensures)
    (row-has (λ (row : List (Tile × List ℕ)). All (HasLength (4096 * pixel_bytes c.self.inside.format)) row)
    c.self.inside.rows.items c.args.index c.in-Some.tiles.now c.self.invariant.lengths (found c)))

pub returns-clause-image : goal.returns-clause-image
returns-clause-image c = λ image has.
    let here = (goal.at.returns-clause-image c).After-as_slice in
    let rect = c.band_rect.result in
    let row = c.in-Some.tiles.now in
    let tiled : TiledRect = record { rect = c.self.inside.rect; format = c.self.inside.format; rows = c.self.inside.rows.items } in
    let rows : HasRows image (length (strip_rectangles tiled.rect)) tiled =
    subst (λ (t : TiledRect). HasRows image (length (strip_rectangles t.rect)) t) (sym c.self.view_is) has in
    let strip : slice_get (strip_rectangles tiled.rect) c.args.index ≡ Some rect =
    subst (λ (t : TiledRect). slice_get (strip_rectangles t.rect) c.args.index ≡ Some rect) (sym c.self.view_is) c.band_rect.ensures.value in
    let over : AreTilesOver image rect c.as_slice.result.now =
    subst (AreTilesOver image rect) (sym c.as_slice.ensures) (rows.each c.args.index row rect (found here) strip) in
    let format = c.in_ok-patch.ensures.format ∙ rows.format in
    band-shown image c.in_ok-patch.patch c.put_by_bands.new.patch rect c.as_slice.result.now c.put_by_bands.ensures.whole
    (c.put_by_bands.ensures.rect ∙ c.in_ok-patch.ensures.rect) (c.put_by_bands.ensures.format ∙ format) over
    (c.put_by_bands.ensures.image image (sym format) over.tiles)
