use Rattle.std.proofs.Common.{◌≡◌, ◌+◌, ◌*◌, List, ℕ, drop, length, sym, ap, ◌∙◌, subst, refl}
use Rattle.std.proofs.lemmas.List.{drop_all}
use Rattle.plane_rect.specs.Tile.{IsWhole, Tile, tile_square}
use Rattle.pixel_formats.specs.Format.{pixel_bytes}
use Rattle.pixel_formats.specs.declared.format.Format.{Format}
use Rattle.model_images.specs.FromRaw.{pixels_from_raw}
use Rattle.model_images.specs.Image.{Image, IsImage}
use Rattle.model_images.specs.Raw.{tile_bytes}
use Rattle.op_contracts.proofs.Distinct.{entry-first}
use Rattle.strip_patches.specs.Bands.{band_of}
use Rattle.strip_patches.proofs.Banded.{band-begins, band-ends, band-goes-on, whole-painted}
use Rattle.strip_patches.proofs.bands.put_band.Goals as goal

pub loop-entry-init : goal.loop-entry-init
loop-entry-init c = record {
  box = refl;
  format = refl;
  whole = c.requires.whole;
  image = λ image first same are has. band-begins image first c.args.tiles.now c.args.band c.args.patch.now has;
}

pub loop-entry-preserved : goal.loop-entry-preserved
loop-entry-preserved c =
    let all = c.args.tiles.now in
    let n = c.loop-entry.entry-index in
    let before = c.loop-entry.invariant in
    record {
      box = ap (λ (image : Image). image.box) c.put_rows.ensures ∙ before.box;
      format = ap (λ (image : Image). image.format) c.put_rows.ensures ∙ before.format;
      whole = subst IsImage (sym c.put_rows.ensures) (whole-painted c.loop-entry.patch (band_of c.entry-item.result.0 c.args.band) (pixels_from_raw (tile_square c.entry-item.result.0) c.loop-entry.patch.format c.entry-item.result.1));
      image = λ image first same are has.
          band-goes-on image first all c.args.band c.entry-item.result (drop (n + 1) all) (drop n all) c.loop-entry.patch c.put_rows.new.patch c.requires.band
          (entry-first all n c.entry-item.result c.loop-entry-test.true c.entry-item.is) (same ∙ sym before.format)
          (subst (λ (entry : Tile × List ℕ). entry.1 ≡ tile_bytes image entry.0) (sym c.entry-item.is) (are n c.entry-item.result c.loop-entry-test.true))
          c.put_rows.ensures (before.image image first same are has);
    }

pub put_rows-requires-clause-in_plane : goal.put_rows-requires-clause-in_plane
put_rows-requires-clause-in_plane c =
    subst (λ (entry : Tile × List ℕ). IsWhole entry.0) (sym c.entry-item.is) (c.requires.in_plane c.loop-entry.entry-index c.entry-item.result c.loop-entry-test.true)

pub put_rows-requires-clause-length : goal.put_rows-requires-clause-length
put_rows-requires-clause-length c =
    ap length (ap (λ (entry : Tile × List ℕ). entry.1) c.entry-item.is)
    ∙ c.requires.lengths c.loop-entry.entry-index c.entry-item.result c.loop-entry-test.true
    ∙ ap (λ (f : Format). 4096 * pixel_bytes f) (sym c.loop-entry.invariant.format)

pub returns-clause-image : goal.returns-clause-image
returns-clause-image c = λ image first same are has.
    let all = c.args.tiles.now in
    let n = c.loop-entry.entry-index in
    band-ends image first all c.args.band (drop n all) c.loop-entry.patch (drop_all n all c.loop-entry-test.false)
    (c.loop-entry.invariant.image image first same are has)
