use Rattle.std.proofs.Common.{◌≡◌, ◌*◌, All, ℕ, sym, ◌∙◌, subst, refl, arith}
use Rattle.pixel_formats.specs.Format.{pixel_bytes}
use Rattle.pixel_formats.specs.declared.format.Format.{Format}
use Rattle.op_contracts.specs.TileList.{HasLength}
use Rattle.strip_patches.specs.Bands.{HasBands}
use Rattle.strip_patches.proofs.Banded.{no-bands}
use Rattle.strip_patches.proofs.bands.put_by_bands.Goals as goal

pub loop-band-init : goal.loop-band-init
loop-band-init c = record {
  box = refl;
  format = refl;
  whole = c.requires.whole;
  image = λ image same are. no-bands image c.args.patch.now c.args.tiles.now;
}

pub put_band-requires-clause-lengths : goal.put_band-requires-clause-lengths
put_band-requires-clause-lengths c =
    subst (λ (f : Format). All (HasLength (4096 * pixel_bytes f)) c.args.tiles.now) (sym c.loop-band.invariant.format) c.requires.lengths

pub loop-band-preserved : goal.loop-band-preserved
loop-band-preserved c = record {
  box = c.put_band.ensures.rect ∙ c.loop-band.invariant.box;
  format = c.put_band.ensures.format ∙ c.loop-band.invariant.format;
  whole = c.put_band.ensures.whole;
  image = λ image same are.
      c.put_band.ensures.image image c.args.patch.now (same ∙ sym c.loop-band.invariant.format) are (c.loop-band.invariant.image image same are);
}

pub returns-clause-image : goal.returns-clause-image
returns-clause-image c = λ image same are.
    let all : c.loop-band.band ≡ 8 = omega arith in
    subst (λ (n : ℕ). HasBands image c.args.patch.now c.args.tiles.now n c.loop-band.patch) all (c.loop-band.invariant.image image same are)
