use Rattle.std.proofs.Common.{◌≡◌, ◌*◌, ◌+◌, ◌-◌, ℕ, List, drop, length, take, refl, sym, ap, ◌∙◌}
use Rattle.plane_rect.specs.Rectangle.{Rectangle, area}
use Rattle.pixel_formats.specs.Format.{pixel_bytes}
use Rattle.model_images.specs.Paint.{put_raw}
use Rattle.strip_patches.specs.Bands.{band_of}
use Rattle.strip_patches.proofs.Banded.{band-long, band-put, spans-band}
use Rattle.strip_patches.proofs.bands.put_rows.Goals.{After-bytes-bytes}
use Rattle.strip_patches.proofs.bands.put_rows.Goals as goal

module _ (c : After-bytes-bytes) where
  -- how many bytes a band has
  abbrev count : ℕ
  count = 512 * c.pixel_bytes.result

  size : count ≡ 512 * pixel_bytes c.args.patch.now.format
  size = ap (λ p. 512 * p) (c.pixel_bytes.ensures ∙ ap pixel_bytes c.format.ensures)

  rows : c.spanning-rows.result ≡ band_of c.args.at c.args.band
  rows = c.spanning-rows.ensures ∙ spans-band c.args.at c.column.result c.row.result c.args.band c.column.ensures.value c.row.ensures.value

pub paint-requires : goal.paint-requires
paint-requires c =
    let here = (goal.at.paint-requires c).After-bytes-bytes in
    let p = pixel_bytes c.args.patch.now.format in
    band-long c.args.band (count here) p c.bytes-bytes.result.now c.requires.band (size here) (ap length c.bytes-bytes.ensures.value ∙ c.requires.length)
    ∙ ap (λ (r : Rectangle). area r * p) (sym (rows here))

pub returns : goal.returns
returns c =
    let here = (goal.at.returns c).After-bytes-bytes in
    let n = count here in
    let from = c.args.band * n in
    let piece = take (from + n - from) (drop from c.args.tile.now) in
    c.paint.ensures
    ∙ ap (λ (bytes : List ℕ). put_raw c.args.patch.now c.spanning-rows.result (take (from + n - from) (drop from bytes))) c.bytes-bytes.ensures.value
    ∙ ap (λ (r : Rectangle). put_raw c.args.patch.now r piece) (rows here)
    ∙ band-put c.args.patch.now c.args.at c.args.band n c.args.tile.now piece (size here) refl
