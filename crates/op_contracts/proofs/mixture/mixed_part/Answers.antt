use Rattle.std.proofs.Common.{◌≡◌, ◌∙◌, sym, ap}
use Rattle.plane_rect.specs.Rectangle.{Rectangle}
use Rattle.pixel_formats.specs.Blend.{blended_pixel}
use Rattle.model_images.specs.Image.{at, image_from_fn}
use Rattle.model_images.specs.Raw.{raw}
use Rattle.model_graphs.specs.Windows.{Window, window_image}
use Rattle.op_contracts.specs.PartBytes.{AreRawBytesOf}
use Rattle.op_contracts.proofs.Mixed.{mixed-of}
use Rattle.op_contracts.proofs.mixture.mixed_part.Goals as goal

pub returns : goal.returns
returns c =
    let base = c.args.base.now in
    let made = c.args.made.now in
    let mask = c.args.mask.now in
    let r = c.rect-rect.result in
    let format : c.base.inside.format ≡ base.format = ap (λ (w : Window). w.format) c.base.view_is in
    let first : AreRawBytesOf (window_image base) r c.as_slice.result.now = rw c.as_slice.ensures c.in_ok-a.ensures in
    let second : c.raw_bytes.result.now ≡ raw made r = c.raw_bytes.ensures.value ∙ ap (raw made) (sym c.rect-rect.ensures.value) in
    let third : AreRawBytesOf (window_image mask) r c.as_slice-2.result.now = rw c.as_slice-2.ensures c.in_ok-m.ensures in
    c.from_vec.ensures
    ∙ mixed-of (window_image base) made (window_image mask) r c.as_slice.result.now c.raw_bytes.result.now c.as_slice-2.result.now c.in_ok-bytes.bytes.items
    first second third c.requires.made c.requires.suits c.in_ok-bytes.ensures.count c.base.inside.format format c.in_ok-bytes.ensures.pixels
    ∙ ap (λ (box : Rectangle). image_from_fn box base.format (λ u v. blended_pixel base.format (at (window_image base) u v) (at made u v) (at (window_image mask) u v 0)))
    c.rect-rect.ensures.value
