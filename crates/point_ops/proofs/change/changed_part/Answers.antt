use Rattle.std.proofs.Common.{◌≡◌, ◌*◌, length, ap}
use Rattle.plane_rect.specs.Rectangle.{area}
use Rattle.pixel_formats.specs.Format.{pixel_bytes}
use Rattle.model_images.specs.FromRaw.{image_from_raw}
use Rattle.model_images.specs.Image.{at, image_from_fn}
use Rattle.model_graphs.specs.Windows.{Window, window_image}
use Rattle.point_ops.specs.Changes.{changed_format, changed_pixel}
use Rattle.op_contracts.specs.PartBytes.{AreRawBytesOf}
use Rattle.point_ops.proofs.Pixels.{changed-of}
use Rattle.point_ops.proofs.change.changed_part.Goals as goal

pub returns : goal.returns
returns c =
    let window = c.args.window.now in
    let from = c.window.inside.format in
    let format : from ≡ window.format = ap (λ (w : Window). w.format) c.window.view_is in
    let src : AreRawBytesOf (window_image window) c.args.out c.as_slice.result.now = rw c.as_slice.ensures c.in_ok-src.ensures in
    let count : length c.in_ok-bytes.bytes.items ≡ area c.args.out * pixel_bytes (changed_format c.args.change from) =
    rw c.pixel_count.ensures.value at c.in_ok-bytes.ensures.count in
    let same : image_from_raw c.args.out c.format.result c.in_ok-bytes.bytes.items
    ≡ image_from_fn c.args.out (changed_format c.args.change window.format) (λ u v. changed_pixel c.args.change window.format (at (window_image window) u v)) =
    changed-of (window_image window) c.args.out c.as_slice.result.now src c.args.change from c.format.result c.in_ok-bytes.bytes.items
    format c.format.ensures count c.in_ok-bytes.ensures.pixels in
    rw same at c.from_vec.ensures
