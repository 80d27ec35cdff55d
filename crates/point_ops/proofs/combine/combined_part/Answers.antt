use Rattle.std.proofs.Common.{◌≡◌, ap}
use Rattle.model_images.specs.FromRaw.{image_from_raw}
use Rattle.model_images.specs.Image.{at, image_from_fn}
use Rattle.model_graphs.specs.Windows.{Window, window_image}
use Rattle.point_ops.specs.Combinations.{combined_pixel}
use Rattle.op_contracts.specs.PartBytes.{AreRawBytesOf}
use Rattle.point_ops.proofs.Pairs.{combined-of}
use Rattle.point_ops.proofs.combine.combined_part.Goals as goal

pub returns : goal.returns
returns c =
    let first = c.args.first.now in
    let second = c.args.second.now in
    let format : c.first.inside.format ≡ first.format = ap (λ (w : Window). w.format) c.first.view_is in
    let other : c.second.inside.format ≡ second.format = ap (λ (w : Window). w.format) c.second.view_is in
    let a : AreRawBytesOf (window_image first) c.args.out c.as_slice.result.now = rw c.as_slice.ensures c.in_ok-a.ensures in
    let b : AreRawBytesOf (window_image second) c.args.out c.as_slice-2.result.now = rw c.as_slice-2.ensures c.in_ok-b.ensures in
    let same : image_from_raw c.args.out c.first.inside.format c.in_ok-bytes.bytes.items
    ≡ image_from_fn c.args.out first.format (λ u v. combined_pixel c.args.combination first.format (at (window_image first) u v) (at (window_image second) u v)) =
    combined-of (window_image first) (window_image second) c.args.out c.as_slice.result.now c.as_slice-2.result.now a b
    c.args.combination c.first.inside.format c.second.inside.format c.in_ok-bytes.bytes.items c.requires.suit format other
    c.in_ok-bytes.ensures.count c.in_ok-bytes.ensures.pixels in
    rw same at c.from_vec.ensures
