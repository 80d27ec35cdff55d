use Rattle.std.proofs.Common.{◌≡◌, ap, ◌∙◌, length, subst}
use Rattle.pixel_formats.specs.Row.{HasPixels, pixel_at}
use Rattle.pixel_formats.specs.declared.format.Format.{Format}
use Rattle.model_images.specs.FromRaw.{byte_count, image_from_raw}
use Rattle.model_images.specs.Image.{image_from_fn}
use Rattle.model_graphs.specs.Windows.{Window, window_image}
use Rattle.model_operations.specs.Values.{flipped_pixel}
use Rattle.point_ops.specs.Flipped.{flipped_index, mirrored_source}
use Rattle.op_contracts.specs.PartBytes.{AreRawBytesOf}
use Rattle.point_ops.proofs.Flipped.{MirrorsFrom, mirrored-count, mirrored-image, mirrored-limits, mirrors-from}
use Rattle.point_ops.proofs.flip.flipped_part.Goals.{After-as_slice, After-mirrored_source-source}
use Rattle.point_ops.proofs.flip.flipped_part.Goals as goal

-- the positions that are read become those of the part
mirrors : (c : After-mirrored_source-source) → MirrorsFrom c.args.sideways c.args.window.now.bounds c.mirrored_source-source.result c.args.out
mirrors c =
    mirrors-from c.args.sideways c.args.window.now.bounds c.args.out c.mirrored_source-source.result c.requires.part c.mirrored_source-source.ensures.rectangle
    (c.mirrored_source-source.ensures.value ∙ ap (λ (w : Window). mirrored_source c.args.sideways w.bounds c.args.out) c.window.view_is)

-- the bytes that are read, and their format
src : (c : After-as_slice) → AreRawBytesOf (window_image c.args.window.now) c.mirrored_source-source.result c.as_slice.result.now
src c = rw c.as_slice.ensures c.in_ok-part.ensures

format : (c : After-as_slice) → c.window.inside.format ≡ c.args.window.now.format
format c = ap (λ (w : Window). w.format) c.window.view_is

pub part_bytes-requires-clause-limits : goal.part_bytes-requires-clause-limits
part_bytes-requires-clause-limits c =
    mirrored-limits c.args.sideways (window_image c.args.window.now) c.mirrored_source-source.result c.args.out
    (mirrors (goal.at.part_bytes-requires-clause-limits c).After-mirrored_source-source) c.requires.limits

pub flipped_bytes-requires-clause-count : goal.flipped_bytes-requires-clause-count
flipped_bytes-requires-clause-count c =
    let path = goal.at.flipped_bytes-requires-clause-count c in
    rw (format path.After-as_slice)
    (mirrored-count c.args.sideways (window_image c.args.window.now) c.mirrored_source-source.result c.args.out
    (mirrors path.After-mirrored_source-source) c.as_slice.result.now (src path.After-as_slice))

pub returns : goal.returns
returns c =
    let path = goal.at.returns c in
    let window = c.args.window.now in
    let out = c.args.out in
    let is = format path.After-as_slice in
    let bytes = c.in_ok-bytes.bytes.items in
    let count : length bytes ≡ byte_count out window.format = subst (λ (f : Format). length bytes ≡ byte_count out f) is c.in_ok-bytes.ensures.count in
    let pixels : HasPixels window.format bytes (λ i. pixel_at window.format c.as_slice.result.now (flipped_index c.args.sideways out i)) =
    subst (λ (f : Format). HasPixels f bytes (λ i. pixel_at f c.as_slice.result.now (flipped_index c.args.sideways out i))) is c.in_ok-bytes.ensures.pixels in
    let same : image_from_raw out c.window.inside.format bytes ≡ image_from_fn out window.format (flipped_pixel c.args.sideways (window_image window)) =
    ap (λ (f : Format). image_from_raw out f bytes) is
    ∙ mirrored-image c.args.sideways (window_image window) c.mirrored_source-source.result out
    (mirrors path.After-mirrored_source-source) c.as_slice.result.now (src path.After-as_slice) bytes count pixels in
    rw same at c.from_vec.ensures
