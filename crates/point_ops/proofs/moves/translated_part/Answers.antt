use Rattle.std.proofs.Common.{◌≡◌, ap, ◌∙◌, rules}
use Rattle.pixel_formats.specs.declared.format.Format.{Format}
use Rattle.model_images.specs.FromRaw.{image_from_raw}
use Rattle.model_images.specs.Image.{at, image_from_fn}
use Rattle.model_graphs.specs.Windows.{Window, window_image}
use Rattle.model_operations.specs.Moves.{source_index}
use Rattle.point_ops.specs.Moved.{moved_source}
use Rattle.op_contracts.specs.PartBytes.{AreRawBytesOf}
use Rattle.point_ops.proofs.Moved.{ComesFrom, moved-count, moved-image, source-limits, translated-source}
use Rattle.point_ops.proofs.moves.translated_part.Goals.{After-as_slice, After-moved_source-source}
use Rattle.point_ops.proofs.moves.translated_part.Goals as goal

-- the positions that are read become those of the part
comes : (c : After-moved_source-source) → ComesFrom c.moved_source-source.result c.args.out (source_index c.args.dx) (source_index c.args.dy)
comes c =
    let value : c.moved_source-source.result ≡ moved_source c.args.dx c.args.dy c.window.inside.bounds c.args.out = search rules in
    translated-source c.args.dx c.args.dy c.args.window.now.bounds c.args.out c.moved_source-source.result c.requires.part c.moved_source-source.ensures.rectangle
    (value ∙ ap (λ (w : Window). moved_source c.args.dx c.args.dy w.bounds c.args.out) c.window.view_is)

-- the bytes that are read, and their format
src : (c : After-as_slice) → AreRawBytesOf (window_image c.args.window.now) c.moved_source-source.result c.as_slice.result.now
src c = rw c.as_slice.ensures c.in_ok-bytes.ensures

format : (c : After-as_slice) → c.window.inside.format ≡ c.args.window.now.format
format c = ap (λ (w : Window). w.format) c.window.view_is

pub part_bytes-requires-clause-limits : goal.part_bytes-requires-clause-limits
part_bytes-requires-clause-limits c =
    source-limits c.moved_source-source.result c.args.out (source_index c.args.dx) (source_index c.args.dy)
    (comes (goal.at.part_bytes-requires-clause-limits c).After-moved_source-source) c.requires.limits

pub patch_of_slice-requires-clause-count : goal.patch_of_slice-requires-clause-count
patch_of_slice-requires-clause-count c =
    let path = goal.at.patch_of_slice-requires-clause-count c in
    rw (format path.After-as_slice)
    (moved-count c.moved_source-source.result c.args.out (source_index c.args.dx) (source_index c.args.dy)
    (comes path.After-moved_source-source) (window_image c.args.window.now) c.as_slice.result.now (src path.After-as_slice))

pub returns : goal.returns
returns c =
    let path = goal.at.returns c in
    let window = c.args.window.now in
    let out = c.args.out in
    let same : image_from_raw out c.window.inside.format c.as_slice.result.now
    ≡ image_from_fn out window.format (λ u v. at (window_image window) (source_index c.args.dx u) (source_index c.args.dy v)) =
    ap (λ (f : Format). image_from_raw out f c.as_slice.result.now) (format path.After-as_slice)
    ∙ moved-image c.moved_source-source.result out (source_index c.args.dx) (source_index c.args.dy)
    (comes path.After-moved_source-source) (window_image window) c.as_slice.result.now (src path.After-as_slice) in
    rw same at c.patch_of_slice.ensures
