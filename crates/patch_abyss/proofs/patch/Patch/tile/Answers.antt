use Rattle.std.proofs.Common.{◌≡◌, ◌*◌, ◌∙◌, refl, ap, arith, rules, length, replicate}
use Rattle.plane_rect.specs.Rectangle.{empty}
use Rattle.plane_rect.specs.Tile.{tile_square}
use Rattle.pixel_formats.specs.Format.{pixel_bytes}
use Rattle.pixel_formats.proofs.FormatLaws.{few_bytes}
use Rattle.model_images.specs.Image.{Image}
use Rattle.model_images.specs.Raw.{raw, tile_bytes}
use Rattle.model_images.specs.FromRaw.{image_from_raw, byte_count}
use Rattle.patch_abyss.proofs.TilesOfPatches.{no_tile_pixel, zero_tile, some_positions, whole_tile, raw-part}
use Rattle.patch_abyss.proofs.patch.Patch.tile.Goals as goal

pub returns-then-is_empty : goal.returns-then-is_empty
returns-then-is_empty c =
    let to = c.self.inside in
    let h = c.if-is_empty.ensures.empty in
    let none : c.rect-rect.result ≡ empty = search rules in
    let zeros : tile_bytes (image_from_raw to.rect to.format to.bytes.items) c.args.at ≡ replicate (4096 * pixel_bytes to.format) 0 =
    zero_tile (image_from_raw to.rect to.format to.bytes.items) c.args.at
    (no_tile_pixel c.rect-rect.result to.rect c.args.at c.rect-rect.ensures.positions none c.self.invariant.rectangle) in
    rw (← c.self.view_is) (rw zeros (rw c.pixel_bytes.ensures at c.zero.ensures))

pub part-requires : goal.part-requires
part-requires c =
    let some = some_positions c.rect-rect.result c.if-is_empty.ensures.value in
    let square : c.rect-rect.result ≡ tile_square c.args.at = c.rect-rect.ensures.whole (whole_tile c.rect-rect.result c.args.at c.rect-rect.ensures.positions some.0 some.1) in
    rw square (omega arith, omega arith, omega arith)

pub from_vec-requires : goal.from_vec-requires
from_vec-requires c =
    let some = some_positions c.rect-rect.result c.if-is_empty.ensures.value in
    let square : c.rect-rect.result ≡ tile_square c.args.at = c.rect-rect.ensures.whole (whole_tile c.rect-rect.result c.args.at c.rect-rect.ensures.positions some.0 some.1) in
    let few = few_bytes c.args.self.now.format in
    let count : length c.into_raw.result.items ≡ 4096 * pixel_bytes c.args.self.now.format =
    c.into_raw.ensures.count ∙ ap (λ (image : Image). byte_count image.box image.format) c.in_ok-part.ensures
    ∙ rw square (omega arith) in
    (omega (arith, count, few.0), omega (arith, count, few.1))

pub returns : goal.returns
returns c =
    let some = some_positions c.rect-rect.result c.if-is_empty.ensures.value in
    let square : c.rect-rect.result ≡ tile_square c.args.at = c.rect-rect.ensures.whole (whole_tile c.rect-rect.result c.args.at c.rect-rect.ensures.positions some.0 some.1) in
    let image = c.args.self.now in
    let bytes : c.into_raw.result.items ≡ tile_bytes image c.args.at =
    c.into_raw.ensures.value ∙ ap (λ (image : Image). raw image image.box) c.in_ok-part.ensures
    ∙ raw-part image c.rect-rect.result ∙ ap (raw image) square in
    rw (← bytes) c.from_vec.ensures

pub returns-then-eq : goal.returns-then-eq
returns-then-eq c =
    let some = some_positions c.rect-rect.result c.if-is_empty.ensures.value in
    let square : c.rect-rect.result ≡ tile_square c.args.at = c.rect-rect.ensures.whole (whole_tile c.rect-rect.result c.args.at c.rect-rect.ensures.positions some.0 some.1) in
    let box : c.args.self.now.box ≡ c.rect-rect.result = rw (← c.self.view_is) (c.if-eq.ensures.same.0 refl) in
    let bytes : c.raw_bytes.result.now ≡ tile_bytes c.args.self.now c.args.at = c.raw_bytes.ensures.value ∙ ap (raw c.args.self.now) (box ∙ square) in
    rw (← bytes) c.of.ensures
