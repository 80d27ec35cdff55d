use Rattle.std.proofs.Common.{◌≡◌, ◌+◌, ◌-◌, ◌*◌, length, map}
use Rattle.plane_rect.specs.Rectangle.{offset}
use Rattle.plane_rect.specs.Tile.{tile_of}
use Rattle.pixel_formats.specs.Format.{pixel_bytes}
use Rattle.model_images.specs.Image.{Image}
use Rattle.patch_abyss.specs.Lines.{HasFirstPixels, HasLine}
use Rattle.patch_abyss.proofs.FirstPixels.{reached}
use Rattle.patch_abyss.proofs.lines.add_row.Given as goal

abbrev pub invariant-loop-number : goal.invariant-loop-number
invariant-loop-number l = record {
  count : length l.bytes.items ≡ length l.initial.bytes.items
      + (reached l.fn.part (tile_of l.fn.part.first_column + l.number) - l.fn.part.first_column) * pixel_bytes l.fn.format;
  pixels : (image : Image) → image.format ≡ l.fn.format → HasLine image l.fn.part (tile_of l.fn.row) (map (λ tile. tile.now) l.fn.tiles)
      → HasFirstPixels image l.fn.part (offset l.fn.part l.fn.part.first_column l.fn.row) l.initial.bytes.items
      → HasFirstPixels image l.fn.part (offset l.fn.part (reached l.fn.part (tile_of l.fn.part.first_column + l.number)) l.fn.row) l.bytes.items;
}
