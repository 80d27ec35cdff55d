use Rattle.std.proofs.Common.{◌≡◌, ◌+◌, ◌-◌, ◌*◌, length, map, max}
use Rattle.plane_rect.specs.Rectangle.{offset}
use Rattle.pixel_formats.specs.Format.{pixel_bytes}
use Rattle.model_images.specs.Image.{Image}
use Rattle.patch_abyss.specs.Lines.{HasFirstPixels, HasLine}
use Rattle.patch_abyss.proofs.lines.add_line.Given as goal

abbrev pub invariant-loop-row : goal.invariant-loop-row
invariant-loop-row l = record {
  count : length l.bytes.items ≡ length l.initial.bytes.items
      + (l.row - max (64 * l.fn.line) l.fn.part.first_row) * (l.fn.part.width * pixel_bytes l.fn.format);
  pixels : (image : Image) → image.format ≡ l.fn.format → HasLine image l.fn.part l.fn.line (map (λ tile. tile.now) l.fn.tiles)
      → HasFirstPixels image l.fn.part (offset l.fn.part l.fn.part.first_column (max (64 * l.fn.line) l.fn.part.first_row)) l.initial.bytes.items
      → HasFirstPixels image l.fn.part (offset l.fn.part l.fn.part.first_column l.row) l.bytes.items;
}
