use Rattle.std.proofs.Common.{◌≡◌, ◌-◌, ◌*◌, length}
use Rattle.std.specs.Prelude.{IfSome}
use Rattle.pixel_formats.specs.Format.{pixel_bytes}
use Rattle.plane_rect.specs.Rectangle.{offset}
use Rattle.patch_abyss.specs.Lines.{HasFirstPixels}
use Rattle.root_tiles.specs.Chains.{IsRead, chain_state}
use Rattle.root_tiles.specs.Roots.{root_image}
use Rattle.patch_abyss.proofs.LineRows.{reached_row}
use Rattle.root_tiles.proofs.root.Root.part_by_lines.Given as goal

abbrev pub invariant-loop-line : goal.invariant-loop-line
invariant-loop-line g l = record {
  read : IsRead
      (chain_state g.C.ChainMeaning l.initial.chain) (chain_state g.C.ChainMeaning l.chain);
  count : length l.bytes.items ≡ (reached_row l.fn.rect l.line - l.fn.rect.first_row) * (l.fn.rect.width * pixel_bytes l.fn.self.tiles.format);
  pixels : IfSome (root_image l.fn.self (g.C.ChainMeaning.held l.initial.chain))
      (λ image. HasFirstPixels image l.fn.rect (offset l.fn.rect l.fn.rect.first_column (reached_row l.fn.rect l.line)) l.bytes.items);
}
