use Rattle.std.proofs.Common.{◌+◌, sym, subst, arith}
use Rattle.plane_rect.specs.Rectangle.{Inside, Rectangle}
use Rattle.plane_rect.specs.Tile.{tile_of, tile_line}
use Rattle.plane_rect.proofs.Rectangles.{Inside-meet}
use Rattle.strip_patches.proofs.Adding.{in-lines, length-strips, strip-is, strip-line, strip-positions}
use Rattle.strip_patches.proofs.Halves.{same-line}
use Rattle.strip_patches.proofs.laws.strips_are_rows_of_tiles.Goals as goal

pub returns-clause-positions : goal.returns-clause-positions
returns-clause-positions c = λ s r k u v is found.
    let line = tile_of s.first_row + k in
    let strip = strip-is s k r found in (
      λ there.
          let here = subst (λ (x : Rectangle). Inside u v x) (sym strip) there in
          (((Inside-meet u v s (tile_line line)).0 here).0, strip-line s line u v here),
      λ both. subst (λ (x : Rectangle). Inside u v x) strip (strip-positions s line u v is both.0 both.1),
    )

pub returns-clause-all : goal.returns-clause-all
returns-clause-all c = λ s u v there. omega (arith, in-lines s u v there, length-strips s)

pub returns-clause-apart : goal.returns-clause-apart
returns-clause-apart c = same-line
