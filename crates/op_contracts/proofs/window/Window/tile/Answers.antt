use Rattle.std.proofs.Common.{◌≡◌, Some, sym, subst}
use Rattle.std.specs.Map.{lookup}
use Rattle.plane_rect.specs.Tile.{same_tile}
use Rattle.model_images.specs.FromRaw.{AreBytes}
use Rattle.op_contracts.proofs.Shown.{found-long}
use Rattle.op_contracts.proofs.window.Window.tile.Goals as goal

pub returns-clause-bytes : goal.returns-clause-bytes
returns-clause-bytes c =
    let window = c.args.self.now in
    let found : Some c.in_ok-tile.tile.now ≡ lookup (same_tile c.args.at) window.tiles = rw (← c.self.view_is) (rw c.in_ok-tile.was at c.tile_of.ensures) in
    record {
      whole = found-long window.format c.args.at window.tiles c.in_ok-tile.tile.now c.requires.whole.lengths (sym found);
      small = subst AreBytes c.bytes.ensures.value c.are_bytes.ensures;
    }
