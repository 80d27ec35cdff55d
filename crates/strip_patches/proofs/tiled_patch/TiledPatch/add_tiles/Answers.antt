use Rattle.std.proofs.Common.{◌*◌, All, sym, subst}
use Rattle.pixel_formats.specs.Format.{pixel_bytes}
use Rattle.op_contracts.specs.TileList.{HasLength}
use Rattle.strip_patches.specs.Pictures.{TiledRect}
use Rattle.strip_patches.proofs.Tiled.{tiled-more}
use Rattle.strip_patches.proofs.tiled_patch.TiledPatch.add_tiles.Goals as goal

pub invariant_of-self-2 : goal.invariant_of-self-2
invariant_of-self-2 c =
    tiled-more c.self.inside.rect c.self.inside.format c.self.inside.rows.items c.push.new.self.items c.args.tiles c.in_ok-push.ensures.items c.self.invariant
    c.requires.in_plane
    (subst (λ (t : TiledRect). All (HasLength (4096 * pixel_bytes t.format)) c.args.tiles) (sym c.self.view_is) c.requires.lengths)
