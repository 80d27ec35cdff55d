use Rattle.std.proofs.Common.{◌*◌, ◌∙◌, ap, sym, subst}
use Rattle.pixel_formats.specs.Format.{pixel_bytes}
use Rattle.model_images.specs.FromRaw.{AreBytes}
use Rattle.model_images.specs.Tiles.{AreZeroOutside}
use Rattle.frozen_images.specs.Frozen.{FrozenTiles}
use Rattle.frozen_images.proofs.Holding.{frozen-more}
use Rattle.frozen_images.proofs.frozen.Frozen.hold.Goals as goal

pub invariant_of-self-2 : goal.invariant_of-self-2
invariant_of-self-2 c = (
  frozen-more c.self.inside.bounds c.self.inside.format c.self.inside.tiles.entries c.insert.new.self.entries c.args.at c.args.tile
      (λ tile. c.in_ok-insert.ensures.updates.0 tile) c.self.invariant.0
      (c.requires.length ∙ ap (λ (x : FrozenTiles). 4096 * pixel_bytes x.format) (sym c.self.view_is))
      (subst AreBytes c.bytes.ensures.value c.are_bytes.ensures)
      (subst (λ (x : FrozenTiles). AreZeroOutside x.box x.format c.args.at c.args.tile) (sym c.self.view_is) c.requires.zero),
  c.self.invariant.1,
)
