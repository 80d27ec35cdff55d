use Rattle.std.proofs.Common.{◌*◌, List, ℕ, length, ◌∙◌, ap, sym, subst}
use Rattle.plane_rect.specs.Rectangle.{Rectangle}
use Rattle.pixel_formats.specs.Format.{pixel_bytes}
use Rattle.pixel_formats.specs.declared.format.Format.{Format}
use Rattle.model_images.specs.Tiles.{AreZeroOutside}
use Rattle.model_images.proofs.ByteLaws.{length-tile_bytes}
use Rattle.model_images.proofs.RawLaws.{tile-outside}
use Rattle.model_images.specs.Raw.{tile_bytes}
use Rattle.test_sessions.proofs.strips.frozen_tiles.frozen.Goals as goal

pub hold-requires-clause-length : goal.hold-requires-clause-length
hold-requires-clause-length c =
    ap length c.in_ok-tile.ensures ∙ length-tile_bytes c.args.patch.now c.in-Some.at
    ∙ ap (λ (f : Format). 4096 * pixel_bytes f) (sym c.loop-at.invariant.format)

pub hold-requires-clause-zero : goal.hold-requires-clause-zero
hold-requires-clause-zero c =
    subst (λ (bytes : List ℕ). AreZeroOutside c.loop-at.frozen.box c.loop-at.frozen.format c.in-Some.at bytes) (sym c.in_ok-tile.ensures)
    (let image = c.args.patch.now in
    let Zero : Rectangle → Format → Type 0 = λ box format. AreZeroOutside box format c.in-Some.at (tile_bytes image c.in-Some.at) in
    subst (λ (box : Rectangle). Zero box c.loop-at.frozen.format) (sym c.loop-at.invariant.box)
    (subst (λ (format : Format). Zero image.box format) (sym c.loop-at.invariant.format) (tile-outside image c.in-Some.at)))
