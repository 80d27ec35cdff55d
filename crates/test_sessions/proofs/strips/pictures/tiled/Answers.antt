use Rattle.std.proofs.Common.{◌*◌, All, sym, subst, ◌∙◌}
use Rattle.pixel_formats.specs.Format.{pixel_bytes}
use Rattle.pixel_formats.specs.declared.format.Format.{Format}
use Rattle.op_contracts.specs.TileList.{HasLength}
use Rattle.test_sessions.proofs.strips.pictures.tiled.Goals as goal

pub add_tiles-requires-2-clause-lengths : goal.add_tiles-requires-2-clause-lengths
add_tiles-requires-2-clause-lengths g c =
    let format = c.add_tiles.ensures.format ∙ c.new-tiled.ensures.format in
    subst (λ (f : Format). All (HasLength (4096 * pixel_bytes f)) c.in_ok-tiles_of-2.field-0) (c.image-image.ensures ∙ sym format) c.in_ok-tiles_of-2.ensures.lengths

pub add_tiles-requires-3-clause-lengths : goal.add_tiles-requires-3-clause-lengths
add_tiles-requires-3-clause-lengths g c =
    let format = c.add_tiles-2.ensures.format ∙ c.add_tiles.ensures.format ∙ c.new-tiled.ensures.format in
    subst (λ (f : Format). All (HasLength (4096 * pixel_bytes f)) c.in_ok-tiles_of-3.field-0) (c.image-image.ensures ∙ sym format) c.in_ok-tiles_of-3.ensures.lengths
