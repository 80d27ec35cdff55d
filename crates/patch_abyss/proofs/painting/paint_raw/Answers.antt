use Rattle.std.proofs.Common.{◌∙◌}
use Rattle.plane_rect.specs.Rectangle.{meet}
use Rattle.plane_rect.proofs.Rectangles.{Inside-meet}
use Rattle.pixel_formats.specs.Format.{pixel_bytes}
use Rattle.model_images.specs.FromRaw.{image_from_raw}
use Rattle.patch_abyss.specs.Copied.{HasPart}
use Rattle.patch_abyss.proofs.Parts.{blitted}
use Rattle.patch_abyss.proofs.TilesOfPatches.{put_from_raw}
use Rattle.patch_abyss.proofs.painting.paint_raw.Goals as goal

pub returns-clause-painted : goal.returns-clause-painted
returns-clause-painted c =
    let a = c.args in
    let to = a.to_rect.now in
    let from = a.from_rect.now in
    let has : HasPart to from (meet to from) (pixel_bytes a.format) a.from.now a.to.now c.copy_meet.new.to =
    rw c.pixel_bytes.ensures at c.copy_meet.ensures.part in
    blitted to from (meet to from) a.format a.from.now a.to.now c.copy_meet.new.to
    (λ u v p q. (Inside-meet u v to from).1 (p, q)) (λ u v h. ((Inside-meet u v to from).0 h).1) has
    ∙ put_from_raw (image_from_raw to a.format a.to.now) from a.from.now
