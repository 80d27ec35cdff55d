use Rattle.std.proofs.Common.{◌≡◌, ◌∙◌, ap, rules, length, replicate}
use Rattle.std.proofs.lemmas.List.{with_items_is}
use Rattle.plane_rect.specs.Rectangle.{meet}
use Rattle.plane_rect.proofs.Rectangles.{Inside-meet}
use Rattle.pixel_formats.specs.Format.{pixel_bytes}
use Rattle.model_images.specs.Image.{at}
use Rattle.model_images.proofs.Laws.{generated_equal}
use Rattle.model_images.specs.FromRaw.{image_from_raw, pixels_from_raw}
use Rattle.patch_abyss.specs.Copied.{HasPart}
use Rattle.patch_abyss.proofs.Parts.{part_generated}
use Rattle.patch_abyss.proofs.patch.Patch.part.Goals as goal

pub returns : goal.returns
returns c =
    let to = c.args.rect in
    let from = c.self.inside in
    let new = c.copy_meet.new.to in
    let n = c.byte_count.result in
    let fits : length new ≡ c.in_ok-bytes.bytes.len = search rules in
    let zeros : c.in_ok-bytes.bytes.items ≡ replicate n 0 = search rules in
    let has : HasPart to from.rect (meet to from.rect) (pixel_bytes from.format) from.bytes.items (replicate n 0) new =
    rw (c.pixel_bytes-pixel.ensures, c.deref.ensures.value, c.deref_mut.ensures.value, zeros) at c.copy_meet.ensures.part in
    rw (← c.self.view_is)
    (c.from_vec.ensures
    ∙ ap (image_from_raw to from.format) (with_items_is c.in_ok-bytes.bytes new fits)
    ∙ generated_equal to from.format (pixels_from_raw to from.format new) (at (image_from_raw from.rect from.format from.bytes.items))
    (part_generated to from.rect (meet to from.rect) from.format n from.bytes.items new
    (λ u v p q. (Inside-meet u v to from.rect).1 (p, q)) (λ u v h. ((Inside-meet u v to from.rect).0 h).1) has))
