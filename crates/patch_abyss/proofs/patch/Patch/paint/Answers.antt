use Rattle.std.proofs.Common.{◌≡◌, ◌∙◌, sym, ap, rules, length, subst}
use Rattle.std.proofs.lemmas.List.{with_items_is}
use Rattle.plane_rect.specs.Rectangle.{meet}
use Rattle.plane_rect.proofs.Rectangles.{Inside-meet}
use Rattle.pixel_formats.specs.Format.{pixel_bytes}
use Rattle.model_images.specs.FromRaw.{image_from_raw, AreBytes}
use Rattle.patch_abyss.specs.Copied.{HasPart}
use Rattle.patch_abyss.proofs.Parts.{blitted}
use Rattle.patch_abyss.proofs.TilesOfPatches.{put_from_raw}
use Rattle.patch_abyss.proofs.patch.Patch.paint.Goals as goal

pub returns : goal.returns
returns c =
    let to = c.self.inside in
    let rect = c.args.rect.now in
    let bytes = c.args.bytes.now in
    let new = c.copy_meet.new.to in
    let fits : length new ≡ to.bytes.len = search rules in
    let has : HasPart to.rect rect (meet to.rect rect) (pixel_bytes to.format) bytes to.bytes.items new =
    rw (c.pixel_bytes-pixel.ensures, c.deref_mut.ensures.value) at c.copy_meet.ensures.part in
    rw (← c.self.view_is)
    (ap (image_from_raw to.rect to.format) (with_items_is to.bytes new fits)
    ∙ blitted to.rect rect (meet to.rect rect) to.format bytes to.bytes.items new
    (λ u v p q. (Inside-meet u v to.rect rect).1 (p, q)) (λ u v h. ((Inside-meet u v to.rect rect).0 h).1) has
    ∙ put_from_raw (image_from_raw to.rect to.format to.bytes.items) rect bytes)

pub invariant_of-self : goal.invariant_of-self
invariant_of-self c =
    let to = c.self.inside in
    let new = c.copy_meet.new.to in
    let fits : length new ≡ to.bytes.len = search rules in
    let is = with_items_is to.bytes new fits in
    let long = rw c.deref_mut.ensures.value at c.copy_meet.ensures.len in
    record {
      rectangle = c.self.invariant.rectangle;
      limits = c.self.invariant.limits;
      whole = ap length is ∙ long ∙ c.self.invariant.whole;
      small = subst AreBytes (sym is) c.copy_meet.ensures.small;
    }
