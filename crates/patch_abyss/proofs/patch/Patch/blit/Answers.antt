use Rattle.std.proofs.Common.{◌≡◌, ◌∙◌, sym, ap}
use Rattle.pixel_formats.specs.declared.format.Format.{Format}
use Rattle.model_images.specs.Image.{Image, at}
use Rattle.model_images.specs.Paint.{painted, put_raw}
use Rattle.model_images.specs.FromRaw.{image_from_raw}
use Rattle.patch_abyss.proofs.TilesOfPatches.{put_from_raw}
use Rattle.patch_abyss.proofs.patch.Patch.blit.Goals as goal

pub returns : goal.returns
returns c =
    let to = c.args.self.now in
    let from = c.from.inside in
    let same : to.format ≡ from.format = sym c.requires ∙ sym (ap (λ (image : Image). image.format) c.from.view_is) in
    c.paint.ensures
    ∙ ap (put_raw to from.rect) c.deref.ensures.value
    ∙ sym (put_from_raw to from.rect from.bytes.items)
    ∙ ap (λ (format : Format). painted to from.rect (at (image_from_raw from.rect format from.bytes.items))) same
    ∙ ap (λ (image : Image). painted to image.box (at image)) c.from.view_is
