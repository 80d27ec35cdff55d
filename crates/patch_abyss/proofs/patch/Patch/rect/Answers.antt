use Rattle.model_images.specs.FromRaw.{pixels_from_raw}
use Rattle.model_images.proofs.Laws.{IsImage-image_from_fn}
use Rattle.patch_abyss.proofs.patch.Patch.rect.Goals as goal

pub returns-clause-whole : goal.returns-clause-whole
returns-clause-whole c =
    let patch = c.before.self.inside in
    rw (← c.before.self.view_is) (IsImage-image_from_fn patch.rect patch.format (pixels_from_raw patch.rect patch.format patch.bytes.items))
