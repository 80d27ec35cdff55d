use Rattle.std.proofs.Common.{sym}
use Rattle.model_images.proofs.FromRawLaws.{raw-image_from_raw}
use Rattle.patch_abyss.proofs.patch.Patch.into_raw.Goals as goal

pub returns-clause-value : goal.returns-clause-value
returns-clause-value c =
    let patch = c.self.inside in
    rw (← c.self.view_is) (sym (raw-image_from_raw patch.rect patch.format patch.bytes.items c.self.invariant.small c.self.invariant.whole))
