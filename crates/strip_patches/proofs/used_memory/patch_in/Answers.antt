use Rattle.std.proofs.Common.{sym, subst}
use Rattle.model_images.specs.FromRaw.{pixels_from_raw}
use Rattle.model_images.specs.Image.{IsImage}
use Rattle.model_images.proofs.Laws.{IsImage-image_from_fn}
use Rattle.strip_patches.proofs.used_memory.patch_in.Goals as goal

pub returns-clause-whole : goal.returns-clause-whole
returns-clause-whole c =
    subst IsImage (sym c.from_vec.ensures)
    (IsImage-image_from_fn c.args.rect c.args.format (pixels_from_raw c.args.rect c.args.format c.in_ok-bytes.bytes.items))
