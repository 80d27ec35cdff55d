use Rattle.std.proofs.Common.{◌≡◌, ap, ◌∙◌, replicate, rules}
use Rattle.model_images.specs.FromRaw.{image_from_raw}
use Rattle.model_images.proofs.FromRawLaws.{image_from_raw-zeros}
use Rattle.patch_abyss.proofs.patch.Patch.zero.Goals as goal

pub returns : goal.returns
returns c =
    let zeros : c.in_ok-bytes.bytes.items ≡ replicate c.byte_count.result 0 = search rules in
    c.from_vec.ensures
    ∙ ap (image_from_raw c.args.rect c.args.format) zeros
    ∙ image_from_raw-zeros c.args.rect c.args.format c.byte_count.result
