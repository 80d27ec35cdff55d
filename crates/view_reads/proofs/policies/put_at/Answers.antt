use Rattle.std.proofs.Common.{◌∙◌, ap}
use Rattle.model_images.specs.FromRaw.{image_from_raw}
use Rattle.pixel_formats.specs.declared.format.Format.{Format}
use Rattle.view_reads.proofs.LoopParts.{moved-raw}
use Rattle.view_reads.proofs.policies.put_at.Goals as goal

pub returns : goal.returns
returns c =
    c.from_vec.ensures
    ∙ ap (λ (f : Format). image_from_raw c.args.placed f c.into_raw.result.items) c.format-format.ensures
    ∙ moved-raw c.args.part c.args.placed c.into_raw.result.items c.requires.width c.requires.height c.into_raw.ensures.value
