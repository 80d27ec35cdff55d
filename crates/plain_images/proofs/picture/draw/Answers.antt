use Rattle.std.proofs.Common.{sym, subst, ap, ◌∙◌}
use Rattle.pixel_formats.specs.Format.{channels}
use Rattle.pixel_formats.specs.declared.format.Format.{Format}
use Rattle.model_images.specs.Image.{sample_count}
use Rattle.model_images.proofs.Laws.{length-sampled}
use Rattle.std.proofs.Common.{length}
use Rattle.plain_images.specs.Picture.{AreSamples}
use Rattle.plain_images.proofs.picture.draw.Goals as goal

pub invariant_of-result : goal.invariant_of-result
invariant_of-result g c = record {
  rectangle = c.in_ok-sample_all.ensures.rectangle;
  limits = c.requires.limits;
  whole =
      ap length c.in_ok-sample_all.ensures.value
      ∙ length-sampled c.args.rect (channels (g.S.Samples.sample_format c.args.samples.now)) (g.S.Samples.value c.args.samples.now)
      ∙ ap (λ (f : Format). sample_count c.args.rect (channels f)) (sym c.format.ensures);
  range =
      subst (λ (f : Format). AreSamples f c.in_ok-sample_all.field-0.items) (sym c.format.ensures) c.in_ok-sample_all.ensures.range;
}
