use Rattle.std.proofs.Common.{◌≡◌, ℕ, List, IfOk, subst, ap, ◌∙◌}
use Rattle.std.specs.List.{flat_map}
use Rattle.pixel_formats.specs.Format.{depth}
use Rattle.pixel_formats.specs.declared.format.Format.{Format}
use Rattle.model_images.specs.Raw.{sample_bytes}
use Rattle.model_images.specs.Abyss.{raw_with}
use Rattle.plain_images.proofs.raw_bytes.raw_with.Goals as goal

pub returns : goal.returns
unfolding raw_with
returns c =
    subst (λ (bytes : List ℕ). IfOk c.to_bytes.result (λ made. made.items ≡ bytes))
    (ap (λ (f : Format). flat_map (sample_bytes (depth f)) c.deref.result.now) c.format.ensures.value
    ∙ ap (flat_map (sample_bytes (depth c.args.picture.now.format))) (c.deref.ensures.value ∙ c.in_ok-samples.ensures.value))
    c.to_bytes.ensures
