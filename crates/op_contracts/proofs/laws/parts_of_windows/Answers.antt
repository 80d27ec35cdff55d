use Rattle.std.proofs.Common.{ap, ◌∙◌}
use Rattle.pixel_formats.specs.declared.format.Format.{Format}
use Rattle.model_images.specs.Image.{at, image_from_fn}
use Rattle.model_images.proofs.Laws.{generated_equal}
use Rattle.model_graphs.specs.Windows.{window_image}
use Rattle.model_graphs.proofs.WindowLaws.{window-shows}
use Rattle.op_contracts.proofs.laws.parts_of_windows.Goals as goal

pub returns : goal.returns
returns c = λ image window part is whole inside.
    ap (λ (format : Format). image_from_fn part format (at (window_image window))) is.format
    ∙ generated_equal part image.format (at (window_image window)) (at image)
    (λ u v c there known. window-shows image window is whole u v c (inside u v there))
