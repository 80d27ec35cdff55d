use Rattle.model_graphs.proofs.WindowLaws.{window-shows}
use Rattle.model_graphs.proofs.windows.windows_show_their_images.Goals as goal

pub returns-clause-samples : goal.returns-clause-samples
returns-clause-samples c = window-shows
