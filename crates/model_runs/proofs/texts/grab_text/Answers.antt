use Rattle.std.proofs.Common.{rules, append_assoc}
use Rattle.model_runs.proofs.texts.grab_text.Goals as goal

pub returns : goal.returns
returns c = search (rules, append_assoc)
