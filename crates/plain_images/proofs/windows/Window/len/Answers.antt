use Rattle.std.proofs.Common.{sym}
use Rattle.model_operations.proofs.WindowLaws.{length-window}
use Rattle.plain_images.proofs.windows.Window.len.Goals as goal

pub returns-clause-value : goal.returns-clause-value
returns-clause-value c =
    let w = c.self.inside in
    rw (← c.self.view_is) (sym (length-window w.radius w.picture.now w.policy w.column w.row w.channel))
