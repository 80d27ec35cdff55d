use Rattle.model_graphs.specs.Windows.{window_image}
use Rattle.op_contracts.proofs.Lent.{cut-are}
use Rattle.op_contracts.proofs.window.Window.part_bytes.Goals as goal

pub returns-in_ok-part-in-None : goal.returns-in_ok-part-in-None
returns-in_ok-part-in-None c =
    cut-are (window_image c.args.self.now) c.in_ok-part-in-None.field-0 c.args.rect c.in_ok-part-in-None.ensures
