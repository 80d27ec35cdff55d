-- Answers of edits of nodes.
use Rattle.std.specs.Prelude.{List, Result, Ok, Err}
use Rattle.std.specs.Global.{Vec}
use Rattle.model_operations.specs.declared.operation.IntOp.{IntOp}
use Rattle.model_graphs.specs.Node.{Node}
use Rattle.model_states.specs.declared.refused.StateRefused.{StateRefused}

-- nodes as a list, or why an edit is refused
abbrev pub answer_of : Result (Vec (Node IntOp)) StateRefused → Result (List (Node IntOp)) StateRefused
answer_of (Ok nodes) = Ok nodes.items
answer_of (Err refused) = Err refused
