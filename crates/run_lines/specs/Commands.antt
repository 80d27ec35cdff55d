-- Lines that are built, and edits of nodes that are pending.
use Rattle.std.specs.Prelude.{ℕ, IsTrue, not}
use Rattle.model_graphs.specs.declared.node.NodeEdit.{NodeEdit}
use Rattle.model_operations.specs.declared.operation.IntOp.{IntOp}
use Rattle.model_runs.specs.Built.{is_of_watch}
use Rattle.model_runs.specs.State.{Effect, RunState, in_workspace, leaves, workspace_of}
use Rattle.model_states.specs.Workspace.{with_pending}
use Rattle.script_read.specs.Limits.{IsInLimits}
use Rattle.script_read.specs.declared.command.Line.{Line}

-- a line that is built, and whose command is in its limits
pub record IsBuiltLine (line : Line) : Type 0 where
  pub command : IsTrue (not (is_of_watch line.command))
  pub limits : IsInLimits line.command

-- the effect of a line whose edit of nodes is pending after it
abbrev pub leaves_pending : ℕ → RunState → NodeEdit IntOp → Effect
leaves_pending line state edit = leaves line (in_workspace state (with_pending (workspace_of state) edit))
