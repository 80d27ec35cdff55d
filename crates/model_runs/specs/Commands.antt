-- What the commands of a script ask of buffers and of nodes.
use Rattle.std.specs.Prelude.{ℕ, List}
use Rattle.model_graphs.specs.Node.{Node}
use Rattle.model_graphs.specs.declared.node.Body.{Body}
use Rattle.model_graphs.specs.declared.node.Body.TheVariants.{Source, Compute}
use Rattle.model_operations.specs.declared.operation.IntOp.{IntOp}
use Rattle.script_read.specs.declared.command.OpWords.{OpWords}
use Rattle.script_read.specs.declared.command.OpWords.TheVariants as words

-- what a node does, with its inputs
abbrev pub body_of : OpWords → List (List ℕ) → Body IntOp
body_of (words.Source buffer) inputs = Source buffer
body_of (words.Compute op) inputs = Compute op inputs

-- the node of a line
abbrev pub node_of : List ℕ → OpWords → List (List ℕ) → Node IntOp
node_of name operation inputs = record { name = name; body = body_of operation inputs }
