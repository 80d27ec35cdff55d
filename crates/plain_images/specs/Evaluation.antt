-- Steps of graphs as the program has them.
use Rattle.std.specs.Prelude.{ℕ, List, [], ◌∷◌, ◌++◌, map, slice_index_or, IsSome}
use Rattle.model_graphs.specs.Evaluation.{Buffers, step_image}
use Rattle.model_graphs.specs.Node as graph
use Rattle.model_images.specs.Image.{Image}
use Rattle.model_images.specs.Paint.{no_image}
use Rattle.model_operations.specs.Formats.{format_of}
use Rattle.model_operations.specs.Inputs.{formats_of}
use Rattle.model_operations.specs.Results.{result_of}
use Rattle.model_operations.specs.declared.operation.IntOp.{IntOp}
use Rattle.plain_images.specs.declared.evaluation.Buffer.{Buffer}
use Rattle.plain_images.specs.declared.evaluation.Step.{Step}
use Rattle.plain_images.specs.declared.evaluation.Step.TheVariants.{FromBuffer, Apply}

-- a step as graphs have it
abbrev pub graph_step : Step → graph.Step IntOp
graph_step (FromBuffer name) = graph.FromBuffer name
graph_step (Apply op inputs) = graph.Apply op inputs.items

-- buffers by their names, as graphs read them
abbrev pub named : List Buffer → Buffers
named buffers = map (λ (buffer : Buffer). (buffer.name, buffer.picture)) buffers

-- the images of the inputs of a step, among those of the steps before it
abbrev pub inputs_among : List Image → List ℕ → List Image
inputs_among before inputs = map (λ i. slice_index_or before i no_image) inputs

-- the operation takes its inputs
abbrev pub IsTaken : List Image → graph.Step IntOp → Type 0
IsTaken before (graph.FromBuffer buffer) = Unit {0}
IsTaken before (graph.Apply op inputs) = IsSome (format_of op (formats_of (inputs_among before inputs)))

-- so does each of some steps
abbrev pub AreTaken : Buffers → List Image → List (graph.Step IntOp) → Type 0
AreTaken buffers before [] = Unit {0}
AreTaken buffers before (step ∷ steps) =
    IsTaken before step × AreTaken buffers (before ++ step_image result_of buffers before step ∷ []) steps
