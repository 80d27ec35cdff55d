use Rattle.std.proofs.Common.{◌≡◌, ◌↔◌, [], map, drop}
use Rattle.model_graphs.specs.Evaluation.{images_after}
use Rattle.model_operations.specs.Results.{result_of}
use Rattle.plain_images.specs.Evaluation.{AreTaken, graph_step, named}
use Rattle.plain_images.proofs.evaluation.evaluate.Given as goal

abbrev pub invariant-loop-step : goal.invariant-loop-step
invariant-loop-step l = record {
  taken : AreTaken (named l.buffers) l.images.items (map graph_step (drop l.step-index l.steps)) ↔ AreTaken (named l.buffers) [] (map graph_step l.steps);
  images :
      (images_after result_of (named l.buffers) l.images.items (map graph_step (drop l.step-index l.steps))
      ≡ images_after result_of (named l.buffers) [] (map graph_step l.steps));
}
