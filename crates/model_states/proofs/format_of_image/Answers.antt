use Rattle.std.proofs.Common.{ap}
use Rattle.model_graphs.specs.Shapes.{Shape}
use Rattle.model_states.proofs.Stated as laws
use Rattle.model_states.proofs.format_of_image.Goals as goal

pub returns : goal.returns
returns g c = λ meanings buffers nodes name. ap (λ (s : Shape). s.format) (laws.scene_shape-is meanings (record { table = buffers; nodes = nodes }) name)
