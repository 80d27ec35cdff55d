use Rattle.std.proofs.Common.{◌≡◌, List, [], ◌∷◌, subst}
use Rattle.plane_rect.specs.Rectangle.{Includes}
use Rattle.model_graphs.specs.Meanings.{result_box}
use Rattle.model_graphs.specs.Windows.{Window}
use Rattle.model_operations.specs.Meanings.{int_meanings}
use Rattle.op_contracts.specs.Applying.{window_bounds}
use Rattle.area_ops.specs.Kinds.{operation_of}
use Rattle.point_ops.proofs.Results.{one-of}
use Rattle.int_ops.proofs.area_op.AreaOp.apply.Goals as goal

pub area_part-requires-clause-part : goal.area_part-requires-clause-part
area_part-requires-clause-part c =
    let self = c.args.self in
    let are : c.args.windows.now ≡ c.index-windows-0.result ∷ [] = one-of c.args.windows.now c.index-windows-0.result c.requires.inputs c.index-windows-0.is in
    subst (λ (windows : List Window). Includes (result_box int_meanings (operation_of self.kind self.radius self.abyss) (window_bounds windows)) c.args.out) are c.requires.part

pub returns : goal.returns
returns c =
    let are : c.args.windows.now ≡ c.index-windows-0.result ∷ [] = one-of c.args.windows.now c.index-windows-0.result c.requires.inputs c.index-windows-0.is in
    rw are c.area_part.ensures
