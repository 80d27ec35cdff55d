use Rattle.std.proofs.Common.{List, sym, subst}
use Rattle.plane_rect.specs.Rectangle.{Includes, Rectangle}
use Rattle.model_graphs.specs.Meanings.{result_box}
use Rattle.op_contracts.specs.Applying.{HaveRequired}
use Rattle.bench_engine.proofs.operations.apply.Goals as goal

pub apply-requires-clause-part : goal.apply-requires-clause-part
apply-requires-clause-part g c =
    subst (λ (boxes : List Rectangle). Includes (result_box g.K.Op.OpMeaning.meanings c.args.op.now boxes) c.args.out)
    (sym c.requires.boxes) c.requires.applicable.part

pub apply-requires-clause-required : goal.apply-requires-clause-required
apply-requires-clause-required g c =
    subst (λ (boxes : List Rectangle). HaveRequired g.K.Op.OpMeaning.meanings c.args.op.now boxes c.args.windows.now c.args.out)
    (sym c.requires.boxes) c.requires.applicable.required
