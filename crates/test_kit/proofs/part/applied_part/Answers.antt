use Rattle.std.proofs.Common.{◌≡◌, List, sym, ◌∙◌, subst}
use Rattle.plane_rect.specs.Rectangle.{Includes, Rectangle}
use Rattle.model_graphs.specs.Meanings.{result_box}
use Rattle.op_contracts.specs.Applying.{HaveRequired, window_bounds}
use Rattle.test_kit.proofs.part.applied_part.Goals as goal

pub apply-requires-clause-part : goal.apply-requires-clause-part
apply-requires-clause-part g c =
    let boxes : c.deref-in-Some.result.now ≡ window_bounds c.args.windows.now = c.deref-in-Some.ensures.value ∙ c.in_ok-boxes.ensures in
    subst (λ (all : List Rectangle). Includes (result_box g.K.Op.OpMeaning.meanings c.args.op.now all) c.args.out) (sym boxes) c.if-not-is_applicable.ensures.part

pub apply-requires-clause-required : goal.apply-requires-clause-required
apply-requires-clause-required g c =
    let boxes : c.deref-in-Some.result.now ≡ window_bounds c.args.windows.now = c.deref-in-Some.ensures.value ∙ c.in_ok-boxes.ensures in
    subst (λ (all : List Rectangle). HaveRequired g.K.Op.OpMeaning.meanings c.args.op.now all c.args.windows.now c.args.out) (sym boxes) c.if-not-is_applicable.ensures.required
