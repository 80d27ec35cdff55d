use Rattle.std.proofs.Common.{◌≡◌, sym, subst}
use Rattle.std.specs.Bool.{OnTrue}
use Rattle.std.proofs.lemmas.Bool.{OnTrue_from}
use Rattle.plane_rect.specs.Rectangle.{Includes, Rectangle}
use Rattle.model_graphs.specs.Meanings.{result_box}
use Rattle.op_contracts.proofs.Bounds.{bounds-box}
use Rattle.test_kit.proofs.part.has_part.Goals as goal

pub returns-in-Some-clause-part : goal.returns-in-Some-clause-part
returns-in-Some-clause-part g c =
    let meanings = g.K.Op.OpMeaning.meanings in
    let box : result_box meanings c.args.op.now c.args.boxes.now ≡ c.in-Some.bounds =
    bounds-box meanings c.args.op.now c.args.boxes.now c.in-Some.bounds (sym c.in-Some.ensures) in
    subst (λ (r : Rectangle). OnTrue c.contains.result (Includes r c.args.out.now)) (sym box)
    (OnTrue_from c.contains.result (Includes c.in-Some.bounds c.args.out.now) (λ yes. c.contains.ensures.positions.0 yes))
