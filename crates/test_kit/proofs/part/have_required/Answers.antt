use Rattle.std.proofs.Common.{◌≡◌, ℕ, ap, refl, subst, ◌<◌, arith}
use Rattle.std.proofs.lemmas.Option.{slice_get_within}
use Rattle.plane_rect.specs.Rectangle.{Includes, Rectangle}
use Rattle.model_graphs.specs.Windows.{Window}
use Rattle.test_kit.proofs.Required.{up_to-next}
use Rattle.test_kit.proofs.part.have_required.Goals as goal

pub loop-input-preserved : goal.loop-input-preserved
loop-input-preserved g c =
    let required : ℕ → Rectangle = λ i. g.K.Op.OpMeaning.meanings.required c.args.op.now c.args.boxes.now i c.args.out in
    let window = c.index-windows-input.result in
    let need : c.window.inside.need ≡ window.need = ap (λ (w : Window). w.need) c.window.view_is in
    let given : Includes c.window.inside.need c.required.result = c.if-not-contains.ensures.positions.0 refl in
    let here : Includes window.need (required c.loop-input.input) =
    subst (λ (r : Rectangle). Includes r (required c.loop-input.input)) need
    (subst (λ (r : Rectangle). Includes c.window.inside.need r) c.required.ensures given) in
    up_to-next (λ (i : ℕ) (w : Window). Includes w.need (required i)) c.args.windows.now c.loop-input.input window c.index-windows-input.is c.loop-input.invariant here

pub returns : goal.returns
returns g c = λ i window e.
    let inside : i < c.loop-input.input = omega (arith, slice_get_within c.args.windows.now i window e, c.loop-input-test.false) in
    c.loop-input.invariant i window inside e
