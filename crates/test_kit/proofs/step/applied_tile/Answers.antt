use Rattle.std.proofs.Common.{◌≡◌, ℕ, [], ◌∷◌, refl, sym, ap, ◌∙◌, subst}
use Rattle.plane_rect.specs.Rectangle.{Includes, Inside, Rectangle, meet}
use Rattle.plane_rect.specs.Tile.{plane, tile_rectangle, tile_square}
use Rattle.plane_rect.proofs.Rectangles.{Inside-meet}
use Rattle.model_images.specs.Paint.{cut}
use Rattle.model_graphs.specs.Meanings.{result_box}
use Rattle.model_graphs.specs.Windows.{Window}
use Rattle.op_contracts.specs.Applying.{result_of_windows, window_bounds}
use Rattle.op_contracts.proofs.Bounds.{bounds-box}
use Rattle.test_kit.proofs.OneWindow.{only-bounds, only-number}
use Rattle.test_kit.proofs.step.applied_tile.Goals as goal

pub apply-requires-clause-part : goal.apply-requires-clause-part
apply-requires-clause-part g c =
    let meanings = g.K.Op.OpMeaning.meanings in
    let box : result_box meanings c.args.op.now (c.window.inside.bounds ∷ []) ≡ c.in-Some.bounds =
    bounds-box meanings c.args.op.now (c.window.inside.bounds ∷ []) c.in-Some.bounds (sym c.in-Some.ensures) in
    subst (λ (r : Rectangle). Includes r c.meet-out.result) (sym box) c.meet-out.ensures.in_other

pub apply-requires-clause-tile : goal.apply-requires-clause-tile
apply-requires-clause-tile g c = (
  c.args.at,
  λ u v there.
      let in_rect : Inside u v (tile_rectangle c.args.at) = rw c.rect.ensures.value at (c.meet-out.ensures.in_this u v there) in
      ((Inside-meet u v (tile_square c.args.at) plane).0 in_rect).0,
)

pub apply-requires-clause-required : goal.apply-requires-clause-required
apply-requires-clause-required g c = λ i window e.
    let meanings = g.K.Op.OpMeaning.meanings in
    let op = c.args.op.now in
    let boxes = c.window.inside.bounds ∷ [] in
    let out = c.meet-out.result in
    let first = c.index-windows-0.result in
    let only = only-number c.args.windows.now first i window c.if-windows-ne1.false e in
    let is : window ≡ first = only.1 ∙ sym c.index-windows-0.is in
    let need : c.window.inside.need ≡ first.need = ap (λ (w : Window). w.need) c.window.view_is in
    let given : Includes c.window.inside.need c.required.result = c.if-not-contains.ensures.positions.0 refl in
    let start : Includes first.need (meanings.required op boxes 0 out) =
    subst (λ (r : Rectangle). Includes r (meanings.required op boxes 0 out)) need
    (subst (λ (r : Rectangle). Includes c.window.inside.need r) c.required.ensures given) in
    subst (λ (j : ℕ). Includes window.need (meanings.required op boxes j out)) (sym only.0)
    (subst (λ (w : Window). Includes w.need (meanings.required op boxes 0 out)) (sym is) start)

pub returns-in_ok-apply-in-Some-take : goal.returns-in_ok-apply-in-Some-take
returns-in_ok-apply-in-Some-take g c =
    let meanings = g.K.Op.OpMeaning.meanings in
    let op = c.args.op.now in
    let windows = c.args.windows.now in
    let first = c.index-windows-0.result in
    let bounds : c.window.inside.bounds ≡ first.bounds = ap (λ (w : Window). w.bounds) c.window.view_is in
    let boxes : window_bounds windows ≡ c.window.inside.bounds ∷ [] =
    only-bounds windows first c.if-windows-ne1.false
    ∙ ap (λ (w : Window). w.bounds ∷ []) (sym c.index-windows-0.is)
    ∙ ap (λ (r : Rectangle). r ∷ []) (sym bounds) in
    let box : result_box meanings op (window_bounds windows) ≡ c.in-Some.bounds =
    ap (result_box meanings op) boxes ∙ bounds-box meanings op (c.window.inside.bounds ∷ []) c.in-Some.bounds (sym c.in-Some.ensures) in
    let out : c.meet-out.result ≡ meet (tile_rectangle c.args.at) (result_box meanings op (window_bounds windows)) =
    c.meet-out.ensures.value
    ∙ ap (λ (r : Rectangle). meet r c.in-Some.bounds) c.rect.ensures.value
    ∙ ap (meet (tile_rectangle c.args.at)) (sym box) in
    c.in_ok-apply-in-Some-take.ensures ∙ ap (cut (result_of_windows meanings op windows)) out
