use Rattle.std.proofs.Common.{List, rules, ◌∙◌, subst, refl}
use Rattle.std.specs.Prelude.{IsSome}
use Rattle.std.proofs.lemmas.Bool.{OnTrue_at, OnTrue_from}
use Rattle.plane_rect.specs.Rectangle.{Includes, Inside, Rectangle}
use Rattle.plane_rect.specs.Tile.{plane, tile_square}
use Rattle.plane_rect.proofs.Rectangles.{Inside-meet}
use Rattle.model_graphs.specs.Meanings.{result_box}
use Rattle.op_contracts.specs.Applying.{HaveRequired, IsInOneTile, bounds_of, window_bounds, window_formats}
use Rattle.test_kit.specs.Applicable.{IsApplicable}
use Rattle.test_kit.proofs.part.is_applicable.Goals as goal

pub returns : goal.returns
returns g c =
    let meanings = g.K.Op.OpMeaning.meanings in
    let op = c.args.op.now in
    let windows = c.args.windows.now in
    let out = c.args.out.now in
    let format : IsSome (meanings.format op (window_formats windows)) = search rules in
    let bounds : IsSome (bounds_of meanings op (window_bounds windows)) =
    subst (λ (boxes : List Rectangle). IsSome (bounds_of meanings op boxes)) c.requires.boxes c.if-not-has_part.ensures.bounds in
    let part : Includes (result_box meanings op (window_bounds windows)) out =
    subst (λ (boxes : List Rectangle). Includes (result_box meanings op boxes) out) c.requires.boxes c.if-not-has_part.ensures.part in
    let in_rect : Includes c.rect.result out = c.if-not-contains.ensures.positions.0 refl in
    let tile : IsInOneTile out = (
      c.args.tile,
      λ u v there. ((Inside-meet u v (tile_square c.args.tile) plane).0 (subst (λ (r : Rectangle). Inside u v r) c.rect.ensures.value (in_rect u v there))).0,
    ) in
    OnTrue_from c.have_required.result (IsApplicable meanings op windows out)
    (λ yes. record {
      inputs = c.if-windows-arity.false ∙ c.arity.ensures;
      format = format;
      bounds = bounds;
      part = part;
      tile = tile;
      whole = c.if-not-are_whole.ensures;
      required = subst (λ (boxes : List Rectangle). HaveRequired meanings op boxes windows out) c.requires.boxes (OnTrue_at yes c.have_required.ensures);
    })
