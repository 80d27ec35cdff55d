use Rattle.std.proofs.Common.{◌≡◌, List, ◌∷◌, Contains, inl, inr, sym, ap, subst}
use Rattle.std.specs.Prelude.{IsSome}
use Rattle.plane_rect.specs.Rectangle.{Rectangle}
use Rattle.plane_rect.specs.Tile.{Meets, Tile}
use Rattle.plane_rect.proofs.Lists.{Contains-cases, Contains-later}
use Rattle.model_graphs.specs.Windows.{Window, tiles_of}
use Rattle.op_contracts.proofs.Distinct.{some-from}
use Rattle.op_contracts.proofs.window.Window.has_needed_tiles.Goals as goal

pub loop-at-init : goal.loop-at-init
loop-at-init c =
    let meets = c.tiles-at-items.ensures.meeting in
    let given : c.into_iter-at-iterator.result ≡ c.tiles-at-items.result = c.into_iter-at-iterator.ensures.into_iter_gives in
    let need : c.self.inside.need ≡ c.args.self.now.need = ap (λ (w : Window). w.need) c.self.view_is in (
      tt,
      tt,
      λ t h. subst (λ (r : Rectangle). Meets t r) need ((meets t).0 (subst (λ (ts : List Tile). Contains ts t) given h)),
      λ t h. inr (subst (λ (ts : List Tile). Contains ts t) (sym given) ((meets t).1 (subst (λ (r : Rectangle). Meets t r) (sym need) h))),
    )

pub loop-at-preserved : goal.loop-at-preserved
loop-at-preserved c =
    let at = c.in-Some.at in
    let rest = c.next.new.self in
    let steps : c.loop-at.at-iterator ≡ at ∷ rest = c.in-Some.ensures.steps in (
      tt,
      tt,
      λ t h. c.loop-at.invariant.2 t (subst (λ (ts : List Tile). Contains ts t) (sym steps) (Contains-later at rest t h)),
      λ t h. elim (c.loop-at.invariant.3 t h) [
        | inl some ↦ inl some
        | inr there ↦ elim (Contains-cases at rest t (subst (λ (ts : List Tile). Contains ts t) steps there)) [
          | inl e ↦ inl (subst (λ (tile : Tile). IsSome (tiles_of c.args.self.now tile)) e (some-from (λ x. x.now) c.tile_bytes.result _ c.tile_bytes.ensures c.if-is_none.ensures))
          | inr later ↦ inr later
        ]
      ],
    )
