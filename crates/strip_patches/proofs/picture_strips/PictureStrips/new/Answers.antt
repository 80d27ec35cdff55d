use Rattle.std.proofs.Common.{◌≡◌, ℕ, Option, Some, sym, ap, ◌∙◌, subst, arith}
use Rattle.std.specs.Prelude.{IfSome, unwrap_or}
use Rattle.plane_rect.specs.Rectangle.{InLimits, Inside, Rectangle, empty, scaled}
use Rattle.model_images.specs.Level.{level_box}
use Rattle.strip_patches.proofs.Adding.{source-some}
use Rattle.strip_patches.proofs.Scaled.{scaled-back}
use Rattle.strip_patches.proofs.Tiled.{no-rows}
use Rattle.strip_patches.proofs.picture_strips.PictureStrips.new.Goals.{Then-is_large}
use Rattle.strip_patches.proofs.picture_strips.PictureStrips.new.Goals as goal

module _ (c : Then-is_large) where
  source : scaled c.args.level c.args.rect ≡ Some c.unwrap-source.result
  source = sym c.scaled.ensures.value ∙ c.unwrap-source.ensures

  -- at level 0 the source is the rectangle itself
  same : c.unwrap-source.result ≡ c.args.rect
  same =
      let zero : c.args.level ≡ 0 = omega arith in
      subst (λ (z : ℕ). level_box c.unwrap-source.result z ≡ c.args.rect) zero
      (scaled-back c.args.level c.args.rect c.unwrap-source.result c.requires.level source c.area.ensures.rectangle c.area-2.ensures.rectangle)

pub new-requires-clause-limits : goal.new-requires-clause-limits
new-requires-clause-limits c =
    subst InLimits (same c) (subst (λ (found : Option Rectangle). IfSome found InLimits) c.unwrap-source.ensures c.scaled.ensures.limits)

pub returns-then-is_large-clause-source : goal.returns-then-is_large-clause-source
returns-then-is_large-clause-source c =
    let here = (goal.at.returns-then-is_large-clause-source c).Then-is_large in
    source here ∙ ap Some (same here ∙ sym c.new.ensures.rect)

pub returns-then-is_large-clause-none : goal.returns-then-is_large-clause-none
returns-then-is_large-clause-none c = λ image rectangle format box.
    no-rows image c.new.result c.new.ensures.rows rectangle (c.new.ensures.format ∙ sym format)
    (λ u v there.
    subst (λ (r : Rectangle). Inside u v r) (sym box)
    (c.contains.ensures.positions.0 c.if-contains.true u v (subst (λ (r : Rectangle). Inside u v r) c.new.ensures.rect there)))

pub returns-clause-source : goal.returns-clause-source
returns-clause-source c =
    let strips = c.in_ok-patch.patch in
    source-some (scaled c.args.level c.args.rect) c.requires.source
    ∙ ap (λ (o : Option Rectangle). Some (unwrap_or o empty))
    (ap (λ (z : ℕ). scaled z c.args.rect) (sym c.in_ok-patch.ensures.level)
    ∙ ap (λ (r : Rectangle). scaled strips.at_level r) (sym c.in_ok-patch.ensures.rect))

pub returns-clause-none : goal.returns-clause-none
returns-clause-none c = λ image rectangle format box. c.in_ok-patch.ensures.none image rectangle format
