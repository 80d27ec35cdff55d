use Rattle.std.proofs.Common.{◌≡◌, ℕ, ◌-◌, sym, subst, ap, ◌∙◌, arith}
use Rattle.plane_rect.specs.Rectangle.{Inside, Rectangle}
use Rattle.model_images.specs.Image.{at}
use Rattle.model_images.proofs.Laws.{at_outside}
use Rattle.model_images.specs.Abyss.{wrapped}
use Rattle.plain_images.proofs.policies.looped_at.Goals as goal

pub returns-then-is_empty-clause-value : goal.returns-then-is_empty-clause-value
returns-then-is_empty-clause-value c =
    let nowhere : (u v : ℕ) → ¬ Inside u v c.args.picture.now.box =
    subst (λ (r : Rectangle). (u v : ℕ) → ¬ Inside u v r) c.rect-rect.ensures.value (c.is_empty.ensures.positions.0 c.if-is_empty.true) in
    sym (at_outside c.args.picture.now _ _ _ (nowhere _ _))

pub returns-clause-value : goal.returns-clause-value
returns-clause-value c =
    let box = c.args.picture.now.box in
    let first_column : c.first_column.result ≡ box.first_column = c.first_column.ensures.value ∙ ap (λ (r : Rectangle). r.first_column) c.rect-rect.ensures.value in
    let first_row : c.first_row.result ≡ box.first_row = c.first_row.ensures.value ∙ ap (λ (r : Rectangle). r.first_row) c.rect-rect.ensures.value in
    let width : c.end_column.result - c.first_column-2.result ≡ box.width =
    omega (arith, c.end_column.ensures.value, c.first_column-2.ensures.value) ∙ ap (λ (r : Rectangle). r.width) c.rect-rect.ensures.value in
    let height : c.end_row.result - c.first_row-2.result ≡ box.height =
    omega (arith, c.end_row.ensures.value, c.first_row-2.ensures.value) ∙ ap (λ (r : Rectangle). r.height) c.rect-rect.ensures.value in
    let column : c.wrapped.result ≡ wrapped box.first_column box.width c.args.column =
    c.wrapped.ensures
    ∙ ap (λ (n : ℕ). wrapped n (c.end_column.result - c.first_column-2.result) c.args.column) first_column
    ∙ ap (λ (n : ℕ). wrapped box.first_column n c.args.column) width in
    let row : c.wrapped-2.result ≡ wrapped box.first_row box.height c.args.row =
    c.wrapped-2.ensures
    ∙ ap (λ (n : ℕ). wrapped n (c.end_row.result - c.first_row-2.result) c.args.row) first_row
    ∙ ap (λ (n : ℕ). wrapped box.first_row n c.args.row) height in
    c.at.ensures.value
    ∙ ap (λ (u : ℕ). at c.args.picture.now u c.wrapped-2.result c.args.channel) column
    ∙ ap (λ (v : ℕ). at c.args.picture.now (wrapped box.first_column box.width c.args.column) v c.args.channel) row
