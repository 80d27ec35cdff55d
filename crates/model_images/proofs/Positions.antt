-- Places in a rectangle and outside it.
use Rattle.std.proofs.Common.{◌≡◌, ℕ, true, false, refl}
use Rattle.plane_rect.specs.Rectangle.{Rectangle, Inside}
use Rattle.model_images.specs.Image.{is_inside}
use Rattle.model_images.proofs.Samples.{inside_where, Inside_from}

-- what holds of the positions of a rectangle, and of the others, holds of each
pub by_positions : (P : Type 0) (u v : ℕ) (r : Rectangle) → (Inside u v r → P) → (¬ Inside u v r → P) → P
by_positions P u v r inside outside =
    elim (is_inside u v r) as (λ b. is_inside u v r ≡ b → P) [
      | true ↦ λ e. inside (Inside_from u v r e)
      | false ↦ λ e. outside (λ h. cc (inside_where u v r h))
    ] refl

pub not_inside : (u v : ℕ) (r : Rectangle) → ¬ Inside u v r → is_inside u v r ≡ false
not_inside u v r out =
    elim (is_inside u v r) as (λ b. is_inside u v r ≡ b → b ≡ false) [
      | true ↦ λ e. absurd (out (Inside_from u v r e))
      | false ↦ λ e. refl
    ] refl
