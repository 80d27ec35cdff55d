-- Rectangles of roots that grow as roots are written.
use Rattle.std.proofs.Common.{◌≡◌, ℕ, Bool, true, false, cond, List, [], ◌∷◌, Some, refl, sym, ap, ◌∙◌, unwrap_or}
use Rattle.std.specs.Map.{lookup}
use Rattle.std.specs.Str.{bytes_eq}
use Rattle.std.proofs.lemmas.Slice.Eq.{bytes_eq-Decides}
use Rattle.plane_rect.specs.Rectangle.{Rectangle, empty, hull}
use Rattle.model_graphs.proofs.Evaluating.{same_bytes}
use Rattle.model_states.specs.Rectangles.{Rectangles, rectangle_of, with_written}

-- the rectangle of the root is the hull with what there was
pub written-own : (rectangles : Rectangles) (root : List ℕ) (r : Rectangle) → rectangle_of (with_written rectangles root r) root ≡ hull (rectangle_of rectangles root) r
written-own [] root r = ap (λ b. unwrap_or (cond b (Some r) (lookup (bytes_eq root) [])) empty) (same_bytes root)
written-own (entry ∷ entries) root r = by (bytes_eq root entry.0) refl (written-own entries root r)
  where
    by : (b : Bool) → bytes_eq root entry.0 ≡ b → rectangle_of (with_written entries root r) root ≡ hull (rectangle_of entries root) r →
        rectangle_of (cond b ((entry.0, hull entry.1 r) ∷ entries) (entry ∷ with_written entries root r)) root ≡ hull (unwrap_or (cond b (Some entry.1) (lookup (bytes_eq root) entries)) empty) r
    by true e rest = ap (λ b. unwrap_or (cond b (Some (hull entry.1 r)) (lookup (bytes_eq root) entries)) empty) e
    by false e rest = ap (λ b. unwrap_or (cond b (Some entry.1) (lookup (bytes_eq root) (with_written entries root r))) empty) e ∙ rest

-- those of the others are unchanged
pub written-other : (rectangles : Rectangles) (root other : List ℕ) (r : Rectangle) → bytes_eq other root ≡ false → rectangle_of (with_written rectangles root r) other ≡ rectangle_of rectangles other
written-other [] root other r apart = ap (λ b. unwrap_or (cond b (Some r) (lookup (bytes_eq other) [])) empty) apart
written-other (entry ∷ entries) root other r apart = by (bytes_eq root entry.0) refl (written-other entries root other r apart)
  where
    by : (b : Bool) → bytes_eq root entry.0 ≡ b → rectangle_of (with_written entries root r) other ≡ rectangle_of entries other →
        rectangle_of (cond b ((entry.0, hull entry.1 r) ∷ entries) (entry ∷ with_written entries root r)) other ≡ rectangle_of (entry ∷ entries) other
    by true e rest =
        let named : root ≡ entry.0 = (bytes_eq-Decides root entry.0).0 e in
        let not_here : bytes_eq other entry.0 ≡ false = ap (bytes_eq other) (sym named) ∙ apart in
        ap (λ b. unwrap_or (cond b (Some (hull entry.1 r)) (lookup (bytes_eq other) entries)) empty) not_here
        ∙ ap (λ b. unwrap_or (cond b (Some entry.1) (lookup (bytes_eq other) entries)) empty) (sym not_here)
    by false e rest = step (bytes_eq other entry.0) rest
      where
        step : (b : Bool) → rectangle_of (with_written entries root r) other ≡ rectangle_of entries other →
            unwrap_or (cond b (Some entry.1) (lookup (bytes_eq other) (with_written entries root r))) empty ≡ unwrap_or (cond b (Some entry.1) (lookup (bytes_eq other) entries)) empty
        step true rest = refl
        step false rest = rest
