-- Hulls of several rectangles, in whatever order they are taken.
use Rattle.std.proofs.Common.{◌≡◌, ℕ, ◌-◌, ◌<◌, Bool, true, false, cond, List, [], ◌∷◌, ◌++◌, min, max, reverse, fold, refl, sym, ap, ◌∙◌, arith}
use Rattle.std.proofs.lemmas.Bool.Decides.{nat_tests}
use Rattle.std.proofs.lemmas.List.{reverse-append}
use Rattle.std.proofs.lemmas.List.Sums.{fold-append}
use Rattle.plane_rect.specs.Rectangle.{Rectangle, empty, end_column, end_row, hull, is_empty, spanning}
use Rattle.plane_rect.proofs.Rectangles.{rectangle-some}
use Rattle.model_states.specs.Regions.{hull_of}
use Rattle.model_states.proofs.TileCounts.{has-sides}

some-sides : (r : Rectangle) → 0 < r.width → 0 < r.height → is_empty r ≡ false
some-sides r wide high = grind (arith, nat_tests)

-- the rectangle around two that have positions
abbrev around : Rectangle → Rectangle → Rectangle
around a b = record {
  first_column = min a.first_column b.first_column;
  first_row = min a.first_row b.first_row;
  width = max (end_column a) (end_column b) - min a.first_column b.first_column;
  height = max (end_row a) (end_row b) - min a.first_row b.first_row;
}

same_sides : (l t w h l' t' w' h' : ℕ) → l ≡ l' → t ≡ t' → w ≡ w' → h ≡ h' →
    ◌≡◌ {A = Rectangle} (record { first_column = l; first_row = t; width = w; height = h }) (record { first_column = l'; first_row = t'; width = w'; height = h' })
same_sides l t w h l' t' w' h' a b c d =
    let joined : (of : ℕ → ℕ → ℕ → ℕ → Rectangle) → of l t w h ≡ of l' t' w' h' = λ of. cc in
    joined (λ l t w h. record { first_column = l; first_row = t; width = w; height = h })

-- ---- the hull of two

pub hull-left_empty : (a b : Rectangle) → is_empty a ≡ true → hull a b ≡ b
hull-left_empty a b none =
    ap (λ (s : Bool). cond s b (cond (is_empty b) a (spanning (min a.first_column b.first_column) (min a.first_row b.first_row) (max (end_column a) (end_column b)) (max (end_row a) (end_row b))))) none

pub hull-right_empty : (a b : Rectangle) → is_empty a ≡ false → is_empty b ≡ true → hull a b ≡ a
hull-right_empty a b some none = by (is_empty a) (is_empty b) some none
  where
    by : (s t : Bool) → s ≡ false → t ≡ true →
        cond s b (cond t a (spanning (min a.first_column b.first_column) (min a.first_row b.first_row) (max (end_column a) (end_column b)) (max (end_row a) (end_row b)))) ≡ a
    by true t e f = absurd (cc)
    by false true e f = refl
    by false false e f = absurd (cc)

hull-some : (a b : Rectangle) → is_empty a ≡ false → is_empty b ≡ false → hull a b ≡ around a b
hull-some a b some more = by (is_empty a) (is_empty b) some more
  where
    left : (0 < a.width) × (0 < a.height)
    left = has-sides a some

    right : (0 < b.width) × (0 < b.height)
    right = has-sides b more

    by : (s t : Bool) → s ≡ false → t ≡ false →
        cond s b (cond t a (spanning (min a.first_column b.first_column) (min a.first_row b.first_row) (max (end_column a) (end_column b)) (max (end_row a) (end_row b)))) ≡ around a b
    by true t e f = absurd (cc)
    by false true e f = absurd (cc)
    by false false e f =
        rectangle-some (min a.first_column b.first_column) (min a.first_row b.first_row)
        (max (end_column a) (end_column b) - min a.first_column b.first_column) (max (end_row a) (end_row b) - min a.first_row b.first_row)
        (omega (arith, left.0, right.0)) (omega (arith, left.1, right.1))

around-some : (a b : Rectangle) → is_empty a ≡ false → is_empty b ≡ false → is_empty (around a b) ≡ false
around-some a b some more =
    let left = has-sides a some in
    let right = has-sides b more in
    some-sides (around a b) (omega (arith, left.0, right.0)) (omega (arith, left.1, right.1))

hull-not_empty : (a b : Rectangle) → is_empty a ≡ false → is_empty b ≡ false → is_empty (hull a b) ≡ false
hull-not_empty a b some more = ap is_empty (hull-some a b some more) ∙ around-some a b some more

around-associative : (a b c : Rectangle) → around (around a b) c ≡ around a (around b c)
around-associative a b c =
    let ab = around a b in
    let bc = around b c in
    let ends : max (end_column ab) (end_column c) ≡ max (end_column a) (end_column bc) = omega arith in
    let bottoms : max (end_row ab) (end_row c) ≡ max (end_row a) (end_row bc) = omega arith in
    let firsts : min ab.first_column c.first_column ≡ min a.first_column bc.first_column = omega arith in
    let tops : min ab.first_row c.first_row ≡ min a.first_row bc.first_row = omega arith in
    same_sides
    (min ab.first_column c.first_column) (min ab.first_row c.first_row)
    (max (end_column ab) (end_column c) - min ab.first_column c.first_column) (max (end_row ab) (end_row c) - min ab.first_row c.first_row)
    (min a.first_column bc.first_column) (min a.first_row bc.first_row)
    (max (end_column a) (end_column bc) - min a.first_column bc.first_column) (max (end_row a) (end_row bc) - min a.first_row bc.first_row)
    firsts tops (omega (arith, ends, firsts)) (omega (arith, bottoms, tops))

pub hull-associative : (a b c : Rectangle) → hull (hull a b) c ≡ hull a (hull b c)
hull-associative a b c = by (is_empty a) (is_empty b) (is_empty c) refl refl refl
  where
    by : (s t u : Bool) → is_empty a ≡ s → is_empty b ≡ t → is_empty c ≡ u → hull (hull a b) c ≡ hull a (hull b c)
    by true t u e f g = ap (λ r. hull r c) (hull-left_empty a b e) ∙ sym (hull-left_empty a (hull b c) e)
    by false true u e f g = ap (λ r. hull r c) (hull-right_empty a b e f) ∙ ap (hull a) (sym (hull-left_empty b c f))
    by false false true e f g = hull-right_empty (hull a b) c (hull-not_empty a b e f) g ∙ ap (hull a) (sym (hull-right_empty b c f g))
    by false false false e f g =
        ap (λ r. hull r c) (hull-some a b e f)
        ∙ hull-some (around a b) c (around-some a b e f) g
        ∙ around-associative a b c
        ∙ sym (hull-some a (around b c) e (around-some b c f g))
        ∙ ap (hull a) (sym (hull-some b c f g))

-- ---- the hull of several

pub hull_of-append : (xs ys : List Rectangle) → hull_of (xs ++ ys) ≡ hull (hull_of xs) (hull_of ys)
hull_of-append [] ys = refl
hull_of-append (x ∷ xs) ys = ap (hull x) (hull_of-append xs ys) ∙ sym (hull-associative x (hull_of xs) (hull_of ys))

-- taken from the last on
pub hull_of-folded : (xs : List Rectangle) → fold (λ (h r : Rectangle). hull r h) empty (reverse xs) ≡ hull_of xs
hull_of-folded [] = refl
hull_of-folded (x ∷ xs) =
    let step : Rectangle → Rectangle → Rectangle = λ h r. hull r h in
    ap (fold step empty) (reverse-append (x ∷ []) xs)
    ∙ fold-append step empty (reverse xs) (x ∷ [])
    ∙ ap (hull x) (hull_of-folded xs)
