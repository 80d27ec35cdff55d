-- Rectangles of levels, and those of level 0 that are averaged for them.
use Rattle.std.proofs.Common.{◌≡◌, ℕ, ℤ, pos, zero, suc, ◌-◌, ◌^◌, ◌<◌, ◌≤◌, ◌*ℤ◌, ◌↔◌, inl, inr, Bool, true, false, Some, None, cond, Result, Ok, Err, sym, ap, ◌∙◌, subst, arith}
use Rattle.std.proofs.lemmas.Option.{same_Some}
use Rattle.std.proofs.lemmas.Int.{ints}
use Rattle.plane_rect.specs.declared.rect.RectRefused.{RectRefused}
use Rattle.plane_rect.specs.declared.rect.RectRefused.TheVariants.{Place}
use Rattle.plane_rect.specs.Rectangle.{BeginsOutside, Inside, IsCoordinate, IsRectangle, Rectangle, empty, end_column, end_row, enlarged, if_in_limits, in_limits, plane_coordinate, scaled}
use Rattle.plane_rect.proofs.Moved.{enlarged-all}
use Rattle.plane_rect.proofs.Rectangles.{coordinate_test, refuses_place, some_or_empty}
use Rattle.model_images.specs.Level.{level_box}
use Rattle.strip_patches.specs.LevelStrips.{halves}
use Rattle.strip_patches.proofs.Halves.{IsRectangle-level_box, box-positions, coarse-halves, first_coarse, reached}

-- rectangles of the same positions are one
same-sides : (a b : Rectangle) → a.first_column ≡ b.first_column → a.first_row ≡ b.first_row → a.width ≡ b.width → a.height ≡ b.height → a ≡ b
same-sides a b first_column first_row width height =
    let of : ℕ → ℕ → ℕ → ℕ → Rectangle = λ l t w h. record { first_column = l; first_row = t; width = w; height = h } in
    let joined : (of : ℕ → ℕ → ℕ → ℕ → Rectangle) → of a.first_column a.first_row a.width a.height ≡ of b.first_column b.first_row b.width b.height = λ of. cc in
    joined of

no-position : (u v : ℕ) → Inside u v empty → ⊥
no-position u v h = omega (arith, h.column)

corner : (r : Rectangle) → 0 < r.width → 0 < r.height → Inside r.first_column r.first_row r
corner r w h = record { column = (omega arith, omega (arith, w)); row = (omega arith, omega (arith, h)) }

last : (r : Rectangle) → 0 < r.width → 0 < r.height → Inside (end_column r - 1) (end_row r - 1) r
last r w h = record { column = (omega (arith, w), omega (arith, w)); row = (omega (arith, h), omega (arith, h)) }

pub same-positions : (a b : Rectangle) → IsRectangle a → IsRectangle b → ((u v : ℕ) → Inside u v a ↔ Inside u v b) → a ≡ b
same-positions a b is_a is_b same = elim (some_or_empty a is_a) [
  | inr none_a ↦ elim (some_or_empty b is_b) [
    | inr none_b ↦ none_a ∙ sym none_b
    | inl some ↦ absurd (no-position b.first_column b.first_row (subst (λ (r : Rectangle). Inside b.first_column b.first_row r) none_a ((same b.first_column b.first_row).1 (corner b some.0 some.1))))
  ]
  | inl some_a ↦ elim (some_or_empty b is_b) [
    | inr none ↦ absurd (no-position a.first_column a.first_row (subst (λ (r : Rectangle). Inside a.first_column a.first_row r) none ((same a.first_column a.first_row).0 (corner a some_a.0 some_a.1))))
    | inl some_b ↦
        let first_a = (same a.first_column a.first_row).0 (corner a some_a.0 some_a.1) in
        let first_b = (same b.first_column b.first_row).1 (corner b some_b.0 some_b.1) in
        let last_a = (same (end_column a - 1) (end_row a - 1)).0 (last a some_a.0 some_a.1) in
        let last_b = (same (end_column b - 1) (end_row b - 1)).1 (last b some_b.0 some_b.1) in
        same-sides a b
        (omega (arith, first_a.column, first_b.column))
        (omega (arith, first_a.row, first_b.row))
        (omega (arith, first_a.column, first_b.column, last_a.column, last_b.column, some_a.0, some_b.0))
        (omega (arith, first_a.row, first_b.row, last_a.row, last_b.row, some_a.1, some_b.1))
  ]
]

-- ---- what is scaled

limited : (b : Bool) (q s : Rectangle) → cond b (Some q) None ≡ Some s → q ≡ s
limited true q s e = same_Some q s e
limited false q s e = absurd (cc e)

scaled-of : (found : Result Rectangle RectRefused) (s : Rectangle) → if_in_limits found ≡ Some s → Ok s ≡ found
scaled-of (Ok q) s e = ap Ok (sym (limited (in_limits q) q s e))
scaled-of (Err refused) s e = absurd (cc e)

-- where there is a scaled rectangle, the first column and row are not before those that are divided
begins : (z : ℕ) (first : ℕ) → z ≤ 8 → IsCoordinate (plane_coordinate first *ℤ pos (2 ^ z)) → first_coarse z ≤ first
begins zero first h is = omega (arith, ints, is)
begins (suc zero) first h is = omega (arith, ints, is)
begins (suc (suc zero)) first h is = omega (arith, ints, is)
begins (suc (suc (suc zero))) first h is = omega (arith, ints, is)
begins (suc (suc (suc (suc zero)))) first h is = omega (arith, ints, is)
begins (suc (suc (suc (suc (suc zero))))) first h is = omega (arith, ints, is)
begins (suc (suc (suc (suc (suc (suc zero)))))) first h is = omega (arith, ints, is)
begins (suc (suc (suc (suc (suc (suc (suc zero))))))) first h is = omega (arith, ints, is)
begins (suc (suc (suc (suc (suc (suc (suc (suc zero)))))))) first h is = omega (arith, ints, is)
begins (suc (suc (suc (suc (suc (suc (suc (suc (suc k))))))))) first h is = absurd (omega arith)

module _ (z : ℕ) (r s : Rectangle) (small : z ≤ 8) (is : scaled z r ≡ Some s) where
  abbrev factor : ℤ
  factor = pos (2 ^ z)

  grown : Ok s ≡ enlarged z r
  grown = scaled-of (enlarged z r) s is

  -- a position is in it exactly where its half, so many times, is in the level's rectangle
  pub scaled-positions : (u v : ℕ) → Inside u v s ↔ Inside (halves u z) (halves v z) r
  scaled-positions u v =
      rw (coarse-halves z u small, coarse-halves z v small)
      (enlarged-all z r small (Ok s) grown u v)

  inside-plane : BeginsOutside (plane_coordinate r.first_column *ℤ factor) (plane_coordinate r.first_row *ℤ factor) → ⊥
  inside-plane out =
      let refused : Ok s ≡ Err Place =
      (refuses_place (plane_coordinate r.first_column *ℤ factor) (plane_coordinate r.first_row *ℤ factor) (pos r.width *ℤ factor) (pos r.height *ℤ factor) (Ok s) grown).1 out in
      cc refused

  first-column : first_coarse z ≤ r.first_column
  first-column = elim (coordinate_test (plane_coordinate r.first_column *ℤ factor)) [
    | inl inside ↦ begins z r.first_column small inside.1
    | inr out ↦ absurd (inside-plane (inl out.1))
  ]

  first-row : first_coarse z ≤ r.first_row
  first-row = elim (coordinate_test (plane_coordinate r.first_row *ℤ factor)) [
    | inl inside ↦ begins z r.first_row small inside.1
    | inr out ↦ absurd (inside-plane (inr out.1))
  ]

  -- halved so many times it is the level's rectangle again
  pub scaled-back : IsRectangle r → IsRectangle s → level_box s z ≡ r
  scaled-back is_r is_s =
      same-positions (level_box s z) r (IsRectangle-level_box s z is_s) is_r
      (λ p q.
      let positions = box-positions z p q s is_s in (
        λ h. let found = positions.0 h in
            subst (λ (x : ℕ). Inside x q r) (sym found.3)
            (subst (λ (y : ℕ). Inside (halves found.0 z) y r) (sym found.4) ((scaled-positions found.0 found.1).0 found.2)),
        λ h.
            let u = reached z p small (omega (arith, first-column, h.column)) in
            let v = reached z q small (omega (arith, first-row, h.row)) in
            positions.1 (
              u.0,
              v.0,
              (scaled-positions u.0 v.0).1
                  (subst (λ (x : ℕ). Inside x (halves v.0 z) r) (sym u.1) (subst (λ (y : ℕ). Inside p y r) (sym v.1) h)),
              sym u.1,
              sym v.1,
            ),
      ))
