-- Rows whose bytes left and right of their middle parts are written.
use Rattle.std.proofs.Common.{◌≡◌, ℕ, ◌+◌, ◌-◌, ◌*◌, ◌%◌, ◌<◌, ◌≤◌, ◌⊎◌, List, get_or, inl, inr, ap, ◌∙◌, arith}
use Rattle.std.proofs.Math.Nat.{mul-le-mul_right}
use Rattle.std.proofs.lemmas.Bool.{cases_lt}
use Rattle.patch_abyss.specs.Copied.{HasRows, HasSides, row_byte}
use Rattle.patch_abyss.specs.declared.fill.RowParts.{RowParts}
use Rattle.patch_abyss.specs.declared.rows.Rows.{Rows}

-- where the sides of rows are that follow one another: the left ones at their beginnings, the right ones up to their
-- ends
module _ (parts : RowParts) (left right : Rows) (is_left : left ≡ record { start = 0; stride = parts.count }) (is_right : right ≡ record { start = parts.end; stride = parts.count })
    (order : parts.start ≤ parts.end) (inside : parts.end ≤ parts.count) where
  left_index : (j k : ℕ) → row_byte left j k ≡ j * parts.count + k
  left_index j k = ap (λ (r : Rows). row_byte r j k) is_left ∙ omega arith

  right_index : (j k : ℕ) → row_byte right j k ≡ j * parts.count + (parts.end + k)
  right_index j k = ap (λ (r : Rows). row_byte r j k) is_right ∙ omega arith

  beside_left : (j k m : ℕ) → parts.start ≤ k → k < parts.count → (j * parts.count + k < row_byte left m 0) ⊎ (row_byte left m parts.start ≤ j * parts.count + k)
  beside_left j k m past within =
      elim (cases_lt j m) [
        | inl above ↦
            let rows : (j + 1) * parts.count ≤ m * parts.count = mul-le-mul_right parts.count (omega arith) in
            inl (omega (arith, left_index m 0, rows))
        | inr from_here ↦
            let rows : m * parts.count ≤ j * parts.count = mul-le-mul_right parts.count from_here in
            inr (omega (arith, left_index m parts.start, rows))
      ]

  beside_right : (j k m : ℕ) → k < parts.end → (j * parts.count + k < row_byte right m 0) ⊎ (row_byte right m (parts.count - parts.end) ≤ j * parts.count + k)
  beside_right j k m before =
      elim (cases_lt m j) [
        | inl above ↦
            let rows : (m + 1) * parts.count ≤ j * parts.count = mul-le-mul_right parts.count (omega arith) in
            inr (omega (arith, right_index m (parts.count - parts.end), rows))
        | inr from_here ↦
            let rows : j * parts.count ≤ m * parts.count = mul-le-mul_right parts.count from_here in
            inl (omega (arith, right_index m 0, rows))
      ]

  pub HasSides-rows : (many n : ℕ) (f g : ℕ → ℕ → ℕ) (old half new : List ℕ) → HasRows left parts.start many (λ j k. f j (k % n)) old half →
      HasRows right (parts.count - parts.end) many (λ j k. g j (k % n)) half new → HasSides parts many n f g old new
  HasSides-rows many n f g old half new leading trailing = record {
    leading = λ j k below within.
        trailing.kept (j * parts.count + k) (λ m _. beside_right j k m (omega arith))
        ∙ ap (λ (i : ℕ). get_or half i 0) (omega (arith, left_index j k))
        ∙ leading.written j k below within;
    between = λ j k below from_start to_end.
        trailing.kept (j * parts.count + k) (λ m _. beside_right j k m to_end)
        ∙ leading.kept (j * parts.count + k) (λ m _. beside_left j k m from_start (omega arith));
    trailing = λ j k below past within.
        ap (λ (i : ℕ). get_or new i 0) (omega (arith, right_index j (k - parts.end)))
        ∙ trailing.written j (k - parts.end) below (omega arith);
  }
