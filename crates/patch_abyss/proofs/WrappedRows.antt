-- Rows that have the bytes of other rows periodically, the first time from an index on.
use Rattle.std.proofs.Common.{◌≡◌, ℕ, ◌+◌, ◌-◌, ◌*◌, ◌%◌, ◌<◌, ◌≤◌, ◌⊎◌, min, List, get_or, inl, inr, ap, ◌∙◌, arith}
use Rattle.std.proofs.Math.Nat.{add-mod-mod, add-mod_left, mod-eq_of_lt, mul-le-mul_right}
use Rattle.std.proofs.lemmas.Bool.{cases_lt}
use Rattle.std.proofs.lemmas.Nat.{mod_below}
use Rattle.patch_abyss.specs.Copied.{HasRows, bytes_of, row_byte}
use Rattle.patch_abyss.specs.declared.rows.Rows.{Rows}

module _ (count period first prefix both many : ℕ) (inside : first < period) (is_prefix : prefix ≡ min count (period - first)) (is_both : both ≡ min count period)
    (from to half whole : List ℕ) where
  abbrev first_column : Rows
  first_column = record { start = 0; stride = count }

  abbrev end_column : Rows
  end_column = record { start = prefix; stride = count }

  module _ (at_prefix : HasRows first_column prefix many (bytes_of (record { start = first; stride = period }) from) to half)
      (at_back : HasRows end_column (both - prefix) many (bytes_of (record { start = 0; stride = period }) from) half whole) where
    -- the prefix of a row beside the rest of all rows
    beside : (j k m : ℕ) → k < prefix → (0 + j * count + k < row_byte end_column m 0) ⊎ (row_byte end_column m (both - prefix) ≤ 0 + j * count + k)
    beside j k m below =
        elim (cases_lt m j) [
          | inl above ↦ inr (omega (arith, is_prefix, is_both, mul-le-mul_right count above))
          | inr from_here ↦ inl (omega (arith, below, mul-le-mul_right count from_here))
        ]

    wrapped_once : (j k : ℕ) → j < many → k < both → get_or whole (0 + j * count + k) 0 ≡ get_or from (j * period + (first + k) % period) 0
    wrapped_once j k below within =
        elim (cases_lt k prefix) [
          | inl lt ↦
              let turn : (first + k) % period ≡ first + k = mod-eq_of_lt (omega (arith, is_prefix)) in
              at_back.kept (0 + j * count + k) (λ m _. beside j k m lt)
              ∙ at_prefix.written j k below lt
              ∙ ap (λ (i : ℕ). get_or from i 0) (omega (arith, turn))
          | inr trailing ↦
              let q = k - prefix in
              let all : first + k ≡ period + q = omega (arith, is_prefix, is_both) in
              let turn : (first + k) % period ≡ q = ap (λ (i : ℕ). i % period) all ∙ add-mod_left period q ∙ mod-eq_of_lt (omega (arith, is_both, inside)) in
              ap (λ (i : ℕ). get_or whole i 0) (omega arith)
              ∙ at_back.written j q below (omega arith)
              ∙ ap (λ (i : ℕ). get_or from i 0) (omega (arith, turn))
        ]

    pub wrapped_short : count ≤ period → (j k : ℕ) → j < many → k < count → get_or whole (j * count + k) 0 ≡ get_or from (j * period + (first + k) % period) 0
    wrapped_short few j k below within = ap (λ (i : ℕ). get_or whole i 0) (omega arith) ∙ wrapped_once j k below (omega (arith, is_both))

    pub wrapped_long : (new : List ℕ) → period < count → HasRows first_column count many (λ j k. bytes_of first_column whole j (k % period)) whole new →
        (j k : ℕ) → j < many → k < count → get_or new (j * count + k) 0 ≡ get_or from (j * period + (first + k) % period) 0
    wrapped_long new more again j k below within =
        ap (λ (i : ℕ). get_or new i 0) (omega arith)
        ∙ again.written j k below within
        ∙ wrapped_once j (k % period) below (omega (arith, is_both, mod_below k period (omega (arith, inside))))
        ∙ ap (λ (i : ℕ). get_or from (j * period + i) 0) (add-mod-mod first k period)
