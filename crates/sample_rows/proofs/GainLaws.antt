-- A division by any number that is done by a multiplication and a division by a power of two.
use Rattle.std.proofs.Common.{◌≡◌, ℕ, zero, suc, ◌+◌, ◌-◌, ◌*◌, ◌/◌, ◌%◌, ◌<◌, ◌≤◌, Bool, true, false, cond, leb, min, refl, ap, ◌∙◌, arith, leb-true, leb-false}
use Rattle.std.proofs.lemmas.Grind.{div_ceil_times}
use Rattle.std.proofs.lemmas.Nat.{div_below, le-div}
use Rattle.std.proofs.Math.Nat.{div-eq_of_lt-le, div-lt_iff_lt-mul, mul-le-mul, mul-le-mul_left, div-le_self, le_of_mul-le-mul_right, lt_of_mul-lt-mul_right, lt-div-mul-add, div-mul-le_self}

-- c, num and half make the number that is divided by den; factor and offset are num and half over den, in parts of unit and rounded up
module _ (c num den half unit factor offset : ℕ) (some : 0 < den)
    (factor_low : num * unit ≤ factor * den) (factor_high : factor * den < num * unit + den)
    (offset_low : half * unit ≤ offset * den) (offset_high : offset * den < half * unit + den)
    (fine : c * den + den < unit + c + 1) where
  abbrev q : ℕ
  q = (c * num + half) / den

  low : q * unit ≤ c * factor + offset
  low =
      le_of_mul-le-mul_right {k = den}
      (omega (arith, mul-le-mul_left c factor_low, offset_low, mul-le-mul_left unit (div-mul-le_self (c * num + half) den))) some

  high : c * factor + offset < (q + 1) * unit
  high =
      let above : c * num + half + 1 ≤ q * den + den = omega (arith, lt-div-mul-add {a = c * num + half} some) in
      let factors : factor * den + 1 ≤ num * unit + den = omega arith in
      lt_of_mul-lt-mul_right den (omega (arith, mul-le-mul_left c factors, offset_high, mul-le-mul_left unit above, fine))

  pub quotient_by_factor : (c * factor + offset) / unit ≡ q
  quotient_by_factor = div-eq_of_lt-le unit low high

-- A gain of num / den for samples of so many levels, where `last` is the last sample that comes out below them.
module _ (num den levels last : ℕ) (few_num : num ≤ 65535) (some : 0 < den) (few_den : den ≤ 65535) (some_levels : 0 < levels) (few_levels : levels ≤ 4294967296)
    (bound : last < levels) (within : last * num + den / 2 < levels * den)
    (above : (color : ℕ) → last < color → color < levels → levels * den ≤ color * num + den / 2) where
  abbrev unit : ℕ
  unit = 65536 * levels

  abbrev whole_factor : ℕ
  whole_factor = num * unit / den + min 1 (num * unit % den)

  abbrev pub factor : ℕ
  factor = min whole_factor (unit * levels - 1)

  abbrev pub offset : ℕ
  offset = den / 2 * unit / den + min 1 (den / 2 * unit % den)

  -- 64 bits hold what it is cut off at, or else all of it
  pub factor_in_bits : min whole_factor (min (unit * levels) 18446744073709551615 - 1) ≡ factor
  factor_in_bits =
      let few : num * unit ≤ 65535 * 281474976710656 = mul-le-mul {n₂ = 65535} {m₂ = 281474976710656} few_num (omega arith) in
      omega (arith, few, div-le_self (num * unit) den)

  some_unit : 0 < unit
  some_unit = omega arith

  fine : (c : ℕ) → c < levels → c * den + den < unit + c + 1
  fine c lt =
      let e = den - 1 in
      let at : den ≡ e + 1 = omega arith in
      omega (arith, ap (λ d. c * d) at, mul-le-mul {n₁ = c + 1} {m₁ = e} {n₂ = levels} {m₂ = 65534} (omega arith) (omega arith))

  exact : (c : ℕ) → c ≤ last → (c * whole_factor + offset) / unit ≡ (c * num + den / 2) / den
  exact c le =
      let by_factor = div_ceil_times (num * unit) den some in
      let by_offset = div_ceil_times (den / 2 * unit) den some in
      quotient_by_factor c num den (den / 2) unit whole_factor offset some by_factor.0 by_factor.1 by_offset.0 by_offset.1 (fine c (omega arith))

  below : (c : ℕ) → c ≤ last → c * whole_factor + offset < levels * unit
  below c le =
      let few : (c * num + den / 2) / den < levels = div_below (c * num + den / 2) den levels some (omega (arith, within, mul-le-mul {n₁ = c} {m₁ = num} {n₂ = last} {m₂ = num} le (omega arith))) in
      (div-lt_iff_lt-mul some_unit).0 (omega (arith, few, exact c le))

  -- the factor is cut off only where no sample but 0 is multiplied
  pub same_product : (c : ℕ) → c ≤ last → c * factor ≡ c * whole_factor
  same_product zero le = omega arith
  same_product (suc c) le =
      let small : whole_factor < levels * unit = omega (arith, below (suc c) le) in
      ap (λ f. suc c * f) (omega arith)

  pub small : last * factor + offset < levels * unit
  small = omega (arith, same_product last (omega arith), below last (omega arith))

  pub factor_fits : factor < levels * unit
  factor_fits = omega (arith, mul-le-mul {n₁ = 1} {m₁ = 1} {n₂ = unit} {m₂ = levels} some_unit some_levels)

  -- what comes out
  pub scaled_is_gained : (cap color : ℕ) → cap < levels → color < levels → min cap (cond (leb color last) ((color * factor + offset) / unit) (levels - 1)) ≡ min cap ((color * num + den / 2) / den)
  scaled_is_gained cap color cap_lt lt = go (leb color last) refl
    where
      go : (b : Bool) → leb color last ≡ b → min cap (cond b ((color * factor + offset) / unit) (levels - 1)) ≡ min cap ((color * num + den / 2) / den)
      go true e =
          let le = leb-true _ _ e in
          ap (min cap) (ap (λ n. (n + offset) / unit) (same_product color le) ∙ exact color le)
      go false e =
          let many : levels ≤ (color * num + den / 2) / den = le-div levels (color * num + den / 2) den some (above color (leb-false _ _ e) lt) in
          omega arith
