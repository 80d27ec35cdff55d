-- Strips that are too wide.
use Rattle.std.proofs.Common.{◌≡◌, ◌↔◌, ℕ, ◌≤◌, Bool, true, false, cond, List, [], ◌∷◌, length, refl, ap, ◌∙◌, arith, Some, None}
use Rattle.std.specs.Prelude.{nat_lt}
use Rattle.std.specs.List.{AllByRecursion}
use Rattle.std.proofs.lemmas.Bool.Decides.{nat_tests}
use Rattle.model_states.specs.declared.strip.Strip.{Strip}
use Rattle.model_states.specs.Need.{wide}

-- no strip is too wide exactly where each has at most so many
fits : (capacity : ℕ) (strips : List Strip) → wide capacity strips ≡ None → AllByRecursion (λ (strip : Strip). length strip.need ≤ capacity) strips
fits capacity [] none = tt
fits capacity (strip ∷ strips) none = by (nat_lt capacity (length strip.need)) refl none (fits capacity strips)
  where
    by : (b : Bool) → nat_lt capacity (length strip.need) ≡ b → cond b (Some (length strip.need)) (wide capacity strips) ≡ None →
        (wide capacity strips ≡ None → AllByRecursion (λ (strip : Strip). length strip.need ≤ capacity) strips) → AllByRecursion (λ (strip : Strip). length strip.need ≤ capacity) (strip ∷ strips)
    by true e none rest = absurd (cc)
    by false e none rest = let few : length strip.need ≤ capacity = grind (arith, nat_tests) in (few, rest none)

none_wide : (capacity : ℕ) (strips : List Strip) → AllByRecursion (λ (strip : Strip). length strip.need ≤ capacity) strips → wide capacity strips ≡ None
none_wide capacity [] few = refl
none_wide capacity (strip ∷ strips) few =
    let test : nat_lt capacity (length strip.need) ≡ false = let less = few.0 in grind (arith, nat_tests, less) in
    ap (λ b. cond b (Some (length strip.need)) (wide capacity strips)) test ∙ none_wide capacity strips few.1

pub wide_none : (capacity : ℕ) (strips : List Strip) → (wide capacity strips ≡ None) ↔ AllByRecursion (λ (strip : Strip). length strip.need ≤ capacity) strips
wide_none capacity strips = (fits capacity strips, none_wide capacity strips)
