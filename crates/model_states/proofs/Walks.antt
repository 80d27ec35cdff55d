-- The walk over steps refuses none exactly where each is valid.
use Rattle.std.proofs.Common.{◌≡◌, ◌↔◌, ℕ, zero, suc, ◌<◌, Bool, true, false, not, List, [], ◌∷◌, ◌++◌, length, get_or, cond, refl, ap, ◌∙◌, arith, Option, Some, None, IsSome, IsSomeAnd, is_none}
use Rattle.std.specs.Prelude.{All, nat_lt, ◌==◌}
use Rattle.std.specs.List.{list_all}
use Rattle.std.specs.Option.{option_or}
use Rattle.std.proofs.lemmas.Bool.Decides.{nat_tests}
use Rattle.plane_rect.specs.Rectangle.{Rectangle, InLimits}
use Rattle.model_images.proofs.Tests.{both}
use Rattle.model_graphs.specs.Node.{Step, FromBuffer, Apply}
use Rattle.model_states.specs.Edits.{is_box_in_limits, step_refused, steps_refused}
use Rattle.model_states.specs.declared.refused.StateRefused.{StateRefused}
use Rattle.model_states.specs.declared.refused.StateRefused.TheVariants.{UnknownInput, Arity, Formats, Bounds}
use Rattle.model_graphs.specs.Meanings.{Meanings}
use Rattle.model_states.specs.Valid.{IsValidStep, AreValidSteps, step_shape, input_boxes, input_formats}
use Rattle.model_graphs.specs.Shapes.{Shape, Shapes, shape_in}

-- ---- the tests

below-from_test : (n : ℕ) (xs : List ℕ) → list_all (λ i. nat_lt i n) xs ≡ true → All (λ i. i < n) xs
below-from_test n [] h = λ k d less. absurd (omega arith)
below-from_test n (x ∷ xs) h = at (both (nat_lt x n) (list_all (λ i. nat_lt i n) xs) h).0 (below-from_test n xs (both (nat_lt x n) (list_all (λ i. nat_lt i n) xs) h).1)
  where
    at : nat_lt x n ≡ true → All (λ i. i < n) xs → (k d : ℕ) → k < length (x ∷ xs) → get_or (x ∷ xs) k d < n
    at e rest zero d less = grind (arith, nat_tests)
    at e rest (suc k) d less = rest k d (omega arith)

below-test : (n : ℕ) (xs : List ℕ) → All (λ i. i < n) xs → list_all (λ i. nat_lt i n) xs ≡ true
below-test n [] all = refl
below-test n (x ∷ xs) all =
    let first : x < n = all 0 0 (omega arith) in
    let test : nat_lt x n ≡ true = grind (arith, nat_tests) in
    rw test (below-test n xs (λ k d less. all (suc k) d (omega arith)))

some-from_test : {A : Type 0} (o : Option A) → is_none o ≡ false → IsSome o
some-from_test None h = absurd (cc)
some-from_test (Some a) h = refl

some-test : {A : Type 0} (o : Option A) → IsSome o → is_none o ≡ false
some-test None h = absurd (cc)
some-test (Some a) h = refl

limits-from_test : (o : Option Rectangle) → is_box_in_limits o ≡ true → IsSomeAnd o InLimits
limits-from_test None h = absurd (cc)
limits-from_test (Some r) h = grind (arith, nat_tests)

limits-test : (o : Option Rectangle) → IsSomeAnd o InLimits → is_box_in_limits o ≡ true
limits-test None h = absurd h
limits-test (Some r) h = grind (arith, nat_tests)

-- ---- a step

-- what is asked of an operation, in the order in which it is refused
abbrev refusal : Bool → Bool → Bool → Bool → Option StateRefused
refusal a b c d = cond (not a) (Some UnknownInput) (cond (not b) (Some Arity) (cond c (Some Formats) (cond (not d) (Some Bounds) None)))

none_refused : (a b c d : Bool) → refusal a b c d ≡ None → (a ≡ true) × (b ≡ true) × (c ≡ false) × (d ≡ true)
none_refused true true false true h = (refl, refl, refl, refl)
none_refused true true false false h = absurd (cc)
none_refused true true true d h = absurd (cc)
none_refused true false c d h = absurd (cc)
none_refused false b c d h = absurd (cc)

step_valid : {Op : Type 0} (meanings : Meanings Op) (shapes : Shapes) (known : List Shape) (step : Step Op) →
    step_refused meanings shapes known step ≡ None → IsValidStep meanings shapes known step
step_valid meanings shapes known (FromBuffer buffer) h = by (shape_in shapes buffer) h
  where
    by : {A : Type 0} (o : Option A) → cond (is_none o) (Some UnknownInput) None ≡ None → IsSome o
    by None h = absurd (cc)
    by (Some a) h = refl
step_valid meanings shapes known (Apply operation inputs) h =
    let a = list_all (λ i. nat_lt i (length known)) inputs in
    let b = length inputs == meanings.input_count operation in
    let format = meanings.format operation (input_formats known inputs) in
    let box = meanings.box operation (input_boxes known inputs) in
    let facts = none_refused a b (is_none format) (is_box_in_limits box) h in
    record {
      inputs_earlier = below-from_test (length known) inputs facts.0;
      arity = arity facts.1;
      format = some-from_test format facts.2;
      box = limits-from_test box facts.3;
    }
  where
    arity : (length inputs == meanings.input_count operation) ≡ true → length inputs ≡ meanings.input_count operation
    arity e = grind (arith, nat_tests)

step_passes : {Op : Type 0} (meanings : Meanings Op) (shapes : Shapes) (known : List Shape) (step : Step Op) →
    IsValidStep meanings shapes known step → step_refused meanings shapes known step ≡ None
step_passes meanings shapes known (FromBuffer buffer) valid = rw (some-test (shape_in shapes buffer) valid) refl
step_passes meanings shapes known (Apply operation inputs) valid =
    let a = below-test (length known) inputs valid.inputs_earlier in
    let number : (length inputs == meanings.input_count operation) ≡ true = grind (arith, nat_tests, valid.arity) in
    let c = some-test (meanings.format operation (input_formats known inputs)) valid.format in
    let d = limits-test (meanings.box operation (input_boxes known inputs)) valid.box in
    rw (a, number, c, d) refl

-- ---- all steps

none_of : {A : Type 0} (o p : Option A) → option_or o p ≡ None → (o ≡ None) × (p ≡ None)
none_of None p h = (refl, h)
none_of (Some a) p h = absurd (cc)

pub valid_steps : {Op : Type 0} (meanings : Meanings Op) (shapes : Shapes) (known : List Shape) (steps : List (Step Op)) →
    steps_refused meanings shapes known steps ≡ None → AreValidSteps meanings shapes known steps
valid_steps meanings shapes known [] h = tt
valid_steps meanings shapes known (step ∷ steps) h =
    let next = known ++ step_shape meanings shapes known step ∷ [] in
    let none = none_of (step_refused meanings shapes known step) (steps_refused meanings shapes next steps) h in
    (step_valid meanings shapes known step none.0, valid_steps meanings shapes next steps none.1)

steps_pass : {Op : Type 0} (meanings : Meanings Op) (shapes : Shapes) (known : List Shape) (steps : List (Step Op)) →
    AreValidSteps meanings shapes known steps → steps_refused meanings shapes known steps ≡ None
steps_pass meanings shapes known [] valid = refl
steps_pass meanings shapes known (step ∷ steps) valid =
    let next = known ++ step_shape meanings shapes known step ∷ [] in
    ap (λ first. option_or first (steps_refused meanings shapes next steps)) (step_passes meanings shapes known step valid.0)
    ∙ steps_pass meanings shapes next steps valid.1

pub walk_refuses : {Op : Type 0} (meanings : Meanings Op) (shapes : Shapes) (known : List Shape) (steps : List (Step Op)) →
    (steps_refused meanings shapes known steps ≡ None) ↔ AreValidSteps meanings shapes known steps
walk_refuses meanings shapes known steps = (valid_steps meanings shapes known steps, steps_pass meanings shapes known steps)
