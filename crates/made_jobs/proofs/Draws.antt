-- Draws, one after another.
use Rattle.std.proofs.Common.{◌≡◌, ℕ, suc, zero, ◌+◌, ◌-◌, ◌*◌, ◌/◌, ◌^◌, ◌<◌, ◌≤◌, List, [], ◌∷◌, ◌++◌, sym, ap, ◌∙◌, append_assoc, arith}
use Rattle.std.proofs.lemmas.List.{append-nil}
use Rattle.model_runs.specs.MadeJob.{draws, next_state, state_after_draws}

-- one more draw of those to come
pub draws_more : (count n x : ℕ) → n < count → draws (count - n) x ≡ next_state x / 2 ^ 24 ∷ draws (count - (n + 1)) (next_state x)
unfolding draws
draws_more count n x below =
    let left : count - n ≡ suc (count - (n + 1)) = omega (arith, below) in
    ap (λ k. draws k x) left

pub drawn_on : (count n x first : ℕ) (bytes : List ℕ) → n < count → draws count first ≡ bytes ++ draws (count - n) x →
    draws count first ≡ (bytes ++ next_state x / 2 ^ 24 ∷ []) ++ draws (count - (n + 1)) (next_state x)
drawn_on count n x first bytes below all =
    all ∙ ap (λ (rest : List ℕ). bytes ++ rest) (draws_more count n x below)
    ∙ sym (append_assoc bytes (next_state x / 2 ^ 24 ∷ []) (draws (count - (n + 1)) (next_state x)))

pub drawn_all : (count n x first : ℕ) (bytes : List ℕ) → count ≤ n → draws count first ≡ bytes ++ draws (count - n) x → bytes ≡ draws count first
unfolding draws
drawn_all count n x first bytes past all =
    let none : count - n ≡ 0 = omega (arith, past) in
    sym (all ∙ ap (λ k. bytes ++ draws k x) none ∙ append-nil bytes)

-- draws after draws
pub state_after_both : (a b x : ℕ) → state_after_draws (a + b) x ≡ state_after_draws b (state_after_draws a x)
unfolding state_after_draws
state_after_both zero b x =
    let on : zero + b ≡ b = omega arith in
    ap (λ k. state_after_draws k x) on
state_after_both (suc a) b x =
    let on : suc a + b ≡ suc (a + b) = omega arith in
    ap (λ k. state_after_draws k x) on ∙ state_after_both a b (next_state x)

-- the seven draws of a fill
pub state_more : (count n x : ℕ) → n < count → state_after_draws ((count - n) * 7) x ≡ state_after_draws ((count - (n + 1)) * 7) (state_after_draws 7 x)
state_more count n x below =
    let left : (count - n) * 7 ≡ 7 + (count - (n + 1)) * 7 = omega (arith, below) in
    ap (λ k. state_after_draws k x) left ∙ state_after_both 7 ((count - (n + 1)) * 7) x

pub state_at_end : (count n x first : ℕ) → count ≤ n → state_after_draws (count * 7) first ≡ state_after_draws ((count - n) * 7) x → x ≡ state_after_draws (count * 7) first
unfolding state_after_draws
state_at_end count n x first past all =
    let none : (count - n) * 7 ≡ 0 = omega (arith, past) in
    sym (all ∙ ap (λ k. state_after_draws k x) none)
