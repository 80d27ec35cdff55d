-- Bytes that are written periodically.
use Rattle.std.proofs.Common.{◌≡◌, ℕ, ◌+◌, ◌-◌, ◌%◌, ◌<◌, ◌≤◌, min, List, ◌++◌, length, take, drop, get_or, ◌⊎◌, inl, inr, sym, ap, ◌∙◌, arith, length-take, length-append, length-drop}
use Rattle.std.proofs.Math.Nat.{mod-add-mod, mod-eq_of_lt, mod_self, mod-le}
use Rattle.std.proofs.lemmas.Bool.{cases_lt}
use Rattle.std.proofs.lemmas.List.{get_or_append_left, get_or-take}
use Rattle.std.proofs.lemmas.Nat.{mod_below}

-- Up to a number of bytes that is a multiple of the period, or is all of them, the first ones are repeated
-- periodically.
pub record Repeats (period done : ℕ) (old now : List ℕ) : Type 0 where
  pub some : 0 < done
  pub multiple : (done % period ≡ 0) ⊎ (length old ≤ done)
  pub same : (i : ℕ) → i < done → i < length old → get_or now i 0 ≡ get_or old (i % period) 0

pub Repeats-once : (period : ℕ) (old : List ℕ) → 0 < period → Repeats period period old old
Repeats-once period old some = record {
  some = some;
  multiple = inl (mod_self period);
  same = λ i below there. ap (λ (k : ℕ). get_or old k 0) (sym (mod-eq_of_lt below));
}

module _ (period done more : ℕ) (old now new : List ℕ) (before : Repeats period done old now) (remains : done < length old)
    (many : (more ≡ done) ⊎ (more ≡ length old - done)) (few : more ≤ done) (written : (i : ℕ) → i < more → get_or new (done + i) 0 ≡ get_or now i 0)
    (kept : (i : ℕ) → i < done → get_or new i 0 ≡ get_or now i 0) where
  whole : done % period ≡ 0
  whole = elim before.multiple [ inl e ↦ e | inr all ↦ absurd (omega arith) ]

  moved : (k : ℕ) → (done + k) % period ≡ k % period
  moved k =
      sym (mod-add-mod done period k) ∙ ap (λ (r : ℕ). (r + k) % period) whole ∙ ap (λ (n : ℕ). n % period) (omega arith)

  pub Repeats-more : Repeats period (done + more) old new
  Repeats-more = record {
    some = omega (arith, before.some);
    multiple = elim many [
      | inl all ↦ inl (ap (λ (n : ℕ). (done + n) % period) all ∙ moved done ∙ whole)
      | inr rest ↦ inr (omega arith)
    ];
    same = λ i below there.
        elim (cases_lt i done) [
          | inl lt ↦ kept i lt ∙ before.same i lt there
          | inr from_here ↦
              let at : i ≡ done + (i - done) = omega arith in
              ap (λ (n : ℕ). get_or new n 0) at
              ∙ written (i - done) (omega arith)
              ∙ before.same (i - done) (omega arith) (omega arith)
              ∙ ap (λ (n : ℕ). get_or old n 0) (sym (moved (i - done)) ∙ ap (λ (n : ℕ). n % period) (sym at))
        ];
  }

-- bytes that are written once, or a prefix of them is, and then periodically
pub cycled : (to from first new : List ℕ) (prefix : ℕ) → 0 < length from → prefix ≡ min (length to) (length from) → first ≡ take prefix from →
    ((i : ℕ) → i < length (first ++ drop prefix to) → get_or new i 0 ≡ get_or (first ++ drop prefix to) (i % length from) 0) →
    (i : ℕ) → i < length to → get_or new i 0 ≡ get_or from (i % length from) 0
cycled to from first new prefix some is_prefix is again i there =
    let long : length first ≡ prefix = ap length is ∙ omega (arith, length-take prefix from, is_prefix) in
    let few = mod-le i (length from) in
    let once : i % length from < prefix = omega (arith, few, is_prefix, mod_below i (length from) some) in
    again i (omega (arith, length-append first (drop prefix to), length-drop prefix to, long, is_prefix))
    ∙ get_or_append_left first (drop prefix to) 0 (i % length from) (omega (arith, once, long))
    ∙ ap (λ (xs : List ℕ). get_or xs (i % length from) 0) is
    ∙ get_or-take prefix from (i % length from) 0 once
