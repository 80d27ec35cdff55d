-- Passes over the samples of a row, by their numbers.
use Rattle.std.proofs.Common.{◌≡◌, ℕ, ◌+◌, ◌-◌, ◌*◌, ◌<◌, ◌≤◌, sym, ap, ◌∙◌, inl, inr, arith}
use Rattle.std.proofs.lemmas.Bool.{cases_lt}
use Rattle.area_kernels.specs.Sequences.{Picks, best}
use Rattle.area_kernels.proofs.Picking.{best-join, best-same}

-- one of each of the first n samples and the one after it was picked, and the others are unchanged
pub record PickedBelow (pick : ℕ → ℕ → ℕ) (by n : ℕ) (old new : ℕ → ℕ) : Type 0 where
  pub picked : (i : ℕ) → i < n → new i ≡ pick (old i) (old (i + by))
  pub rest : (i : ℕ) → n ≤ i → new i ≡ old i

-- one sample was picked of each n that are so far apart and among the first ones
pub record PickedOf (pick : ℕ → ℕ → ℕ) (by valid n : ℕ) (old new : ℕ → ℕ) : Type 0 where
  pub windows : (i : ℕ) → i + n * by < valid + by → new i ≡ best pick n (λ k. old (i + k * by))

-- sixteen more
pub PickedBelow-more : (pick : ℕ → ℕ → ℕ) (by n : ℕ) (old new newer : ℕ → ℕ) → PickedBelow pick by n old new
    → ((j : ℕ) → j < 16 → newer (n + j) ≡ pick (new (n + j)) (new (n + by + j)))
    → ((i : ℕ) → i < n → newer i ≡ new i) → ((i : ℕ) → n + 16 ≤ i → newer i ≡ new i)
    → PickedBelow pick by (n + 16) old newer
PickedBelow-more pick by n old new newer h here before after = record {
  picked = λ i lt. elim (cases_lt i n) [
    | inl below ↦ before i below ∙ h.picked i below
    | inr past ↦
        let j = i - n in
        let at : n + j ≡ i = omega arith in
        let next : n + by + j ≡ i + by = omega arith in
        ap newer (sym at) ∙ here j (omega arith)
        ∙ (λ t. pick ((ap new at ∙ h.rest i past) t) ((ap new next ∙ h.rest (i + by) (omega arith)) t))
  ];
  rest = λ i le. after i le ∙ h.rest i (omega arith);
}

-- one picked of windows and of the windows so many samples after them
pub PickedOf-more : (pick : ℕ → ℕ → ℕ) → Picks pick → (by valid n d count total : ℕ) (old new newer : ℕ → ℕ) → 0 < n → d ≤ n → total ≡ d + n → PickedOf pick by valid n old new
    → ((i : ℕ) → i + (d + n) * by < valid + by → i < count)
    → ((i : ℕ) → i < count → newer i ≡ pick (new i) (new (i + d * by)))
    → PickedOf pick by valid total old newer
PickedOf-more pick P by valid n d count total old new newer some le is h inside made = record {
  windows = λ i lt.
      let far : i + (d + n) * by < valid + by = omega (arith, ap (λ m. m * by) is) in
      let of : ℕ → ℕ = λ k. old (i + k * by) in
      let there : new (i + d * by) ≡ best pick n (λ k. of (d + k)) =
      h.windows (i + d * by) (omega arith)
      ∙ best-same pick n (λ k. old (i + d * by + k * by)) (λ k. of (d + k)) some (λ k near. ap old (omega arith)) in
      made i (inside i far) ∙ ap (λ b. pick b (new (i + d * by))) (h.windows i (omega arith)) ∙ ap (pick (best pick n of)) there
      ∙ best-join pick P of d n some le ∙ ap (λ m. best pick m of) (sym is);
}
