-- Groups of rows that agree in their bytes.
use Rattle.std.proofs.Common.{◌≡◌, ℕ, ◌+◌, ◌-◌, ◌*◌, ◌<◌, ◌≤◌, List, ◌++◌, length, drop, replicate, get_or, refl, sym, ap, ◌∙◌, subst, inl, inr, arith}
use Rattle.std.proofs.Math.Nat.{mul-le-mul_left}
use Rattle.std.proofs.lemmas.Nat.{mul-add-lt}
use Rattle.std.proofs.lemmas.Bool.{cases_lt}
use Rattle.std.proofs.lemmas.List.{get_or-drop, get_or_append_left, get_or-append_right, get_or_past}
use Rattle.simd_samples.proofs.SliceLaws.{sample_at-below, sample_at-shift}
use Rattle.pixel_formats.proofs.Zeros.{get_or-zeros}
use Rattle.sample_rows.specs.Groups.{Groups, group_bytes, group_at, MapsTriples}

-- the groups of a part of a row
pub group_at-shift : (g : Groups) (a b : List ℕ) (m n k l : ℕ) → n ≡ m * group_bytes g → l ≡ m + k → ((p : ℕ) → get_or a p 0 ≡ get_or b (n + p) 0) → (i : ℕ) → group_at g a k i ≡ group_at g b l i
group_at-shift g a b m n k l at_n at_l same i =
    sample_at-shift g.depth a b (m * g.size) n (k * g.size + i) (l * g.size + i)
    (omega arith) (omega (arith, ap (λ x. x * g.size) at_l)) same

-- the groups of a block of a row, by its number; a block has x bytes
pub group_at-block : (g : Groups) (piece row : List ℕ) (x count block k : ℕ) → x ≡ count * group_bytes g → ((p : ℕ) → get_or piece p 0 ≡ get_or row (x * block + p) 0)
    → (i : ℕ) → group_at g piece k i ≡ group_at g row (block * count + k) i
group_at-block g piece row x count block k is same i =
    group_at-shift g piece row (block * count) (x * block) k (block * count + k) (omega (arith, ap (λ n. n * block) is)) refl same i

-- the groups in which rows agree
pub group_at-below : (g : Groups) (a b : List ℕ) (m n k i : ℕ) → m * group_bytes g ≤ n → k < m → i < g.size → ((p : ℕ) → p < n → get_or a p 0 ≡ get_or b p 0) → group_at g a k i ≡ group_at g b k i
group_at-below g a b m n k i far lt within same =
    let in_groups : k * g.size + i + 1 ≤ m * g.size = omega (arith, mul-add-lt k g.size i m lt within) in
    sample_at-below g.depth a b n (k * g.size + i) (omega (arith, mul-le-mul_left g.depth in_groups)) same

-- rows of which m groups were made before, and the rest after them now
pub MapsTriples-extended : (first second third to : Groups) (value : (ℕ → ℕ) → (ℕ → ℕ) → (ℕ → ℕ) → ℕ → ℕ) (a b c old new : List ℕ) (m n total : ℕ) → n ≡ m * group_bytes to
    → MapsTriples first second third to m value a b c old
    → ((p : ℕ) → p < n → get_or new p 0 ≡ get_or old p 0)
    → ((k i : ℕ) → m + k < total → i < to.size → group_at to new (m + k) i ≡ value (group_at first a (m + k)) (group_at second b (m + k)) (group_at third c (m + k)) i)
    → MapsTriples first second third to total value a b c new
MapsTriples-extended first second third to value a b c old new m n total at_n before kept made k i lt within =
    elim (cases_lt k m) [
      | inl below ↦ group_at-below to new old m n k i (omega arith) below within kept ∙ before k i below within
      | inr after ↦
          let P : ℕ → Type 0 = λ l. group_at to new l i ≡ value (group_at first a l) (group_at second b l) (group_at third c l) i in
          let at : m + (k - m) ≡ k = omega arith in
          subst P at (made (k - m) i (omega arith) within)
    ]

pub before_zeros : (row : List ℕ) (m n p : ℕ) → get_or (row ++ drop m (replicate n 0)) p 0 ≡ get_or row p 0
before_zeros row m n p =
    elim (cases_lt p (length row)) [
      | inl lt ↦ get_or_append_left row (drop m (replicate n 0)) 0 p lt
      | inr past ↦
          get_or-append_right row (drop m (replicate n 0)) (length row) p 0 refl past
          ∙ get_or-drop m (replicate n 0) (p - length row) 0 ∙ get_or-zeros n (m + (p - length row)) ∙ sym (get_or_past row p 0 past)
    ]
