-- Samples of rows that agree in their bytes, and of slices of rows.
use Rattle.std.proofs.Common.{◌≡◌, ℕ, ◌+◌, ◌-◌, ◌*◌, ◌<◌, ◌≤◌, List, ◌++◌, length, take, drop, get_or, refl, sym, ap, ◌∙◌, inl, inr, arith}
use Rattle.std.proofs.lemmas.Bool.{cases_lt}
use Rattle.std.proofs.lemmas.List.{get_or-drop, get_or-append-add, get_or_append_left, get_or_past, get_or-take, length-take}
use Rattle.std.proofs.Math.ListN.{length-append, length-drop}
use Rattle.std.proofs.Math.Nat.{mul-add, mul-le-mul_left}
use Rattle.std.proofs.lemmas.Slice.{between_to_end}
use borrow.Rule.Slice.PartMut.{put_mid, post_of}
use Rattle.pixel_formats.specs.Sample.{sample_at}
use Rattle.pixel_formats.proofs.FormatLaws.{sample_equal}

same_index : (row : List ℕ) (p q : ℕ) → p ≡ q → get_or row p 0 ≡ get_or row q 0
same_index row p q e = ap (λ k. get_or row k 0) e

-- samples that stand m positions further on in the one row than in the other
pub sample_at-shift : (d : ℕ) (a b : List ℕ) (m n i j : ℕ) → n ≡ d * m → j ≡ m + i → ((p : ℕ) → get_or a p 0 ≡ get_or b (n + p) 0) → sample_at d a i ≡ sample_at d b j
sample_at-shift d a b m n i j at_n at_j same =
    let later : d * j ≡ n + d * i = ap (λ k. d * k) at_j ∙ mul-add d m i ∙ omega (arith, at_n) in
    sample_equal d a b i j (λ k below. same (d * i + k) ∙ same_index b (n + (d * i + k)) (d * j + k) (omega (arith, later)))

-- samples of rows that agree up to there
pub sample_at-below : (d : ℕ) (a b : List ℕ) (n j : ℕ) → d * (j + 1) ≤ n → ((p : ℕ) → p < n → get_or a p 0 ≡ get_or b p 0) → sample_at d a j ≡ sample_at d b j
sample_at-below d a b n j far same =
    sample_equal d a b j j (λ k below. same (d * j + k) (omega (arith, far, below, mul-add d j 1)))

-- samples of rows that agree from there on
pub sample_at-past : (d : ℕ) (a b : List ℕ) (n j : ℕ) → n ≤ d * j → ((p : ℕ) → n ≤ p → get_or a p 0 ≡ get_or b p 0) → sample_at d a j ≡ sample_at d b j
sample_at-past d a b n j far same = sample_equal d a b j j (λ k below. same (d * j + k) (omega (arith, far)))

-- ---- slices

-- the bytes of `&row[a..]`
pub part_from : (row : List ℕ) (a p : ℕ) → get_or (take (length row - a) (drop a row)) p 0 ≡ get_or row (a + p) 0
part_from row a p = ap (λ l. get_or l p 0) (between_to_end row a (length row) (omega arith)) ∙ get_or-drop a row p 0

pub length-part_from : (row : List ℕ) (a : ℕ) → length (take (length row - a) (drop a row)) ≡ length row - a
length-part_from row a = ap length (between_to_end row a (length row) (omega arith)) ∙ length-drop a row

-- the bytes of the row after `&mut row[a..]` was made `part`
pub part_written : (row part : List ℕ) (a k p : ℕ) → a + k ≡ length row → length part ≡ k → get_or part p 0 ≡ get_or (put_mid a k row part) (a + p) 0
part_written row part a k p whole long =
    let prefix : length (take a row) ≡ a = omega (arith, length-take a row) in
    let after = part ++ post_of a k row in
    let at : get_or (put_mid a k row part) (a + p) 0 ≡ get_or after p 0 =
    ap (λ i. get_or (take a row ++ after) i 0) (omega arith) ∙ get_or-append-add (take a row) after p 0 in
    elim (cases_lt p k) [
      | inl lt ↦ sym (at ∙ get_or_append_left part (post_of a k row) 0 p (omega arith))
      | inr past ↦ get_or_past part p 0 (omega arith) ∙ sym (at ∙ get_or_past after p 0 (omega (arith, length-append part (post_of a k row), length-drop k (drop a row), length-drop a row)))
    ]

-- and before it those of the row as it was
pub part_kept : (row part : List ℕ) (a k p : ℕ) → a ≤ length row → p < a → get_or (put_mid a k row part) p 0 ≡ get_or row p 0
part_kept row part a k p room lt =
    get_or_append_left (take a row) (part ++ post_of a k row) 0 p (omega (arith, length-take a row)) ∙ get_or-take a row p 0 lt

-- the samples of a row whose bytes from number `to` on, where a sample begins, were made `part`
module _ (d from to : ℕ) (row part : List ℕ) (at : to ≡ d * from) (room : to ≤ length row) (long : length part ≡ length row - to) where
  abbrev pub with_part : List ℕ
  with_part = put_mid to (length row - to) row part

  pub sample_at-written : (j : ℕ) → sample_at d with_part (from + j) ≡ sample_at d part j
  sample_at-written j = sym (sample_at-shift d part with_part from to j (from + j) at refl (λ p. part_written row part to (length row - to) p (omega arith) long))

  pub sample_at-kept : (i : ℕ) → i < from → sample_at d with_part i ≡ sample_at d row i
  sample_at-kept i lt =
      sample_at-below d with_part row to i (omega (arith, mul-le-mul_left d (suc-le i from lt)))
      (λ p near. part_kept row part to (length row - to) p room near)
    where
      suc-le : (i n : ℕ) → i < n → i + 1 ≤ n
      suc-le i n lt = omega arith

  byte_kept : (n : ℕ) → ((k : ℕ) → n ≤ k → get_or part k 0 ≡ get_or (take (length row - to) (drop to row)) k 0) → (p : ℕ) → to + n ≤ p → get_or with_part p 0 ≡ get_or row p 0
  byte_kept n same p far =
      let there : to + (p - to) ≡ p = omega arith in
      same_index with_part p (to + (p - to)) (sym there) ∙ sym (part_written row part to (length row - to) (p - to) (omega arith) long)
      ∙ same (p - to) (omega arith) ∙ part_from row to (p - to) ∙ same_index row (to + (p - to)) p there

  pub sample_at-after : (n : ℕ) → ((k : ℕ) → d * n ≤ k → get_or part k 0 ≡ get_or (take (length row - to) (drop to row)) k 0) → (i : ℕ) → from + n ≤ i → sample_at d with_part i ≡ sample_at d row i
  sample_at-after n same i far =
      sample_at-past d with_part row (to + d * n) i (omega (arith, at, mul-le-mul_left d far)) (λ p past. byte_kept (d * n) same p past)
