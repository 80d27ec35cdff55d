-- Samples that are copied from one row to another.
use Rattle.std.proofs.Common.{◌≡◌, ℕ, ◌+◌, ◌-◌, ◌*◌, ◌<◌, ◌≤◌, List, ◌++◌, length, take, drop, get_or, ap, ◌∙◌, inl, inr, subst, arith}
use Rattle.std.proofs.lemmas.Bool.{cases_lt}
use Rattle.std.proofs.lemmas.Nat.{mul-add-lt}
use Rattle.std.proofs.lemmas.List.{get_or-drop, get_or_append_left, get_or-append_right, get_or-take, length-take}
use Rattle.std.proofs.Math.ListN.{length-drop}
use Rattle.std.proofs.Math.Nat.{mul-le-mul_left, mul-le-mul_right}
use borrow.Rule.Slice.PartMut.{put_mid, post_of}
use Rattle.pixel_formats.specs.Sample.{sample_at}
use Rattle.pixel_formats.proofs.FormatLaws.{sample_equal}

same_index : (row : List ℕ) (p q : ℕ) → p ≡ q → get_or row p 0 ≡ get_or row q 0
same_index row p q e = ap (λ k. get_or row k 0) e

-- the bytes of a row of which k from number a on were written
module _ (row part : List ℕ) (a k : ℕ) (room : a + k ≤ length row) (long : length part ≡ k) where
  prefix : length (take a row) ≡ a
  prefix = omega (arith, length-take a row)

  written-before : (p : ℕ) → p < a → get_or (put_mid a k row part) p 0 ≡ get_or row p 0
  written-before p lt =
      get_or_append_left (take a row) (part ++ post_of a k row) 0 p (omega (arith, prefix)) ∙ get_or-take a row p 0 lt

  written-there : (p q : ℕ) → p ≡ a + q → q < k → get_or (put_mid a k row part) p 0 ≡ get_or part q 0
  written-there p q at lt =
      get_or-append_right (take a row) (part ++ post_of a k row) a p 0 prefix (omega arith)
      ∙ same_index (part ++ post_of a k row) (p - a) q (omega arith)
      ∙ get_or_append_left part (post_of a k row) 0 q (omega arith)

-- so many samples from number first of a row on are those of another from number at on, whose samples before them are the old ones
abbrev pub AreCopied : ℕ → ℕ → ℕ → ℕ → List ℕ → List ℕ → List ℕ → Type 0
AreCopied d first at count from old new =
    ((i : ℕ) → i < count → sample_at d new (at + i) ≡ sample_at d from (first + i)) × ((i : ℕ) → i < at → sample_at d new i ≡ sample_at d old i)

-- so many samples were copied from number first of one row on to number at of another
module _ (d first at count : ℕ) (from to part : List ℕ) (begin end start stop : ℕ) (begins : begin ≡ d * first) (ends : end ≡ d * (first + count)) (starts : start ≡ d * at) (stops : stop ≡ d * (at + count))
    (readable : end ≤ length from) (writable : stop ≤ length to) (is : part ≡ take (end - begin) (drop begin from)) where
  long : length part ≡ stop - start
  long = ap length is ∙ omega (arith, length-take (end - begin) (drop begin from), length-drop begin from)

  room : start + (stop - start) ≤ length to
  room = omega arith

  copied-here : (i : ℕ) → i < count → sample_at d (put_mid start (stop - start) to part) (at + i) ≡ sample_at d from (first + i)
  copied-here i lt =
      sample_equal d (put_mid start (stop - start) to part) from (at + i) (first + i)
      (λ p near.
      let inside : d * i + p < d * count = omega (arith, mul-add-lt i d p count lt near) in
      written-there to part start (stop - start) room long (d * (at + i) + p) (d * i + p) (omega arith) (omega arith)
      ∙ ap (λ l. get_or l (d * i + p) 0) is
      ∙ get_or-take (end - begin) (drop begin from) (d * i + p) 0 (omega arith)
      ∙ get_or-drop begin from (d * i + p) 0
      ∙ same_index from (begin + (d * i + p)) (d * (first + i) + p) (omega arith))

  copied-before : (i : ℕ) → i < at → sample_at d (put_mid start (stop - start) to part) i ≡ sample_at d to i
  copied-before i lt =
      sample_equal d (put_mid start (stop - start) to part) to i i
      (λ p near. written-before to part start (stop - start) room long (d * i + p) (omega (arith, mul-add-lt i d p at lt near)))

  copied : AreCopied d first at count from to (put_mid start (stop - start) to part)
  copied = (copied-here, copied-before)

-- the same where a sample has b bytes
pub AreCopied-bytes : (d b first at count : ℕ) (from to part : List ℕ) → b ≡ d → d * (first + count) ≤ length from → d * (at + count) ≤ length to
    → part ≡ take (b * (first + count) - b * first) (drop (b * first) from) → AreCopied d first at count from to (put_mid (b * at) (b * (at + count) - b * at) to part)
AreCopied-bytes d b first at count from to part is readable writable same =
    let whole : b * (first + count) ≡ d * (first + count) = ap (λ n. n * (first + count)) is in
    let stop : b * (at + count) ≡ d * (at + count) = ap (λ n. n * (at + count)) is in
    copied d first at count from to part (b * first) (b * (first + count)) (b * at) (b * (at + count))
    (ap (λ n. n * first) is) whole (ap (λ n. n * at) is) stop (omega (arith, whole, readable)) (omega (arith, stop, writable)) same

-- ---- rows one after the other

-- row number y of so many ends among them
pub row_within : (y rows count : ℕ) → y < rows → y * count + count ≤ rows * count
row_within y rows count lt =
    let next : y + 1 ≤ rows = omega arith in
    omega (arith, mul-le-mul_right count next)

pub bytes_of_row : (d y rows count stride n : ℕ) → y < rows → count ≤ stride → d * (rows * stride) ≤ n → d * (y * stride + count) ≤ n
bytes_of_row d y rows count stride n lt narrow whole =
    let inside : y * stride + count ≤ rows * stride = omega (arith, row_within y rows stride lt) in
    omega (arith, mul-le-mul_left d inside)

-- one row more was copied
pub rows_copied : (d y count stride : ℕ) (from to old : List ℕ)
    → ((y' i : ℕ) → y' < y → i < count → sample_at d old (y' * count + i) ≡ sample_at d from (y' * stride + i))
    → ((i : ℕ) → i < count → sample_at d to (y * count + i) ≡ sample_at d from (y * stride + i))
    → ((i : ℕ) → i < y * count → sample_at d to i ≡ sample_at d old i)
    → (y' i : ℕ) → y' < y + 1 → i < count → sample_at d to (y' * count + i) ≡ sample_at d from (y' * stride + i)
rows_copied d y count stride from to old before here kept y' i lt within = elim (cases_lt y' y) [
  | inl earlier ↦ kept (y' * count + i) (omega (arith, row_within y' y count earlier)) ∙ before y' i earlier within
  | inr last ↦
      let at : y ≡ y' = omega arith in
      subst (λ n. sample_at d to (n * count + i) ≡ sample_at d from (n * stride + i)) at (here i within)
]
