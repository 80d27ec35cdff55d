-- Sums of the first numbers of a sequence, and of columns of samples.
use Rattle.std.proofs.Common.{◌≡◌, ℕ, zero, suc, ◌+◌, ◌-◌, ◌*◌, ◌%◌, ◌<◌, ◌≤◌, List, get_or, refl, sym, ap, ◌∙◌, subst, inl, inr, arith, w8, Fits}
use Rattle.std.proofs.lemmas.Bool.{cases_lt}
use Rattle.std.proofs.lemmas.Nat.{mod-mul-add, mul-add-lt}
use Rattle.std.proofs.Math.Nat.{mod-eq_of_lt, mul-le-mul_right, one-le-pow, pow-succ'}
use Rattle.pixel_formats.specs.Sample.{max_sample_of, sample_at, sample_from}
use Rattle.area_kernels.specs.Columns.{HoldsColumns}
use Rattle.area_kernels.specs.Sequences.{sum_of}

pub sum_of-same : (n : ℕ) (f g : ℕ → ℕ) → ((k : ℕ) → k < n → f k ≡ g k) → sum_of n f ≡ sum_of n g
sum_of-same zero f g same = refl
sum_of-same (suc n) f g same = λ t. sum_of-same n f g (λ k lt. same k (omega arith)) t + same n (omega arith) t

-- without the first number and with the next one
pub sum_of-slid : (n : ℕ) (f : ℕ → ℕ) → sum_of n (λ k. f (k + 1)) + f 0 ≡ sum_of n f + f n
sum_of-slid zero f = refl
sum_of-slid (suc n) f =
    let next : f (n + 1) ≡ f (suc n) = ap f (omega arith) in
    omega (arith, sum_of-slid n f, next)

pub sum_of-below : (n b : ℕ) (f : ℕ → ℕ) → ((k : ℕ) → k < n → f k ≤ b) → sum_of n f ≤ n * b
sum_of-below zero b f below = omega arith
sum_of-below (suc n) b f below = omega (arith, sum_of-below n b f (λ k lt. below k (omega arith)), below n (omega arith))

-- ---- samples

-- what so many bytes spell
from-below : (n : ℕ) (row : List ℕ) → ((k : ℕ) → Fits w8 (get_or row k 0)) → (at : ℕ) → sample_from n row at ≤ max_sample_of n
from-below zero row fits at = omega arith
from-below (suc zero) row fits at = omega (arith, (fits at).fits)
from-below (suc (suc n)) row fits at = omega (arith, (fits at).fits, from-below (suc n) row fits (at + 1), pow-succ' 256 (suc n), one-le-pow (suc n) 256 (omega arith))

pub sample-below : (d : ℕ) (row : List ℕ) → ((k : ℕ) → Fits w8 (get_or row k 0)) → (i : ℕ) → sample_at d row i ≤ max_sample_of d
sample-below zero row fits i = omega arith
sample-below (suc zero) row fits i = omega (arith, (fits i).fits)
sample-below (suc (suc n)) row fits i = from-below (suc (suc n)) row fits (suc (suc n) * i)

-- ---- numbers that are changed sixteen at a time

-- the first n have become what change gives for their numbers and themselves, and the others are unchanged
pub record ChangedBelow (change : ℕ → ℕ → ℕ) (n : ℕ) (old new : ℕ → ℕ) : Type 0 where
  pub changed : (i : ℕ) → i < n → new i ≡ change i (old i)
  pub rest : (i : ℕ) → n ≤ i → new i ≡ old i

pub ChangedBelow-none : (change : ℕ → ℕ → ℕ) (old : ℕ → ℕ) → ChangedBelow change 0 old old
ChangedBelow-none change old = record { changed = λ i lt. absurd (omega arith); rest = λ i le. refl }

pub ChangedBelow-more : (change : ℕ → ℕ → ℕ) (n m : ℕ) (old new newer : ℕ → ℕ) → m ≡ n + 16 → ChangedBelow change n old new
    → ((j : ℕ) → j < 16 → newer (n + j) ≡ change (n + j) (new (n + j)))
    → ((i : ℕ) → i < n → newer i ≡ new i) → ((i : ℕ) → n + 16 ≤ i → newer i ≡ new i)
    → ChangedBelow change m old newer
ChangedBelow-more change n m old new newer is h here before after = record {
  changed = λ i lt. elim (cases_lt i n) [
    | inl below ↦ before i below ∙ h.changed i below
    | inr past ↦
        let at : n + (i - n) ≡ i = omega arith in
        ap newer (sym at) ∙ here (i - n) (omega arith)
        ∙ (λ t. change (at t) (new (at t))) ∙ ap (change i) (h.rest i past)
  ];
  rest = λ i le. after i (omega arith) ∙ h.rest i (omega arith);
}

-- ---- sums of columns, in numbers below w

abbrev pub added : ℕ → ℕ → ℕ → ℕ
added w sum coming = (sum + coming) % w

abbrev pub slid : ℕ → ℕ → ℕ → ℕ → ℕ
slid w sum coming leaving = ((sum + coming) % w + (w - leaving)) % w

-- the numbers of samples that are counted from a block's first one
pub slid_here : (w : ℕ) (s lane last : ℕ → ℕ) (from out at : ℕ) (old new : ℕ → ℕ) → ((j : ℕ) → j < 16 → lane j ≡ s (from + at + j)) → ((j : ℕ) → j < 16 → last j ≡ s (out + at + j))
    → ((j : ℕ) → j < 16 → new (at + j) ≡ slid w (old (at + j)) (lane j) (last j))
    → (j : ℕ) → j < 16 → new (at + j) ≡ slid w (old (at + j)) (s (from + (at + j))) (s (out + (at + j)))
slid_here w s lane last from out at old new loaded loaded_last made j lt =
    let coming : from + at + j ≡ from + (at + j) = omega arith in
    let leaving : out + at + j ≡ out + (at + j) = omega arith in
    let enters = loaded j lt ∙ ap s coming in
    let leaves = loaded_last j lt ∙ ap s leaving in
    made j lt ∙ (λ t. slid w (old (at + j)) (enters t) (leaves t))

slid_fits : (w m sum coming leaving new : ℕ) → sum ≤ 129 * m → coming ≤ m → leaving ≤ m → 130 * m < w → new + leaving ≡ sum + coming → slid w sum coming leaving ≡ new
slid_fits w m sum coming leaving new few enters leaves room is =
    let whole : (sum + coming) % w ≡ sum + coming = mod-eq_of_lt (omega arith) in
    let moved : sum + coming + (w - leaving) ≡ 1 * w + new = omega arith in
    ap (λ n. (n + (w - leaving)) % w) whole ∙ ap (λ n. n % w) moved ∙ mod-mul-add 1 w new (omega arith)

module _ (d stride side first w m : ℕ) (samples : List ℕ) (old new : ℕ → ℕ) (below : (i : ℕ) → sample_at d samples i ≤ m) (room : 130 * m < w) where
  -- the row after the last in each sum, without the first
  pub HoldsColumns-slid : side ≤ 129 → HoldsColumns d stride side first samples old
      → ((i : ℕ) → i < stride → new i ≡ slid w (old i) (sample_at d samples ((first + side) * stride + i)) (sample_at d samples (first * stride + i)))
      → HoldsColumns d stride side (first + 1) samples new
  HoldsColumns-slid few held made = record {
    columns = λ i lt.
        let f : ℕ → ℕ = λ j. sample_at d samples ((first + j) * stride + i) in
        let small : sum_of side f ≤ side * m = sum_of-below side m f (λ k _. below ((first + k) * stride + i)) in
        let few_rows : side * m ≤ 129 * m = mul-le-mul_right m few in
        let leaving : sample_at d samples (first * stride + i) ≡ f 0 = ap (λ n. sample_at d samples (n * stride + i)) (omega arith) in
        made i lt ∙ (λ t. slid w (held.columns i lt t) (f side) (leaving t))
        ∙ slid_fits w m (sum_of side f) (f side) (f 0) (sum_of side (λ k. f (k + 1))) (omega (arith, small, few_rows))
        (below ((first + side) * stride + i)) (below ((first + 0) * stride + i)) room (sum_of-slid side f)
        ∙ sum_of-same side (λ k. f (k + 1)) (λ j. sample_at d samples ((first + 1 + j) * stride + i))
        (λ k _. ap (λ n. sample_at d samples (n * stride + i)) (omega arith));
  }

-- sixteen sums have become those of columns of so many rows, and the others are unchanged
pub record BlockSums (d stride rows at : ℕ) (samples : List ℕ) (old new : ℕ → ℕ) : Type 0 where
  pub here : (j : ℕ) → j < 16 → new (at + j) ≡ sum_of rows (λ row. sample_at d samples (row * stride + (at + j)))
  pub before : (i : ℕ) → i < at → new i ≡ old i
  pub after : (i : ℕ) → at + 16 ≤ i → new i ≡ old i

-- with a row more
pub BlockSums-more : (d stride row next at w m : ℕ) (samples : List ℕ) (lane old new newer : ℕ → ℕ) → ((i : ℕ) → sample_at d samples i ≤ m) → 130 * m < w → next ≡ suc row → row < 129
    → BlockSums d stride row at samples old new
    → ((j : ℕ) → j < 16 → lane j ≡ sample_at d samples (row * stride + at + j))
    → ((j : ℕ) → j < 16 → newer (at + j) ≡ added w (new (at + j)) (lane j))
    → ((i : ℕ) → i < at → newer i ≡ new i) → ((i : ℕ) → at + 16 ≤ i → newer i ≡ new i)
    → BlockSums d stride next at samples old newer
BlockSums-more d stride row next at w m samples lane old new newer below room more few held loaded made before after = record {
  here = λ j lt.
      let f : ℕ → ℕ = λ k. sample_at d samples (k * stride + (at + j)) in
      let small : sum_of row f ≤ row * m = sum_of-below row m f (λ k _. below (k * stride + (at + j))) in
      let few_rows : row * m ≤ 128 * m = mul-le-mul_right m (omega arith) in
      let fits : (sum_of row f + f row) % w ≡ sum_of row f + f row = mod-eq_of_lt (omega (arith, small, few_rows, below (row * stride + (at + j)), room)) in
      let coming : lane j ≡ f row = loaded j lt ∙ ap (sample_at d samples) (omega arith) in
      made j lt ∙ (λ t. added w (held.here j lt t) (coming t)) ∙ fits ∙ ap (λ n. sum_of n f) (sym more);
  before = λ i lt. before i lt ∙ held.before i lt;
  after = λ i le. after i le ∙ held.after i le;
}

-- ---- sums that slide along a row

-- the number of a sample of a pixel among those that are summed
pub sample_within : (n w reach x c k : ℕ) → x < w → c < n → k ≤ reach → (x + k) * n + c < (w + reach) * n
sample_within n w reach x c k column channel few = omega (arith, mul-add-lt x n c w column channel, mul-le-mul_right n few)

-- sums of up to 129 numbers that are at most b, in numbers below w
module _ (w b : ℕ) (room : 129 * b < w) where
  -- with the number after the last
  pub sum-next : (number : ℕ → ℕ) (m sum coming new : ℕ) → m ≤ 128 → ((k : ℕ) → k ≤ m → number k ≤ b) → new ≡ (sum + coming) % w → sum ≡ sum_of m number → coming ≡ number m
      → new ≡ sum_of (m + 1) number
  sum-next number m sum coming new few small made is enters =
      let next : suc m ≡ m + 1 = omega arith in
      let so_far : sum_of m number ≤ m * b = sum_of-below m b number (λ k lt. small k (omega arith)) in
      let most : m * b ≤ 128 * b = mul-le-mul_right b few in
      let fits : (sum_of m number + number m) % w ≡ sum_of m number + number m = mod-eq_of_lt (omega (arith, so_far, most, small m (omega arith), room)) in
      made ∙ (λ t. (is t + enters t) % w) ∙ fits ∙ ap (λ k. sum_of k number) next

  -- without the first number
  pub sum-slid : (s : ℕ → ℕ) (n c x reach whole leaving new : ℕ) → reach ≤ 128 → ((k : ℕ) → k ≤ reach → s ((x + k) * n + c) ≤ b)
      → new ≡ (whole + (w - leaving)) % w → whole ≡ sum_of (reach + 1) (λ k. s ((x + k) * n + c)) → leaving ≡ s (x * n + c)
      → new ≡ sum_of reach (λ k. s ((x + 1 + k) * n + c))
  sum-slid s n c x reach whole leaving new few small made is leaves =
      let number : ℕ → ℕ = λ k. s ((x + k) * n + c) in
      let rest = sum_of reach (λ k. number (k + 1)) in
      let next : suc reach ≡ reach + 1 = omega arith in
      let all : whole ≡ sum_of reach number + number reach = is ∙ ap (λ m. sum_of m number) (sym next) in
      let first : leaving ≡ number 0 = leaves ∙ ap (λ y. s (y * n + c)) (omega arith) in
      let same : rest ≡ sum_of reach (λ k. s ((x + 1 + k) * n + c)) =
      sum_of-same reach (λ k. number (k + 1)) (λ k. s ((x + 1 + k) * n + c)) (λ k _. ap (λ y. s (y * n + c)) (omega arith)) in
      let least : rest ≤ reach * b = sum_of-below reach b (λ k. number (k + 1)) (λ k lt. small (k + 1) (omega arith)) in
      let most : reach * b ≤ 128 * b = mul-le-mul_right b few in
      let moved : whole + (w - leaving) ≡ 1 * w + rest = omega (arith, all, first, small 0 (omega arith), room, sum_of-slid reach number) in
      made ∙ ap (λ m. m % w) moved ∙ mod-mul-add 1 w rest (omega (arith, least, most, room)) ∙ same

-- the sums of the first x pixels were written, and the numbers after those of all are zeros, but for four
pub record SumsBelow (s : ℕ → ℕ) (n reach width x : ℕ) (sums : ℕ → ℕ) : Type 0 where
  pub made : (p c : ℕ) → p < x → c < n → sums (p * n + c) ≡ sum_of (reach + 1) (λ k. s ((p + k) * n + c))
  pub clear : (i : ℕ) → width * n + 4 ≤ i → sums i ≡ 0

module _ (s : ℕ → ℕ) (n reach width : ℕ) (old new : ℕ → ℕ) where
  pub SumsBelow-more : (x : ℕ) (four : ℕ → ℕ) → n ≤ 4 → x < width
      → ((j : ℕ) → j < 4 → new (x * n + j) ≡ four j)
      → ((c : ℕ) → c < n → four c ≡ sum_of (reach + 1) (λ k. s ((x + k) * n + c)))
      → ((i : ℕ) → i < x * n → new i ≡ old i) → ((i : ℕ) → x * n + 4 ≤ i → new i ≡ old i)
      → SumsBelow s n reach width x old → SumsBelow s n reach width (x + 1) new
  SumsBelow-more x four few within here whole before after h = record {
    made = λ p c lt channel. elim (cases_lt p x) [
      | inl earlier ↦ before (p * n + c) (omega (arith, mul-add-lt p n c x earlier channel)) ∙ h.made p c earlier channel
      | inr past ↦
          let at : x ≡ p = omega arith in
          subst (λ y. new (y * n + c) ≡ sum_of (reach + 1) (λ k. s ((y + k) * n + c))) at (here c (omega arith) ∙ whole c channel)
    ];
    clear = λ i far.
        let le : x * n ≤ width * n = mul-le-mul_right n (omega arith) in
        after i (omega arith) ∙ h.clear i far;
  }

  -- the four numbers after those of all pixels were made zeros
  pub SumsBelow-made : ((i : ℕ) → i < width * n → new i ≡ old i) → SumsBelow s n reach width width old
      → (p c : ℕ) → p < width → c < n → new (p * n + c) ≡ sum_of (reach + 1) (λ k. s ((p + k) * n + c))
  SumsBelow-made before h p c lt channel = before (p * n + c) (omega (arith, mul-add-lt p n c width lt channel)) ∙ h.made p c lt channel

  pub SumsBelow-clear : (four : ℕ → ℕ) → ((j : ℕ) → j < 4 → new (width * n + j) ≡ four j) → ((j : ℕ) → j < 4 → four j ≡ 0) → ((i : ℕ) → width * n + 4 ≤ i → new i ≡ old i)
      → SumsBelow s n reach width width old → (i : ℕ) → width * n ≤ i → new i ≡ 0
  SumsBelow-clear four here zeros after h i le = elim (cases_lt i (width * n + 4)) [
    | inl near ↦
        let at : width * n + (i - width * n) ≡ i = omega arith in
        ap new (sym at) ∙ here (i - width * n) (omega arith) ∙ zeros (i - width * n) (omega arith)
    | inr far ↦ after i far ∙ h.clear i far
  ]
