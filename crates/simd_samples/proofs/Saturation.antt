-- Sums, differences, minima and maxima of vectors, as `std::simd` computes them: by comparisons and arithmetic that
-- wraps. The lanes lie below m, of which h is the highest bit.
use Rattle.std.proofs.Common.{◌≡◌, ℕ, ◌+◌, ◌-◌, ◌%◌, ◌<◌, Bool, true, false, cond, ltb, List, [], ◌∷◌, get_or, map, min, max, refl, ap, ◌∙◌, arith, ltb-true, ltb-false}
use Rattle.std.proofs.Math.Nat.{add-mod_right, mod-eq_of_lt, mod_self}
use lib.Lanes.{zip2, sel_l, top}
use Rattle.pixel_formats.specs.Sample.{added}
use Rattle.simd_samples.specs.Lanes.{AreLanes}
use Rattle.simd_samples.proofs.Pointwise.{Makes, Makes-from_two}

-- what the vector operations make of two lanes
abbrev pub less : ℕ → ℕ → ℕ → ℕ
less m a b = (a + (m - b)) % m

abbrev pub more : ℕ → ℕ → ℕ → ℕ
more m a b = (a + b) % m

abbrev pub is_below : ℕ → ℕ → ℕ → ℕ
is_below m a b = cond (ltb a b) (m - 1) 0

abbrev pub complement : ℕ → ℕ → ℕ
complement m a = m - 1 - a

abbrev pub where_below : ℕ → ℕ → List ℕ → List ℕ → List ℕ → List ℕ → List ℕ
where_below h m xs ys zs ws = sel_l (map (top h) (zip2 (is_below m) xs ys)) zs ws

abbrev pub difference : ℕ → ℕ → List ℕ → List ℕ → List ℕ
difference h m xs ys = zip2 (less m) (where_below h m xs ys ys xs) ys

abbrev pub total : ℕ → ℕ → List ℕ → List ℕ → List ℕ
total h m xs ys = zip2 (more m) xs (where_below h m ys (map (complement m) xs) ys (map (complement m) xs))

abbrev pub choice : ℕ → ℕ → ℕ → ℕ → ℕ → ℕ → ℕ
choice h m x y a b = cond (top h (is_below m x y)) a b

-- where h is the highest bit of lanes below m
pub record IsHighest (h m : ℕ) : Type 0 where
  pub some : 0 < m
  pub full : top h (m - 1) ≡ true
  pub none : top h 0 ≡ false

pub highest_of_bytes : IsHighest 7 256
highest_of_bytes = record { some = omega arith; full = refl; none = refl }

pub highest_of_words : IsHighest 15 65536
highest_of_words = record { some = omega arith; full = refl; none = refl }

pub highest_of_ints : IsHighest 31 4294967296
highest_of_ints = record { some = omega arith; full = refl; none = refl }

pub highest_of_longs : IsHighest 63 18446744073709551616
highest_of_longs = record { some = omega arith; full = refl; none = refl }

module _ (h m : ℕ) (highest : IsHighest h m) where
  -- of two lanes
  choice-is : (x y a b : ℕ) → choice h m x y a b ≡ cond (ltb x y) a b
  choice-is x y a b = go (ltb x y)
    where
      go : (t : Bool) → cond (top h (cond t (m - 1) 0)) a b ≡ cond t a b
      go true = ap (λ s. cond s a b) highest.full
      go false = ap (λ s. cond s a b) highest.none

  difference_of_two : (a b : ℕ) → a < m → b < m → less m (choice h m a b b a) b ≡ a - b
  difference_of_two a b A B = ap (λ n. less m n b) (choice-is a b b a) ∙ go (ltb a b) refl
    where
      go : (t : Bool) → ltb a b ≡ t → less m (cond t b a) b ≡ a - b
      go true e =
          let whole : b + (m - b) ≡ m = omega arith in
          ap (λ n. n % m) whole ∙ mod_self m ∙ omega (arith, ltb-true _ _ e)
      go false e =
          let above : a + (m - b) ≡ a - b + m = omega (arith, ltb-false _ _ e) in
          ap (λ n. n % m) above ∙ add-mod_right (a - b) m ∙ mod-eq_of_lt (omega arith)

  total_of_two : (a b : ℕ) → a < m → b < m → more m a (choice h m b (complement m a) b (complement m a)) ≡ added (m - 1) a b
  total_of_two a b A B = ap (more m a) (choice-is b (complement m a) b (complement m a)) ∙ go (ltb b (complement m a)) refl
    where
      go : (t : Bool) → ltb b (complement m a) ≡ t → more m a (cond t b (complement m a)) ≡ added (m - 1) a b
      go true e = mod-eq_of_lt (omega (arith, ltb-true _ _ e)) ∙ omega (arith, ltb-true _ _ e)
      go false e = mod-eq_of_lt (omega arith) ∙ omega (arith, ltb-false _ _ e)

  min_of_two : (a b : ℕ) → choice h m a b a b ≡ min a b
  min_of_two a b = choice-is a b a b ∙ go (ltb a b) refl
    where
      go : (t : Bool) → ltb a b ≡ t → cond t a b ≡ min a b
      go true e = omega (arith, ltb-true _ _ e)
      go false e = omega (arith, ltb-false _ _ e)

  max_of_two : (a b : ℕ) → choice h m a b b a ≡ max a b
  max_of_two a b = choice-is a b b a ∙ go (ltb a b) refl
    where
      go : (t : Bool) → ltb a b ≡ t → cond t b a ≡ max a b
      go true e = omega (arith, ltb-true _ _ e)
      go false e = omega (arith, ltb-false _ _ e)

  -- of vectors
  module _ (xs ys : List ℕ) (p : AreLanes m xs) (q : AreLanes m ys) where
    by_lanes : (F : List ℕ → List ℕ → List ℕ) (f value : ℕ → ℕ → ℕ) → ((x y : ℕ) (xs ys : List ℕ) → F (x ∷ xs) (y ∷ ys) ≡ f x y ∷ F xs ys) → F [] [] ≡ []
        → ((a b : ℕ) → a < m → b < m → (f a b ≡ value a b) × (value a b < m)) → Makes m (F xs ys) (λ j. value (get_or xs j 0) (get_or ys j 0))
    by_lanes F f value step none of_two = Makes-from_two F f step none m _ highest.some xs ys p.long q.long (λ j lt. of_two _ _ (p.below j) (q.below j))

    pub Makes-difference : Makes m (difference h m xs ys) (λ j. (get_or xs j 0) - (get_or ys j 0))
    Makes-difference =
        by_lanes (difference h m) (λ a b. less m (choice h m a b b a) b) (λ a b. a - b) (λ a b xs ys. refl) refl
        (λ a b A B. (difference_of_two a b A B, omega arith))

    pub Makes-total : Makes m (total h m xs ys) (λ j. added (m - 1) (get_or xs j 0) (get_or ys j 0))
    Makes-total =
        by_lanes (total h m) (λ a b. more m a (choice h m b (complement m a) b (complement m a))) (added (m - 1)) (λ a b xs ys. refl) refl
        (λ a b A B. (total_of_two a b A B, omega arith))

    pub Makes-minimum : Makes m (where_below h m xs ys xs ys) (λ j. min (get_or xs j 0) (get_or ys j 0))
    Makes-minimum =
        by_lanes (λ xs ys. where_below h m xs ys xs ys) (λ a b. choice h m a b a b) min (λ a b xs ys. refl) refl
        (λ a b A B. (min_of_two a b, omega arith))

    pub Makes-max_sample : Makes m (where_below h m xs ys ys xs) (λ j. max (get_or xs j 0) (get_or ys j 0))
    Makes-max_sample =
        by_lanes (λ xs ys. where_below h m xs ys ys xs) (λ a b. choice h m a b b a) max (λ a b xs ys. refl) refl
        (λ a b A B. (max_of_two a b, omega arith))
