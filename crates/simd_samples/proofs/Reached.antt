-- Vectors that are chosen by a comparison. The lanes lie below m, of which h is the highest bit.
use Rattle.std.proofs.Common.{◌≡◌, ℕ, ◌-◌, ◌<◌, Bool, true, false, cond, leb, List, get_or, map, replicate, refl, ap, ◌∙◌}
use Rattle.std.proofs.lemmas.Simd.{get_or-replicate}
use lib.Lanes.{zip2, sel_l, top}
use Rattle.simd_samples.specs.Lanes.{AreLanes}
use Rattle.simd_samples.proofs.Pointwise.{Makes, Makes-from_four}

abbrev pub is_at_most : ℕ → ℕ → ℕ → ℕ
is_at_most m a b = cond (leb a b) (m - 1) 0

abbrev pub where_reached : ℕ → ℕ → List ℕ → List ℕ → List ℕ → List ℕ → List ℕ
where_reached h m xs ys zs ws = sel_l (map (top h) (zip2 (is_at_most m) xs ys)) zs ws

-- of two lanes a and b: x where a is at most b, and else y
abbrev pub one_reached : ℕ → ℕ → ℕ → ℕ → ℕ → ℕ → ℕ
one_reached h m a b x y = cond (top h (is_at_most m a b)) x y

pub reached_bytes : (a b x y : ℕ) → one_reached 7 256 a b x y ≡ cond (leb a b) x y
reached_bytes a b x y = go (leb a b)
  where
    go : (t : Bool) → cond (top 7 (cond t 255 0)) x y ≡ cond t x y
    go true = refl
    go false = refl

pub reached_words : (a b x y : ℕ) → one_reached 15 65536 a b x y ≡ cond (leb a b) x y
reached_words a b x y = go (leb a b)
  where
    go : (t : Bool) → cond (top 15 (cond t 65535 0)) x y ≡ cond t x y
    go true = refl
    go false = refl

pub reached_ints : (a b x y : ℕ) → one_reached 31 4294967296 a b x y ≡ cond (leb a b) x y
reached_ints a b x y = go (leb a b)
  where
    go : (t : Bool) → cond (top 31 (cond t 4294967295 0)) x y ≡ cond t x y
    go true = refl
    go false = refl

choice_below : (m x y : ℕ) (t : Bool) → x < m → y < m → cond t x y < m
choice_below m x y true p q = p
choice_below m x y false p q = q

pub Makes-reached : (h m n : ℕ) → 0 < m → n < m → ((a b x y : ℕ) → one_reached h m a b x y ≡ cond (leb a b) x y)
    → (xs ys zs : List ℕ) → AreLanes m xs → AreLanes m ys → AreLanes m zs
    → Makes m (where_reached h m xs ys zs (replicate 16 n)) (λ j. cond (leb (get_or xs j 0) (get_or ys j 0)) (get_or zs j 0) n)
Makes-reached h m n some few of_one xs ys zs p q r =
    Makes-from_four (where_reached h m) (one_reached h m) (λ a b c d xs ys zs ws. refl) refl m _ some xs ys zs (replicate 16 n) p.long q.long r.long refl
    (λ j lt. (
      ap (λ k. one_reached h m (get_or xs j 0) (get_or ys j 0) (get_or zs j 0) k) (get_or-replicate 16 j n 0 lt) ∙ of_one _ _ _ _,
      choice_below m (get_or zs j 0) n (leb (get_or xs j 0) (get_or ys j 0)) (r.below j) few,
    ))
