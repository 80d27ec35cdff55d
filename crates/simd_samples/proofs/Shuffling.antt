-- Vectors that are shuffled. The lanes of two vectors stand one after the other, and each lane of the result is picked
-- by its position there.
use Rattle.std.proofs.Common.{◌≡◌, ℕ, zero, suc, ◌+◌, ◌-◌, ◌<◌, ◌≤◌, Bool, true, false, ◌&&◌, cond, eqb, ltb, T, List, ◌++◌, length, get_or, refl, ap, ◌∙◌, subst, inl, inr, arith, eqb→eq, ltb→lt, ltb-true, ltb-false}
use Rattle.std.proofs.lemmas.Bool.{cases_lt}
use Rattle.std.proofs.lemmas.List.{get_or-map, get_or_append_left, get_or-append_right, length-map}
use lib.Lanes.{pick_l}
use mir.ValLaws.{and_both}
use Rattle.simd_samples.specs.Lanes.{AreLanes, Hold, HoldTwo, HoldThree}
use Rattle.simd_samples.specs.Shuffle.{picked, position_of_three, position_of_two, shuffled_of_three, shuffled_of_two, table_of_last, table_of_three, table_of_two}
use Rattle.simd_samples.specs.declared.shuffles.ShuffleOfTwo.{ShuffleOfTwo}
use Rattle.simd_samples.specs.declared.shuffles.ShuffleOfTwo.TheVariants.{SpreadSecond, SpreadFourth, WithSecond, WithFourth, Evens, Odds, EvenPairs, OddPairs, EvenFours, OddFours, JoinedLow, JoinedHigh}
use Rattle.simd_samples.specs.declared.shuffles.ShuffleOfThree.{ShuffleOfThree}
use Rattle.simd_samples.specs.declared.shuffles.ShuffleOfThree.TheVariants.{Firsts, Seconds, Thirds, JoinedFirst, JoinedSecond, JoinedThird}
use Rattle.simd_samples.proofs.Pointwise.{Makes, Makes-from_lanes}

-- a test of each number below n
abbrev pub all_under : ℕ → (ℕ → Bool) → Bool
all_under zero p = true
all_under (suc n) p = p n && all_under n p

pub under : (n : ℕ) (p : ℕ → Bool) → T (all_under n p) → (j : ℕ) → j < n → T (p j)
under zero p all j lt = absurd (omega arith)
under (suc n) p all j lt =
    let both = and_both (p n) (all_under n p) all in
    elim (cases_lt j n) [
      | inl below ↦ under n p both.1 j below
      | inr last ↦ let P : ℕ → Type 0 = λ k. T (p k) in let e : n ≡ j = omega arith in subst P e both.0
    ]

-- the positions are these
abbrev pub Are : List ℕ → (ℕ → ℕ) → Type 0
Are positions position = T (all_under 16 (λ j. eqb (get_or positions j 0) (position j)))

module _ (bound : ℕ) (some : 0 < bound) (xs ys : List ℕ) (p : AreLanes bound xs) (q : AreLanes bound ys) where
  pub in_first : (k : ℕ) → k < 16 → get_or (xs ++ ys) k 0 ≡ get_or xs k 0
  in_first k lt = get_or_append_left xs ys 0 k (omega (arith, p.long))

  pub joined_below : (k : ℕ) → get_or (xs ++ ys) k 0 < bound
  joined_below k =
      elim (cases_lt k 16) [
        | inl lt ↦ omega (arith, in_first k lt, p.below k)
        | inr past ↦ omega (arith, get_or-append_right xs ys 16 k 0 p.long past, q.below (k - 16))
      ]

  picked_at : (positions : List ℕ) (j : ℕ) → length positions ≡ 16 → j < 16 → get_or (pick_l 0 (xs ++ ys) positions) j 0 ≡ get_or (xs ++ ys) (get_or positions j 0) 0
  picked_at positions j long lt = get_or-map (λ k. get_or (xs ++ ys) k 0) positions j 0 0 (omega arith)

  pub Makes-picked : (positions : List ℕ) → length positions ≡ 16 → Makes bound (pick_l 0 (xs ++ ys) positions) (λ j. get_or (xs ++ ys) (get_or positions j 0) 0)
  Makes-picked positions long =
      Makes-from_lanes bound (pick_l 0 (xs ++ ys) positions) _ some (length-map positions (λ k. get_or (xs ++ ys) k 0) ∙ long)
      (λ j lt. picked_at positions j long lt) (λ j lt. joined_below (get_or positions j 0))

  -- the same where the positions are known
  pub Makes-shuffled : (positions : List ℕ) (position value : ℕ → ℕ) → length positions ≡ 16 → Are positions position
      → ((j : ℕ) → j < 16 → get_or (xs ++ ys) (position j) 0 ≡ value j) → Makes bound (pick_l 0 (xs ++ ys) positions) value
  Makes-shuffled positions position value long at from = (
    (Makes-picked positions long).0,
    λ j lt. picked_at positions j long lt ∙ ap (λ k. get_or (xs ++ ys) k 0) (eqb→eq _ _ (under 16 (λ k. eqb (get_or positions k 0) (position k)) at j lt)) ∙ from j lt,
  )

  joined_holds : (s : ℕ → ℕ) → HoldTwo (λ j. get_or xs j 0) (λ j. get_or ys j 0) s → (k : ℕ) → k < 32 → get_or (xs ++ ys) k 0 ≡ s k
  joined_holds s both k far =
      elim (cases_lt k 16) [
        | inl lt ↦ in_first k lt ∙ both.0 k lt
        | inr past ↦ get_or-append_right xs ys 16 k 0 p.long past ∙ both.1 (k - 16) (omega arith) ∙ ap s (omega arith)
      ]

  -- a shuffle of vectors that hold samples one after the other
  pub Hold-shuffled : (positions : List ℕ) (position : ℕ → ℕ) → length positions ≡ 16 → Are positions position → ((j : ℕ) → j < 16 → position j < 32)
      → (s : ℕ → ℕ) → HoldTwo (λ j. get_or xs j 0) (λ j. get_or ys j 0) s → Hold (λ j. get_or (pick_l 0 (xs ++ ys) positions) j 0) (λ j. s (position j))
  Hold-shuffled positions position long at near s both =
      (Makes-shuffled positions position (λ j. s (position j)) long at (λ j lt. joined_holds s both (position j) (near j lt))).1

-- where two shuffles, one after the other, pick from among three vectors
abbrev pub through : List ℕ → List ℕ → ℕ → ℕ
through by_two by_last j =
    let k = get_or by_last j 0 in cond (ltb k 16) (get_or by_two k 0) (16 + k)

-- the test that they pick from these positions
abbrev pub AreThrough : List ℕ → List ℕ → (ℕ → ℕ) → Type 0
AreThrough by_two by_last position =
    T (all_under 16 (λ j. eqb (through by_two by_last j) (position j) && (ltb (get_or by_two j 0) 32 && ltb (get_or by_last j 0) 32)))

module _ (bound : ℕ) (some : 0 < bound) (xs ys zs : List ℕ) (p : AreLanes bound xs) (q : AreLanes bound ys) (r : AreLanes bound zs)
    (by_two by_last : List ℕ) (long : length by_two ≡ 16) (long_last : length by_last ≡ 16) where
  abbrev middle : List ℕ
  middle = pick_l 0 (xs ++ ys) by_two

  middle_lanes : AreLanes bound middle
  middle_lanes = (Makes-picked bound some xs ys p q by_two long).0

  module _ (s : ℕ → ℕ) (all : HoldThree (λ j. get_or xs j 0) (λ j. get_or ys j 0) (λ j. get_or zs j 0) s) where
    from_two : (k : ℕ) → k < 16 → T (ltb (get_or by_two k 0) 32) → get_or (middle ++ zs) k 0 ≡ s (get_or by_two k 0)
    from_two k lt near =
        in_first bound some middle zs middle_lanes r k lt ∙ picked_at bound some xs ys p q by_two k long lt
        ∙ joined_holds bound some xs ys p q s (all.0, all.1) (get_or by_two k 0) (ltb→lt _ _ near)

    from_last : (k : ℕ) → 16 ≤ k → k < 32 → get_or (middle ++ zs) k 0 ≡ s (16 + k)
    from_last k past near = get_or-append_right middle zs 16 k 0 middle_lanes.long past ∙ all.2 (k - 16) (omega arith) ∙ ap s (omega arith)

    pub Hold-shuffled_twice : (position : ℕ → ℕ) → AreThrough by_two by_last position → Hold (λ j. get_or (pick_l 0 (middle ++ zs) by_last) j 0) (λ j. s (position j))
    Hold-shuffled_twice position at j lt =
        picked_at bound some middle zs middle_lanes r by_last j long_last lt ∙ from (ltb k 16) refl ∙ ap s (eqb→eq _ _ here.0)
      where
        k : ℕ
        k = get_or by_last j 0

        tested : (i : ℕ) → i < 16 → T (eqb (through by_two by_last i) (position i)) × T (ltb (get_or by_two i 0) 32) × T (ltb (get_or by_last i 0) 32)
        tested i near =
            let test = λ (n : ℕ). eqb (through by_two by_last n) (position n) && (ltb (get_or by_two n 0) 32 && ltb (get_or by_last n 0) 32) in
            let first = and_both (eqb (through by_two by_last i) (position i)) (ltb (get_or by_two i 0) 32 && ltb (get_or by_last i 0) 32) (under 16 test at i near) in
            let rest = and_both (ltb (get_or by_two i 0) 32) (ltb (get_or by_last i 0) 32) first.1 in
            (first.0, rest.0, rest.1)

        here : T (eqb (through by_two by_last j) (position j)) × T (ltb (get_or by_two j 0) 32) × T (ltb k 32)
        here = tested j lt

        from : (b : Bool) → ltb k 16 ≡ b → get_or (middle ++ zs) k 0 ≡ s (cond b (get_or by_two k 0) (16 + k))
        from true e = from_two k (ltb-true _ _ e) (tested k (ltb-true _ _ e)).1
        from false e = from_last k (ltb-false _ _ e) (ltb→lt _ _ here.2)

-- ---- the shuffles that are named

-- the positions of each are sixteen, as its law says, and lanes of two vectors
pub table_of_two-is : (w : ShuffleOfTwo) → (length (table_of_two w) ≡ 16) × Are (table_of_two w) (position_of_two w) × T (all_under 16 (λ j. ltb (position_of_two w j) 32))
table_of_two-is SpreadSecond = (refl, tt, tt)
table_of_two-is SpreadFourth = (refl, tt, tt)
table_of_two-is WithSecond = (refl, tt, tt)
table_of_two-is WithFourth = (refl, tt, tt)
table_of_two-is Evens = (refl, tt, tt)
table_of_two-is Odds = (refl, tt, tt)
table_of_two-is EvenPairs = (refl, tt, tt)
table_of_two-is OddPairs = (refl, tt, tt)
table_of_two-is EvenFours = (refl, tt, tt)
table_of_two-is OddFours = (refl, tt, tt)
table_of_two-is JoinedLow = (refl, tt, tt)
table_of_two-is JoinedHigh = (refl, tt, tt)

-- and those of each of three vectors, and of the two shuffles that make it
pub table_of_three-is : (w : ShuffleOfThree) → (length (table_of_three w) ≡ 16) × (length (table_of_last w) ≡ 16) × AreThrough (table_of_three w) (table_of_last w) (position_of_three w)
table_of_three-is Firsts = (refl, refl, tt)
table_of_three-is Seconds = (refl, refl, tt)
table_of_three-is Thirds = (refl, refl, tt)
table_of_three-is JoinedFirst = (refl, refl, tt)
table_of_three-is JoinedSecond = (refl, refl, tt)
table_of_three-is JoinedThird = (refl, refl, tt)

module _ (bound : ℕ) (some : 0 < bound) (xs ys v : List ℕ) (p : AreLanes bound xs) (q : AreLanes bound ys) (w : ShuffleOfTwo)
    (made : v ≡ shuffled_of_two xs ys w) where
  pub Hold-of_two : (s : ℕ → ℕ) → HoldTwo (λ j. get_or xs j 0) (λ j. get_or ys j 0) s → Hold (λ j. get_or v j 0) (λ j. s (position_of_two w j))
  Hold-of_two s both j lt =
      let is = table_of_two-is w in
      ap (λ l. get_or l j 0) made
      ∙ Hold-shuffled bound some xs ys p q (table_of_two w) (position_of_two w) is.0 is.1
      (λ i near. ltb→lt _ _ (under 16 (λ k. ltb (position_of_two w k) 32) is.2 i near)) s both j lt

module _ (bound : ℕ) (some : 0 < bound) (xs ys zs two v : List ℕ) (p : AreLanes bound xs) (q : AreLanes bound ys) (r : AreLanes bound zs) (w : ShuffleOfThree)
    (made_two : two ≡ picked (xs ++ ys) (table_of_three w)) (made_last : v ≡ picked (two ++ zs) (table_of_last w)) where
  made : v ≡ shuffled_of_three xs ys zs w
  made = made_last ∙ ap (λ l. picked (l ++ zs) (table_of_last w)) made_two

  pub Hold-of_three : (s : ℕ → ℕ) → HoldThree (λ j. get_or xs j 0) (λ j. get_or ys j 0) (λ j. get_or zs j 0) s → Hold (λ j. get_or v j 0) (λ j. s (position_of_three w j))
  Hold-of_three s all j lt =
      let is = table_of_three-is w in
      ap (λ l. get_or l j 0) made
      ∙ Hold-shuffled_twice bound some xs ys zs p q r (table_of_three w) (table_of_last w) is.0 is.1 s all (position_of_three w) is.2 j lt
