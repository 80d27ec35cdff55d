-- Names by their numbers in lists of names.
use Rattle.std.proofs.Common.{◌≡◌, ℕ, suc, ◌+◌, ◌<◌, Bool, true, false, not, cond, List, [], ◌∷◌, length, map, Some, None, refl, ap, subst, arith}
use Rattle.std.specs.Prelude.{◌≤◌, nat_lt, slice_get, unwrap_or}
use Rattle.std.proofs.lemmas.Bool.Decides.{nat_tests}
use Rattle.std.proofs.lemmas.List.Sums.{prefix_len-le-length}
use Rattle.std.specs.Option.{option_map}
use Rattle.std.specs.List.{position, position_or_len}
use Rattle.std.specs.Str.{bytes_eq}
use Rattle.model_buffers.specs.Layout.{find}
use Rattle.model_buffers.proofs.FindLaws.{name_from_test}

one_more : (n : ℕ) → suc n ≡ 1 + n
one_more n = omega arith

-- the first position at which a test passes, and the length where it passes at none
pub position_is : {X : Type 0} (p : X → Bool) (xs : List X) → unwrap_or (position p xs) (length xs) ≡ position_or_len p xs
position_is p xs = by (nat_lt (position_or_len p xs) (length xs)) refl
  where
    by : (b : Bool) → nat_lt (position_or_len p xs) (length xs) ≡ b → unwrap_or (cond b (Some (position_or_len p xs)) None) (length xs) ≡ position_or_len p xs
    by true e = refl
    by false e =
        let le = prefix_len-le-length (λ x. not (p x)) xs in
        let past : length xs ≤ position_or_len p xs = grind (arith, nat_tests) in
        omega (arith, le, past)

module _ {X : Type 0} where
  -- how many entries stand before the first of a name
  abbrev pub number : List (List ℕ × X) → List ℕ → ℕ
  number entries k = position_or_len (λ (entry : List ℕ × X). bytes_eq k entry.0) entries

  -- a value is at the number of its name
  pub numbered : (entries : List (List ℕ × X)) (k : List ℕ) → option_map (λ (entry : List ℕ × X). entry.1) (slice_get entries (number entries k)) ≡ find entries k
  numbered [] k = refl
  numbered (e ∷ entries) k = cases (bytes_eq k e.0) (numbered entries k)
    where
      cases : (b : Bool) → option_map (λ (entry : List ℕ × X). entry.1) (slice_get entries (number entries k)) ≡ find entries k
          → option_map (λ (entry : List ℕ × X). entry.1) (slice_get (e ∷ entries) (cond (not b) (1 + number entries k) 0)) ≡ cond b (Some e.1) (find entries k)
      cases true rest = refl
      cases false rest = subst (λ i. option_map (λ (entry : List ℕ × X). entry.1) (slice_get (e ∷ entries) i) ≡ find entries k) (one_more (number entries k)) rest

  -- beside the name
  pub entry_numbered : (entries : List (List ℕ × X)) (k : List ℕ) (x : X) → find entries k ≡ Some x → slice_get entries (number entries k) ≡ Some (k, x)
  entry_numbered [] k x there = absurd (cc)
  entry_numbered (e ∷ entries) k x there = cases (bytes_eq k e.0) refl there (entry_numbered entries k x)
    where
      cases : (b : Bool) → bytes_eq k e.0 ≡ b → cond b (Some e.1) (find entries k) ≡ Some x
          → (find entries k ≡ Some x → slice_get entries (number entries k) ≡ Some (k, x))
          → slice_get (e ∷ entries) (cond (not b) (1 + number entries k) 0) ≡ Some (k, x)
      cases true t h rest = let same = name_from_test k e.0 t in let value : e.1 ≡ x = cc in rw (same, value) refl
      cases false t h rest = subst (λ i. slice_get (e ∷ entries) i ≡ Some (k, x)) (one_more (number entries k)) (rest h)

  pub number_below : (entries : List (List ℕ × X)) (k : List ℕ) (x : X) → find entries k ≡ Some x → number entries k < length entries
  number_below [] k x there = absurd (cc)
  number_below (e ∷ entries) k x there = cases (bytes_eq k e.0) there (number_below entries k x)
    where
      cases : (b : Bool) → cond b (Some e.1) (find entries k) ≡ Some x → (find entries k ≡ Some x → number entries k < length entries)
          → cond (not b) (1 + number entries k) 0 < suc (length entries)
      cases true h rest = omega arith
      cases false h rest = omega (arith, rest h)

  -- the number of a name stays where the entries are made of others of the same names
  pub number_mapped : {Y : Type 0} (entry : Y → List ℕ × X) (name : Y → List ℕ) → ((y : Y) → (entry y).0 ≡ name y) → (ys : List Y) (k : List ℕ)
      → number (map entry ys) k ≡ position_or_len (λ (y : Y). bytes_eq k (name y)) ys
  number_mapped entry name named [] k = refl
  number_mapped entry name named (y ∷ ys) k =
      rw (named y) (ap (λ n. cond (not (bytes_eq k (name y))) (1 + n) 0) (number_mapped entry name named ys k))
