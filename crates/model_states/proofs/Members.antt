-- Elements of lists at some position.
use Rattle.std.proofs.Common.{◌≡◌, ℕ, zero, suc, ◌+◌, ◌<◌, ◌≤◌, ◌⊎◌, Bool, true, false, cond, List, [], ◌∷◌, ◌++◌, map, filter, length, get_or, inl, inr, refl, sym, ap, ◌∙◌, subst, arith, Some}
use Rattle.std.specs.Prelude.{slice_get}
use Rattle.std.specs.List.{enumerate_from, flat_map}
use Rattle.std.proofs.lemmas.Option.{same_Some}

-- an element of a list, at some position
abbrev pub Member : {X : Type 0} → X → List X → Type 0
Member x xs = (k : ℕ) × (slice_get xs k ≡ Some x)

pub later : {X : Type 0} (x first : X) (xs : List X) → Member x xs → Member x (first ∷ xs)
later x first xs at = (suc at.0, at.1)

pub get-left : {X : Type 0} (xs ys : List X) (k : ℕ) (x : X) → slice_get xs k ≡ Some x → slice_get (xs ++ ys) k ≡ Some x
get-left [] ys k x found = absurd (cc)
get-left (first ∷ xs) ys zero x found = found
get-left (first ∷ xs) ys (suc k) x found = get-left xs ys k x found

pub get-right : {X : Type 0} (xs ys : List X) (k : ℕ) (x : X) → slice_get ys k ≡ Some x → slice_get (xs ++ ys) (length xs + k) ≡ Some x
get-right [] ys k x found = ap (slice_get ys) (let e : 0 + k ≡ k = omega arith in e) ∙ found
get-right (first ∷ xs) ys k x found = ap (slice_get (first ∷ xs ++ ys)) (let e : length (first ∷ xs) + k ≡ suc (length xs + k) = omega arith in e) ∙ get-right xs ys k x found

-- an element of two lists is at its position in the first, or in the second
pub get-split : {X : Type 0} (xs ys : List X) (j : ℕ) (x : X) → slice_get (xs ++ ys) j ≡ Some x → (slice_get xs j ≡ Some x) ⊎ ((length xs ≤ j) × Member x ys)
get-split [] ys j x found = inr (omega arith, (j, found))
get-split (first ∷ xs) ys zero x found = inl found
get-split (first ∷ xs) ys (suc j) x found = elim (get-split xs ys j x found) [
  | inl here ↦ inl here
  | inr past ↦ inr (omega (arith, past.0), past.1)
]

pub member-left : {X : Type 0} (x : X) (xs ys : List X) → Member x xs → Member x (xs ++ ys)
member-left x xs ys at = (at.0, get-left xs ys at.0 x at.1)

pub member-right : {X : Type 0} (x : X) (xs ys : List X) → Member x ys → Member x (xs ++ ys)
member-right x xs ys at = (length xs + at.0, get-right xs ys at.0 x at.1)

pub get-map : {X Y : Type 0} (f : X → Y) (xs : List X) (k : ℕ) (x : X) → slice_get xs k ≡ Some x → slice_get (map f xs) k ≡ Some (f x)
get-map f [] k x found = absurd (cc)
get-map f (first ∷ xs) zero x found = ap Some (ap f (same_Some first x found))
get-map f (first ∷ xs) (suc k) x found = get-map f xs k x found

pub member-map : {X Y : Type 0} (f : X → Y) (x : X) (xs : List X) → Member x xs → Member (f x) (map f xs)
member-map f x xs at = (at.0, get-map f xs at.0 x at.1)

-- what is in a mapped list is made of something
pub made_of : {X Y : Type 0} (f : X → Y) (xs : List X) (k : ℕ) (y : Y) → slice_get (map f xs) k ≡ Some y → (x : X) × (y ≡ f x) × Member x xs
made_of f [] k y found = absurd (cc)
made_of f (first ∷ xs) zero y found = (first, sym (same_Some (f first) y found), (0, refl))
made_of f (first ∷ xs) (suc k) y found = let rest = made_of f xs k y found in (rest.0, rest.1, later rest.0 first xs rest.2)

pub member-filter : {X : Type 0} (test : X → Bool) (x : X) (xs : List X) (k : ℕ) → slice_get xs k ≡ Some x → test x ≡ true → Member x (filter test xs)
member-filter test x [] k found passes = absurd (cc)
member-filter {X} test x (first ∷ xs) zero found passes =
    let is : first ≡ x = same_Some first x found in
    let kept : filter test (first ∷ xs) ≡ first ∷ filter test xs = ap (λ b. cond b (first ∷ filter test xs) (filter test xs)) (ap test is ∙ passes) in
    subst (Member x) (sym kept) (0, ap Some is)
member-filter {X} test x (first ∷ xs) (suc k) found passes = by (test first) (member-filter test x xs k found passes)
  where
    by : (b : Bool) → Member x (filter test xs) → Member x (cond b (first ∷ filter test xs) (filter test xs))
    by true at = later x first (filter test xs) at
    by false at = at

pub member-flat_map : {X Y : Type 0} (f : X → List Y) (xs : List X) (k : ℕ) (x : X) (y : Y) → slice_get xs k ≡ Some x → Member y (f x) → Member y (flat_map f xs)
member-flat_map f [] k x y found at = absurd (cc)
member-flat_map f (first ∷ xs) zero x y found at =
    let is : first ≡ x = same_Some first x found in
    member-left y (f first) (flat_map f xs) (subst (λ x. Member y (f x)) (sym is) at)
member-flat_map f (first ∷ xs) (suc k) x y found at = member-right y (f first) (flat_map f xs) (member-flat_map f xs k x y found at)

pub get-enumerated : {X : Type 0} (xs : List X) (n i : ℕ) (d : X) → i < length xs → slice_get (enumerate_from n xs) i ≡ Some (n + i, get_or xs i d)
get-enumerated [] n i d less = absurd (omega (arith, less))
get-enumerated (x ∷ xs) n zero d less = ap (λ k. Some (k, x)) (let e : n ≡ n + 0 = omega arith in e)
get-enumerated (x ∷ xs) n (suc i) d less = get-enumerated xs (n + 1) i d (omega (arith, less)) ∙ ap (λ k. Some (k, get_or xs i d)) (let e : n + 1 + i ≡ n + suc i = omega arith in e)
