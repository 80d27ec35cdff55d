-- Tiles that were made ahead, and lists of which some elements are in others.
use Rattle.std.proofs.Common.{◌≡◌, ℕ, zero, suc, ◌+◌, ◌≤◌, Bool, true, false, cond, not, List, [], ◌∷◌, ◌++◌, map, filter, take, drop, length, Option, Some, None, inl, inr, refl, sym, ap, ◌∙◌, subst, arith}
use Rattle.std.specs.Prelude.{IfSome, is_some, slice_get}
use Rattle.std.specs.List.{AllByRecursion, IsDistinct}
use Rattle.std.proofs.lemmas.Option.{same_Some}
use Rattle.model_graphs.specs.declared.node.NodeFact.{NodeFact}
use Rattle.model_graphs.specs.Evaluation.{Buffers}
use Rattle.model_graphs.specs.Facts.{specs_of}
use Rattle.model_graphs.specs.Meanings.{Meanings}
use Rattle.model_graphs.specs.Permits.{Spent}
use Rattle.model_states.specs.Cache.{Pair, find_pair, itself, pair_of, recent, recent_of, same_pair, within, without_pair}
use Rattle.model_states.specs.Need.{Needed}
use Rattle.model_states.proofs.CacheLaws.{found_is, same_pair-true}
use Rattle.node_tiles.specs.Stated.{bytes_at, length_at}
use Rattle.strip_renders.specs.Ahead.{AreAhead, AreMadeOf, IsAbsent, IsMade, IsMadeOf, IsPermitted, IsRefusedAt, IsSublist, IsTaken, MadeTiles, needed_in, permits_of}

-- ---- permits

pub permits-few : (made : Option (List ℕ)) → permits_of made ≤ 1
permits-few None = omega arith
permits-few (Some bytes) = omega arith

-- a call that spent a permit was refused later
pub refused-after : (old new : ℕ) (made : Option (List ℕ)) → Spent (old + permits_of made) new 1 → IsRefusedAt old new made
refused-after old new made spent = (omega (arith, spent, permits-few made), omega (arith, spent))

-- a call that spent none was refused
pub refused-before : (old new : ℕ) (made : Option (List ℕ)) → new ≡ old → IsRefusedAt old new made
refused-before old new made same = (omega (arith, same), omega (arith, same, permits-few made))

-- one that was found wasn't made ahead
pub found-none : {Op : Type 0} (nodes : List (NodeFact Op)) (pairs : List Pair) (needed : Needed) (made : Option (List ℕ)) → IsMade nodes pairs needed made
    → is_some (find_pair itself pairs (pair_of (specs_of nodes) needed)) ≡ true → permits_of made ≡ 0
found-none nodes pairs needed None is there = refl
found-none nodes pairs needed (Some bytes) is there =
    let wrong : false ≡ true = sym (ap is_some is.absent) ∙ there in
    absurd (cc wrong)

-- no look-up gives a permit back
pub permitted-few : (old new : ℕ) (made : Option (List ℕ)) (found : Bool) → IsPermitted old new made found → new ≤ old
permitted-few old new made true same = omega (arith, same.0)
permitted-few old new made false spent = omega (arith, spent, permits-few made)

pub permitted-refused : (old new : ℕ) (made : Option (List ℕ)) (found : Bool) → IsPermitted old new made found → IsRefusedAt old new made
permitted-refused old new made true same = (omega (arith, same.0), omega (arith, same.0, same.1))
permitted-refused old new made false spent = refused-after old new made spent

-- ---- sublists

module _ {X : Type 0} where
  pub sub-past : (xs ys : List X) (y : X) → IsSublist xs ys → IsSublist xs (y ∷ ys)
  sub-past [] ys y is = tt
  sub-past (x ∷ xs) ys y is = inr is

  pub sub-rest : (x : X) (xs ys : List X) → IsSublist (x ∷ xs) ys → IsSublist xs ys
  sub-rest x xs [] is = absurd is
  sub-rest x xs (y ∷ ys) (inl both) = sub-past xs ys y both.1
  sub-rest x xs (y ∷ ys) (inr is) = sub-past xs ys y (sub-rest x xs ys is)

  pub sub-fewer : (xs ys : List X) → IsSublist xs ys → length xs ≤ length ys
  sub-fewer [] ys is = omega arith
  sub-fewer (x ∷ xs) [] is = absurd is
  sub-fewer (x ∷ xs) (y ∷ ys) (inl both) = let few = sub-fewer xs ys both.1 in omega (arith, few)
  sub-fewer (x ∷ xs) (y ∷ ys) (inr is) = let few = sub-fewer (x ∷ xs) ys is in omega (arith, few)

  pub sub-before : (xs ys zs : List X) → IsSublist xs ys → IsSublist xs (ys ++ zs)
  sub-before [] ys zs is = tt
  sub-before (x ∷ xs) [] zs is = absurd is
  sub-before (x ∷ xs) (y ∷ ys) zs (inl both) = inl (both.0, sub-before xs ys zs both.1)
  sub-before (x ∷ xs) (y ∷ ys) zs (inr is) = inr (sub-before (x ∷ xs) ys zs is)

  pub sub-both : (xs ys : List X) (z : X) → IsSublist xs ys → IsSublist (xs ++ z ∷ []) (ys ++ z ∷ [])
  sub-both [] [] z is = inl (refl, tt)
  sub-both [] (y ∷ ys) z is = inr (sub-both [] ys z tt)
  sub-both (x ∷ xs) [] z is = absurd is
  sub-both (x ∷ xs) (y ∷ ys) z (inl both) = inl (both.0, sub-both xs ys z both.1)
  sub-both (x ∷ xs) (y ∷ ys) z (inr is) = inr (sub-both (x ∷ xs) ys z is)

  sub-all : (P : X → Type 0) (xs ys : List X) → AllByRecursion P ys → IsSublist xs ys → AllByRecursion P xs
  sub-all P [] ys all is = tt
  sub-all P (x ∷ xs) [] all is = absurd is
  sub-all P (x ∷ xs) (y ∷ ys) all (inl both) = (subst P (sym both.0) all.0, sub-all P xs ys all.1 both.1)
  sub-all P (x ∷ xs) (y ∷ ys) all (inr is) = sub-all P (x ∷ xs) ys all.1 is

  -- nothing is among nothing
  pub sub-none : (xs : List X) → IsSublist xs [] → xs ≡ []
  sub-none [] is = refl
  sub-none (x ∷ xs) is = absurd is

  pub all-also : (P Q : X → Type 0) (xs : List X) → ((x : X) → P x → Q x) → AllByRecursion P xs → AllByRecursion Q xs
  all-also P Q [] to all = tt
  all-also P Q (x ∷ xs) to all = (to x all.0, all-also P Q xs to all.1)

  pub all-two : (P Q R : X → Type 0) (xs : List X) → ((x : X) → P x → Q x → R x) → AllByRecursion P xs → AllByRecursion Q xs → AllByRecursion R xs
  all-two P Q R [] to p q = tt
  all-two P Q R (x ∷ xs) to p q = (to x p.0 q.0, all-two P Q R xs to p.1 q.1)

  pub all-last : (P : X → Type 0) (xs : List X) (x : X) → AllByRecursion P xs → P x → AllByRecursion P (xs ++ x ∷ [])
  all-last P [] x all is = (is, tt)
  all-last P (y ∷ xs) x all is = (all.0, all-last P xs x all.1 is)

  -- what is left from an element on
  pub drop-at : (xs : List X) (i : ℕ) (x : X) → slice_get xs i ≡ Some x → drop i xs ≡ x ∷ drop (suc i) xs
  drop-at [] i x found = absurd (cc found)
  drop-at (y ∷ xs) zero x found = ap (λ (z : X). z ∷ xs) (same_Some y x found)
  drop-at (y ∷ xs) (suc i) x found = drop-at xs i x found

pub all-mapped : {X Y : Type 0} (P : Y → Type 0) (f : X → Y) (xs : List X) → AllByRecursion P (map f xs) → AllByRecursion (λ x. P (f x)) xs
all-mapped P f [] all = tt
all-mapped P f (x ∷ xs) all = (all.0, all-mapped P f xs all.1)

pub all-under : {X Y : Type 0} (P : Y → Type 0) (f : X → Y) (xs : List X) → AllByRecursion (λ x. P (f x)) xs → AllByRecursion P (map f xs)
all-under P f [] all = tt
all-under P f (x ∷ xs) all = (all.0, all-under P f xs all.1)

-- keys of which none is equal to one after it: none, one more, and so the first and the others
module _ {X K : Type 0} (e : K → K → Bool) (f : X → K) where
  pub distinct-none : IsDistinct e (map f [])
  unfolding IsDistinct
  distinct-none = tt

  pub distinct-more : (x : X) (xs : List X) → AllByRecursion (λ (y : X). e (f x) (f y) ≡ false) xs → IsDistinct e (map f xs) → IsDistinct e (map f (x ∷ xs))
  unfolding IsDistinct
  distinct-more x xs apart others = (all-under (λ k. e (f x) k ≡ false) f xs apart, others)

  pub distinct-apart : (x : X) (xs : List X) → IsDistinct e (map f (x ∷ xs)) → AllByRecursion (λ (y : X). e (f x) (f y) ≡ false) xs
  unfolding IsDistinct
  distinct-apart x xs apart = all-mapped (λ k. e (f x) k ≡ false) f xs apart.0

  pub distinct-others : (x : X) (xs : List X) → IsDistinct e (map f (x ∷ xs)) → IsDistinct e (map f xs)
  unfolding IsDistinct
  distinct-others x xs apart = apart.1

-- ---- pairs that are not cached

none-more : (list : List Pair) (pair other : Pair) → same_pair pair other ≡ false → find_pair itself list pair ≡ None → find_pair itself (other ∷ list) pair ≡ None
none-more list pair other apart none = rw apart none

none-filter : (test : Pair → Bool) (list : List Pair) (pair : Pair) → find_pair itself list pair ≡ None → find_pair itself (filter test list) pair ≡ None
none-filter test [] pair none = refl
none-filter test (p ∷ list) pair none = by (same_pair pair p) refl none (none-filter test list pair)
  where
    kept : (b : Bool) → same_pair pair p ≡ false → find_pair itself (filter test list) pair ≡ None → find_pair itself (cond b (p ∷ filter test list) (filter test list)) pair ≡ None
    kept true apart none = none-more (filter test list) pair p apart none
    kept false apart none = none

    by : (b : Bool) → same_pair pair p ≡ b → cond b (Some p) (find_pair itself list pair) ≡ None → (find_pair itself list pair ≡ None → find_pair itself (filter test list) pair ≡ None)
        → find_pair itself (filter test (p ∷ list)) pair ≡ None
    by true same none rest = absurd (cc none)
    by false apart none rest = kept (test p) apart (rest none)

none-take : (n : ℕ) (list : List Pair) (pair : Pair) → find_pair itself list pair ≡ None → find_pair itself (take n list) pair ≡ None
none-take zero list pair none = refl
none-take (suc n) [] pair none = refl
none-take (suc n) (p ∷ list) pair none = by (same_pair pair p) refl none (none-take n list pair)
  where
    by : (b : Bool) → same_pair pair p ≡ b → cond b (Some p) (find_pair itself list pair) ≡ None → (find_pair itself list pair ≡ None → find_pair itself (take n list) pair ≡ None)
        → find_pair itself (p ∷ take n list) pair ≡ None
    by true same none rest = absurd (cc none)
    by false apart none rest = none-more (take n list) pair p apart (rest none)

none-within : (capacity : Option ℕ) (list : List Pair) (pair : Pair) → find_pair itself list pair ≡ None → find_pair itself (within capacity list) pair ≡ None
none-within None list pair none = none
none-within (Some n) list pair none = none-take n list pair none

-- a pair that isn't there still isn't when another one was looked up
pub none-recent : (capacity : Option ℕ) (list : List Pair) (other pair : Pair) → same_pair pair other ≡ false → find_pair itself list pair ≡ None
    → find_pair itself (recent itself itself capacity list other) pair ≡ None
none-recent capacity list other pair apart none = by (find_pair itself list other) refl
  where
    by : (o : Option Pair) → find_pair itself list other ≡ o → find_pair itself (recent_of itself itself capacity list other o) pair ≡ None
    by None absent = none-within capacity (other ∷ list) pair (none-more list pair other apart none)
    by (Some x) found =
        let same : x ≡ other = found_is itself list other x found in
        subst (λ (p : Pair). find_pair itself (p ∷ without_pair itself list other) pair ≡ None) (sym same)
        (none-more (without_pair itself list other) pair other apart (none-filter (λ (p : Pair). not (same_pair other p)) list pair none))

same_pair-turned : (a b : Pair) → same_pair a b ≡ false → same_pair b a ≡ false
same_pair-turned a b apart = by (same_pair b a) refl
  where
    by : (t : Bool) → same_pair b a ≡ t → t ≡ false
    by false e = refl
    by true e =
        let same : b ≡ a = same_pair-true b a e in
        let own : same_pair b b ≡ true = ap (λ (p : Pair). same_pair b p) same ∙ e in
        let wrong : same_pair a b ≡ true = ap (λ (p : Pair). same_pair p b) (sym same) ∙ own in
        absurd (cc (wrong, apart))

-- ---- a tile is taken at its turn

module _ (needed : Needed) (rest : List Needed) (old new : MadeTiles) where
  pub taken-among : (made : Option (List ℕ)) → IsTaken old new needed made → IsSublist (needed_in old) (needed ∷ rest) → IsSublist (needed_in new) rest
  taken-among (Some bytes) taken is = from (subst (λ (list : MadeTiles). IsSublist (needed_in list) (needed ∷ rest)) taken is)
    where
      from : IsSublist (needed ∷ needed_in new) (needed ∷ rest) → IsSublist (needed_in new) rest
      from (inl both) = both.1
      from (inr is) = sub-rest needed (needed_in new) rest is
  taken-among None taken is = subst (λ (list : MadeTiles). IsSublist (needed_in list) rest) (sym taken.0) (from old refl is)
    where
      from : (list : MadeTiles) → old ≡ list → IsSublist (needed_in list) (needed ∷ rest) → IsSublist (needed_in list) rest
      from [] same is = tt
      from (m ∷ list) same (inl both) = absurd (taken.1 m.1 list (same ∙ ap (λ (n : Needed). (n, m.1) ∷ list) both.0))
      from (m ∷ list) same (inr is) = is

  pub taken-all : (P : Needed × List ℕ → Type 0) (made : Option (List ℕ)) → IsTaken old new needed made → AllByRecursion P old → AllByRecursion P new
  taken-all P (Some bytes) taken all = (subst (λ (list : MadeTiles). AllByRecursion P list) taken all).1
  taken-all P None taken all = subst (λ (list : MadeTiles). AllByRecursion P list) (sym taken.0) all

  pub taken-own : (P : Needed × List ℕ → Type 0) (made : Option (List ℕ)) → IsTaken old new needed made → AllByRecursion P old → IfSome made (λ tile. P (needed, tile))
  taken-own P (Some bytes) taken all = (subst (λ (list : MadeTiles). AllByRecursion P list) taken all).0
  taken-own P None taken all = tt

  pub taken-count : (made : Option (List ℕ)) → IsTaken old new needed made → length old ≡ length new + permits_of made
  taken-count (Some bytes) taken = let count = ap length taken in omega (arith, count)
  taken-count None taken = let count = ap length taken.0 in omega (arith, count)

module _ {Op : Type 0} (nodes : List (NodeFact Op)) (needed : Needed) (rest : List Needed) (old new : MadeTiles) (made : Option (List ℕ)) (taken : IsTaken old new needed made) where
  pub taken-made : (pairs : List Pair) (first : List Needed) → AreAhead nodes pairs first old → IsMade nodes pairs needed made
  taken-made pairs first are = record {
    absent = taken-own needed rest old new (λ (m : Needed × List ℕ). IsAbsent nodes pairs m.0) made taken are.absent;
    length = taken-own needed rest old new (λ (m : Needed × List ℕ). length m.1 ≡ length_at nodes m.0.0) made taken are.lengths;
  }

  pub taken-made_of : (meanings : Meanings Op) (images : Buffers) → AreMadeOf meanings nodes images old → IsMadeOf meanings nodes images needed made
  taken-made_of meanings images are = taken-own needed rest old new (λ (m : Needed × List ℕ). m.1 ≡ bytes_at meanings nodes images m.0.0 m.0.1) made taken are

  -- when its pair was looked up the others still wait
  pub ahead-more : (capacity : Option ℕ) (pairs after : List Pair) → AllByRecursion (λ (other : Needed). same_pair (pair_of (specs_of nodes) needed) (pair_of (specs_of nodes) other) ≡ false) rest
      → after ≡ recent itself itself capacity pairs (pair_of (specs_of nodes) needed) → AreAhead nodes pairs (needed ∷ rest) old → AreAhead nodes after rest new
  ahead-more capacity pairs after apart looked are =
      let among = taken-among needed rest old new made taken are.among in
      let others = all-mapped (λ (other : Needed). same_pair (pair_of (specs_of nodes) needed) (pair_of (specs_of nodes) other) ≡ false) (λ (m : Needed × List ℕ). m.0) new
      (sub-all (λ (other : Needed). same_pair (pair_of (specs_of nodes) needed) (pair_of (specs_of nodes) other) ≡ false) (needed_in new) rest apart among) in
      record {
        among = among;
        absent = all-two (λ (m : Needed × List ℕ). same_pair (pair_of (specs_of nodes) needed) (pair_of (specs_of nodes) m.0) ≡ false) (λ (m : Needed × List ℕ). IsAbsent nodes pairs m.0)
            (λ (m : Needed × List ℕ). IsAbsent nodes after m.0) new
            (λ m other none. subst (λ (list : List Pair). IsAbsent nodes list m.0) (sym looked)
            (none-recent capacity pairs (pair_of (specs_of nodes) needed) (pair_of (specs_of nodes) m.0)
            (same_pair-turned (pair_of (specs_of nodes) needed) (pair_of (specs_of nodes) m.0) other) none))
            others (taken-all needed rest old new (λ (m : Needed × List ℕ). IsAbsent nodes pairs m.0) made taken are.absent);
        lengths = taken-all needed rest old new (λ (m : Needed × List ℕ). length m.1 ≡ length_at nodes m.0.0) made taken are.lengths;
      }
