-- Tests that each element of a list passes.
use Rattle.std.proofs.Common.{◌≡◌, Bool, true, false, not, ◌&&◌, List, [], ◌∷◌, refl}
use Rattle.std.specs.List.{list_all}

pub not_passed : (test : Bool) → not test ≡ true → test ≡ false
not_passed true h = absurd (cc)
not_passed false h = refl

pub and_first : (a b : Bool) → (a && b) ≡ true → a ≡ true
and_first true b h = refl
and_first false b h = h

pub and_second : (a b : Bool) → (a && b) ≡ true → b ≡ true
and_second true b h = h
and_second false b h = absurd (cc)

pub and_both : (a b : Bool) → a ≡ true → b ≡ true → (a && b) ≡ true
and_both true b ha hb = hb
and_both false b ha hb = ha

-- what passes one test passes another
pub list_all-other : {X : Type 0} (p q : X → Bool) → ((x : X) → p x ≡ true → q x ≡ true) → (xs : List X) → list_all p xs ≡ true → list_all q xs ≡ true
list_all-other p q other [] h = refl
list_all-other p q other (x ∷ xs) h =
    and_both _ _ (other x (and_first _ _ h)) (list_all-other p q other xs (and_second _ _ h))
