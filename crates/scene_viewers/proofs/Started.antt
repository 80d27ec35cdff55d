-- Viewers of a hub that was just started.
use Rattle.std.proofs.Common.{◌≡◌, ◌<◌, ℕ, List, [], ◌∷◌, length, map, sym, subst, arith, slice_index_or}
use Rattle.std.specs.Prelude.{All}
use Rattle.std.proofs.lemmas.List.{get_or-map, length-map}

-- what holds of each made item holds of each of the list that is made
pub all-made : {X Y : Type 0} (xs : List X) (ys : List Y) (f : X → Y) (P : X → Type 0) (Q : Y → Type 0) → ((x : X) → P x → Q (f x)) → ys ≡ map f xs → All P xs → All Q ys
all-made {X} {Y} xs ys f P Q of is all = subst (All Q) (sym is) (each xs all)
  where
    each : (xs : List X) → All P xs → All Q (map f xs)
    each [] all k d lt = absurd (omega (arith, lt))
    each (x ∷ xs) all k d lt =
        let within : k < length (x ∷ xs) = omega (arith, length-map (x ∷ xs) f, lt) in
        subst Q (sym (get_or-map f (x ∷ xs) k x d within)) (of (slice_index_or (x ∷ xs) k x) (all k x within))
