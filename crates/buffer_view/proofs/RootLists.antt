-- Lists of roots, of which one is replaced, or to which one is added.
use Rattle.std.proofs.Common.{◌≡◌, ℕ, zero, suc, ◌+◌, ◌<◌, All, List, [], ◌∷◌, ◌++◌, map, length, get_or, sym, ap, subst, ◌∙◌, arith}
use Rattle.std.proofs.lemmas.List.{map-append, set-get_or}
use Rattle.std.proofs.lemmas.List.Elements.{All-cons, All-nil}
use Rattle.std.proofs.Math.ListN.{set}
use Rattle.std.proofs.Math.Seq.{map-set_same}
use Rattle.chain_owners.specs.Owners.{times}
use Rattle.chain_owners.proofs.Ownership.{times-append}
use Rattle.model_graphs.specs.Shapes.{Shape}
use Rattle.root_tiles.specs.Roots.{RootTiles, root_names, root_shape}
use Rattle.buffer_view.specs.BufferLaws.{All-first, All-rest}
use Rattle.buffer_view.specs.BufferTables.{names_of_roots}

-- ---- lists without one of their elements

abbrev pub without : {X : Type 0} → ℕ → List X → List X
without n [] = []
without zero (x ∷ xs) = xs
without (suc n) (x ∷ xs) = x ∷ without n xs

module _ {X : Type 0} (P : X → Type 0) where
  pub All-without : (n : ℕ) (xs : List X) → All P xs → All P (without n xs)
  All-without n [] all = all
  All-without zero (x ∷ xs) all = All-rest P x xs all
  All-without (suc n) (x ∷ xs) all = All-cons P x (without n xs) (All-first P x xs all) (All-without n xs (All-rest P x xs all))

  pub All-set : (n : ℕ) (xs : List X) (y : X) → All P (without n xs) → P y → All P (set xs n y)
  All-set n [] y all new = All-nil P
  All-set zero (x ∷ xs) y all new = All-cons P y xs new all
  All-set (suc n) (x ∷ xs) y all new =
      All-cons P x (set xs n y) (All-first P x (without n xs) all) (All-set n xs y (All-rest P x (without n xs) all) new)

  pub All-at : (n : ℕ) (xs : List X) (x : X) → n < length xs → get_or xs n x ≡ x → All P xs → P x
  All-at n xs x below is all = subst P is (all n x below)

-- ---- names

pub names-append : (roots more : List RootTiles) (q : ℕ) → times (names_of_roots (roots ++ more)) q ≡ times (names_of_roots roots) q + times (names_of_roots more) q
names-append [] more q = omega arith
names-append (root ∷ roots) more q =
    omega (arith, times-append (root_names root) (names_of_roots (roots ++ more)) q, times-append (root_names root) (names_of_roots roots) q, names-append roots more q)

-- a root without names adds none
pub names-blank : (roots : List RootTiles) (root : RootTiles) → root_names root ≡ [] → names_of_roots (roots ++ root ∷ []) ≡ names_of_roots roots
names-blank [] root none = ap (λ (ns : List ℕ). ns ++ []) none
names-blank (first ∷ roots) root none = ap (λ (ns : List ℕ). root_names first ++ ns) (names-blank roots root none)

pub names-without : (n : ℕ) (roots : List RootTiles) (root : RootTiles) → n < length roots → get_or roots n root ≡ root → (q : ℕ)
    → times (names_of_roots roots) q ≡ times (root_names root) q + times (names_of_roots (without n roots)) q
names-without n [] root below is q = absurd (omega (arith, below))
names-without zero (first ∷ roots) root below is q =
    ap (λ (r : RootTiles). times (root_names r ++ names_of_roots roots) q) is ∙ times-append (root_names root) (names_of_roots roots) q
names-without (suc n) (first ∷ roots) root below is q =
    omega (
      arith,
      times-append (root_names first) (names_of_roots roots) q,
      times-append (root_names first) (names_of_roots (without n roots)) q,
      names-without n roots root (omega (arith, below)) is q,
    )

pub names-set : (n : ℕ) (roots : List RootTiles) (new : RootTiles) → n < length roots → (q : ℕ)
    → times (names_of_roots (set roots n new)) q ≡ times (root_names new) q + times (names_of_roots (without n roots)) q
names-set n [] new below q = absurd (omega (arith, below))
names-set zero (first ∷ roots) new below q = times-append (root_names new) (names_of_roots roots) q
names-set (suc n) (first ∷ roots) new below q =
    omega (
      arith,
      times-append (root_names first) (names_of_roots (set roots n new)) q,
      times-append (root_names first) (names_of_roots (without n roots)) q,
      names-set n roots new (omega (arith, below)) q,
    )

-- ---- shapes

-- the shapes of entries
abbrev pub entry_shape : List ℕ × Shape → Shape
entry_shape entry = entry.1

pub shapes-set : (n : ℕ) (roots : List RootTiles) (root new : RootTiles) → get_or roots n root ≡ root → root_shape new ≡ root_shape root
    → map root_shape (set roots n new) ≡ map root_shape roots
shapes-set n roots root new is same = map-set_same root_shape roots n new root (same ∙ ap root_shape (sym is))

pub shapes-added : (roots : List RootTiles) (entries : List (List ℕ × Shape)) (root : RootTiles) (name : List ℕ) (shape : Shape)
    → map root_shape roots ≡ map entry_shape entries → root_shape root ≡ shape
    → map root_shape (roots ++ root ∷ []) ≡ map entry_shape (entries ++ (name, shape) ∷ [])
shapes-added roots entries root name shape same is =
    map-append root_shape roots (root ∷ []) ∙ ap (λ (ss : List Shape). ss ++ root_shape root ∷ []) same
    ∙ ap (λ (s : Shape). map entry_shape entries ++ s ∷ []) is ∙ sym (map-append entry_shape entries ((name, shape) ∷ []))

pub set-same : (n : ℕ) (roots : List RootTiles) (root new : RootTiles) → get_or roots n root ≡ root → new ≡ root → set roots n new ≡ roots
set-same n roots root new is same = ap (λ (r : RootTiles). set roots n r) (same ∙ sym is) ∙ set-get_or roots n root
