-- Lists that begin with others.
use Rattle.std.proofs.Common.{◌≡◌, ◌⊎◌, inl, inr, ⊎_elim, suc, ◌≤◌, List, [], ◌∷◌, ◌++◌, length, drop, refl, ap, sym, ◌∙◌, subst, arith, append_assoc, length-append}
use Rattle.std.specs.Prelude.{All}
use Rattle.std.proofs.lemmas.List.{take-append-drop, append-nil}
use Rattle.std.proofs.Math.Seq.{take-append_seam}
use mathlib.Core.List.{IsPrefix}
use Rattle.scene_hub.specs.SceneLog.{Begins}

pub begins-append : {A : Type 0} (xs ys : List A) → Begins xs (xs ++ ys)
begins-append xs ys = take-append_seam xs ys

pub begins_same : {A : Type 0} (xs : List A) → Begins xs xs
begins_same xs = subst (λ zs. Begins xs zs) (append-nil xs) (begins-append xs [])

pub begins_prefix : {A : Type 0} (xs ys : List A) → IsPrefix xs ys → Begins xs ys
begins_prefix xs ys p = subst (λ zs. Begins xs zs) p.1 (begins-append xs p.0)

-- the rest, after the list that it begins with
pub begins_rest : {A : Type 0} (xs ys : List A) → Begins xs ys → xs ++ drop (length xs) ys ≡ ys
begins_rest xs ys b = ap (λ zs. zs ++ drop (length xs) ys) (sym b) ∙ take-append-drop (length xs) ys

pub begins_length : {A : Type 0} (xs ys : List A) → Begins xs ys → length xs ≤ length ys
begins_length xs ys b = omega (arith, length-append xs (drop (length xs) ys), ap length (begins_rest xs ys b))

pub begins_trans : {A : Type 0} (xs ys zs : List A) → Begins xs ys → Begins ys zs → Begins xs zs
begins_trans xs ys zs b c =
    let r = drop (length xs) ys in
    let q = drop (length ys) zs in
    let e : xs ++ (r ++ q) ≡ zs = sym (append_assoc xs r q) ∙ (ap (λ ws. ws ++ q) (begins_rest xs ys b) ∙ begins_rest ys zs c) in
    subst (λ ws. Begins xs ws) e (begins-append xs (r ++ q))

prefix_shorter : {A : Type 0} (xs ys zs : List A) → IsPrefix xs zs → IsPrefix ys zs → length xs ≤ length ys → IsPrefix xs ys
prefix_shorter [] ys zs p q le = (ys, refl)
prefix_shorter (x ∷ xs) [] zs p q le = absurd (omega arith)
prefix_shorter (x ∷ xs) (y ∷ ys) [] p q le = absurd (cc (p.1))
prefix_shorter (x ∷ xs) (y ∷ ys) (z ∷ zs) p q le =
    let heads : x ≡ y = cc (p.1, q.1) in
    let rest = prefix_shorter xs ys zs (p.0, cc (p.1)) (q.0, cc (q.1)) (omega arith) in
    (rest.0, cc (heads, rest.1))

-- of two lists that begin one list the shorter begins the longer
pub begins_shorter : {A : Type 0} (xs ys zs : List A) → Begins xs zs → Begins ys zs → length xs ≤ length ys → Begins xs ys
begins_shorter xs ys zs b c le = begins_prefix xs ys (prefix_shorter xs ys zs (drop (length xs) zs, begins_rest xs zs b) (drop (length ys) zs, begins_rest ys zs c) le)

-- what holds of each item of a list holds of each after its first ones
pub all_rest : {A : Type 0} (P : A → Type 0) (xs ys : List A) → All P (xs ++ ys) → All P ys
all_rest P [] ys all = all
all_rest P (x ∷ xs) ys all = all_rest P xs ys (λ k d lt. all (suc k) d (omega arith))

pub swapped : {A B : Type 0} → A ⊎ B → B ⊎ A
swapped e = ⊎_elim (λ a. inr a) (λ b. inl b) e
