-- What is asked of a node is in its box.
use Rattle.std.proofs.Common.{◌≡◌, ℕ, suc, ◌+◌, ◌<◌, ◌≤◌, Bool, true, false, cond, eqb, List, [], ◌∷◌, ◌++◌, map, filter, length, get_or, refl, ap, ◌∙◌, subst, arith}
use Rattle.std.specs.List.{AllByRecursion, enumerate_from, flat_map}
use Rattle.std.proofs.lemmas.Bool.Decides.{nat_tests}
use Rattle.std.proofs.lemmas.List.{get_or-map}
use Rattle.plane_rect.specs.Rectangle.{Rectangle, Includes, empty, meet}
use Rattle.plane_rect.specs.Tile.{Tile, tile_square}
use Rattle.model_graphs.specs.Laws.{IsBoxed}
use Rattle.model_graphs.specs.Meanings.{Meanings}
use Rattle.model_graphs.specs.Node.{Step, FromBuffer, Apply}
use Rattle.model_graphs.specs.Shapes.{Shape, no_shape}
use Rattle.model_states.specs.Need.{Asked, asked_by, asked_by_part, asked_of}
use Rattle.model_states.specs.Valid.{input_boxes}

-- ---- lists

pub all-append : {X : Type 0} (P : X → Type 0) (xs ys : List X) → AllByRecursion P xs → AllByRecursion P ys → AllByRecursion P (xs ++ ys)
all-append P [] ys p q = q
all-append P (x ∷ xs) ys p q = (p.0, all-append P xs ys p.1 q)

pub all-flat_map : {X Y : Type 0} (P : Y → Type 0) (f : X → List Y) (xs : List X) → ((x : X) → AllByRecursion P (f x)) → AllByRecursion P (flat_map f xs)
all-flat_map P f [] each = tt
all-flat_map P f (x ∷ xs) each = all-append P (f x) (flat_map f xs) (each x) (all-flat_map P f xs each)

-- ---- what is asked

-- what is asked of a node is in its box
abbrev pub InsideBox : List Shape → Asked → Type 0
InsideBox shapes asked = Includes (get_or shapes asked.0 no_shape).box asked.1

pub asked_inside : (shapes : List Shape) (node : ℕ) (asked : List Asked) → AllByRecursion (InsideBox shapes) asked → AllByRecursion (Includes (get_or shapes node no_shape).box) (asked_of asked node)
asked_inside shapes node [] all = tt
asked_inside shapes node (a ∷ asked) all = by (eqb a.0 node) refl (asked_inside shapes node asked all.1)
  where
    rest : List Asked
    rest = filter (λ (a : Asked). eqb a.0 node) asked

    by : (b : Bool) → eqb a.0 node ≡ b → AllByRecursion (Includes (get_or shapes node no_shape).box) (map (λ (a : Asked). a.1) rest) →
        AllByRecursion (Includes (get_or shapes node no_shape).box) (map (λ (a : Asked). a.1) (cond b (a ∷ rest) rest))
    by true e others =
        let here : a.0 ≡ node = grind (arith, nat_tests) in
        (subst (λ n. Includes (get_or shapes n no_shape).box a.1) here all.0, others)
    by false e others = others

module _ {Op : Type 0} (meanings : Meanings Op) (boxed : IsBoxed meanings) where
  -- what a part asks of the inputs from one on
  inputs_asked : (shapes : List Shape) (operation : Op) (all rest : List ℕ) (part : Rectangle) (n : ℕ) → ((i : ℕ) → i < length rest → get_or all (n + i) 0 ≡ get_or rest i 0) → n + length rest ≤ length all →
      AllByRecursion (InsideBox shapes) (map (λ (input : ℕ × ℕ). (input.1, meanings.required operation (input_boxes shapes all) input.0 part)) (enumerate_from n rest))
  inputs_asked shapes operation all [] part n same few = tt
  inputs_asked shapes operation all (input ∷ rest) part n same few =
      let start : n ≡ n + 0 = omega arith in
      let here : get_or all n 0 ≡ input = ap (λ k. get_or all k 0) start ∙ same 0 (omega arith) in
      let box : get_or (input_boxes shapes all) n empty ≡ (get_or shapes input no_shape).box =
      get_or-map (λ i. (get_or shapes i no_shape).box) all n 0 empty (omega (arith, few)) ∙ ap (λ i. (get_or shapes i no_shape).box) here in (
        subst (λ r. Includes r (meanings.required operation (input_boxes shapes all) n part)) box (boxed.required operation (input_boxes shapes all) n part),
        inputs_asked shapes operation all rest part (n + 1)
            (λ i less. let next : n + 1 + i ≡ n + suc i = omega arith in ap (λ k. get_or all k 0) next ∙ same (suc i) (omega arith))
            (omega (arith, few)),
      )

  pub asked_by_inside : (shapes : List Shape) (step : Step Op) (box : Rectangle) (ts : List Tile) → AllByRecursion (InsideBox shapes) (asked_by meanings shapes step box ts)
  asked_by_inside shapes (FromBuffer buffer) box ts = tt
  asked_by_inside shapes (Apply operation inputs) box ts =
      all-flat_map (InsideBox shapes) (λ t. asked_by_part meanings shapes operation inputs (meet (tile_square t) box)) ts
      (λ t. inputs_asked shapes operation inputs inputs (meet (tile_square t) box) 0 (λ i less. ap (λ k. get_or inputs k 0) (let e : 0 + i ≡ i = omega arith in e)) (omega arith))
