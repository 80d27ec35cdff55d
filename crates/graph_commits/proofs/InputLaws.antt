-- The inputs of a node, one after another, and a node at the position where it is looked for first.
use Rattle.std.proofs.Common.{◌≡◌, ℕ, suc, ◌+◌, ◌<◌, ◌≤◌, Bool, true, false, ◌&&◌, List, [], ◌∷◌, ◌++◌, map, length, get_or, drop, drop-cons, append_assoc, refl, sym, ap, ◌∙◌, arith, Some}
use Rattle.std.proofs.Math.Bool.{and_assoc}
use Rattle.std.specs.Prelude.{slice_get, slice_index_or}
use Rattle.std.specs.List.{enumerate_from, list_all}
use Rattle.std.proofs.lemmas.List.{at_drop_all}
use Rattle.plane_rect.specs.Rectangle.{Rectangle, empty}
use Rattle.model_graphs.specs.declared.node.Body.{Body}
use Rattle.model_graphs.specs.declared.node.Body.TheVariants.{Compute}
use Rattle.model_graphs.specs.declared.node.NodeFact.{NodeFact}
use Rattle.model_graphs.specs.Facts.{specs_of}
use Rattle.model_graphs.specs.Meanings.{Meanings}
use Rattle.model_graphs.specs.Node.{index_of}
use Rattle.model_states.specs.Damage.{Change, Side, damage_passed_on, inputs_of, invalidated_by, known_damage, new_boxes}
use Rattle.model_states.specs.Regions.{hull_of}
use Rattle.model_states.proofs.Indices.{index_of_name}
use Rattle.graph_commits.specs.States.{IsGraphState}
use Rattle.graph_commits.proofs.SuitedLaws.{spec_at}

-- ---- a loop over names

module _ (names : List (List ℕ)) (i : ℕ) (name : List ℕ) (inside : i < length names) (is : get_or names i name ≡ name) where
  next_name : drop i names ≡ name ∷ drop (i + 1) names
  next_name =
      let next : suc i ≡ i + 1 = omega arith in
      drop-cons names i name inside ∙ ap (λ n. n ∷ drop (suc i) names) is ∙ ap (λ j. name ∷ drop j names) next

  pub mapped : {A : Type 0} (f : List ℕ → A) (known now whole : List A) → known ++ map f (drop i names) ≡ whole → now ≡ known ++ f name ∷ [] →
      now ++ map f (drop (i + 1) names) ≡ whole
  mapped {A} f known now whole so_far pushed =
      ap (λ (values : List A). values ++ map f (drop (i + 1) names)) pushed
      ∙ append_assoc known (f name ∷ []) (map f (drop (i + 1) names))
      ∙ ap (λ (rest : List A). known ++ rest) (sym (ap (map f) next_name)) ∙ so_far

  pub tested : (test : List ℕ → Bool) (before now whole : Bool) → (before && list_all test (drop i names)) ≡ whole → now ≡ (before && test name) →
      (now && list_all test (drop (i + 1) names)) ≡ whole
  tested test before now whole so_far both =
      ap (λ b. b && list_all test (drop (i + 1) names)) both
      ∙ and_assoc before (test name) (list_all test (drop (i + 1) names))
      ∙ ap (λ b. before && b) (sym (ap (list_all test) next_name)) ∙ so_far

and_true : (b : Bool) → b ≡ (b && true)
and_true true = refl
and_true false = refl

pub all_passed : (test : List ℕ → Bool) (names : List (List ℕ)) (i : ℕ) (before whole : Bool) → length names ≤ i →
    (before && list_all test (drop i names)) ≡ whole → before ≡ whole
all_passed test names i before whole past so_far =
    and_true before ∙ ap (λ b. before && b) (sym (at_drop_all (list_all test) names i past)) ∙ so_far

module _ {Op : Type 0} (meanings : Meanings Op) where
  -- ---- what inputs invalidate

  module _ (change : Change Op) (known : List Rectangle) (operation : Op) where
    by_position : (boxes : List Rectangle) (first : ℕ) (inputs : List (List ℕ)) →
        map (λ (input : ℕ × ℕ). meanings.invalidated operation boxes input.0 (slice_index_or known input.1 empty)) (enumerate_from first (map (index_of (specs_of change.new.nodes)) inputs))
        ≡ map (λ (input : ℕ × List ℕ). meanings.invalidated operation boxes input.0 (known_damage change known input.1)) (enumerate_from first inputs)
    by_position boxes first [] = refl
    by_position boxes first (input ∷ inputs) =
        ap (λ (rest : List Rectangle). meanings.invalidated operation boxes first (known_damage change known input) ∷ rest) (by_position boxes (first + 1) inputs)

    -- whether the inputs are named or at positions, what is passed on is one
    pub passed_on : (box : Rectangle) (body : Body Op) (inputs : List (List ℕ)) → body ≡ Compute operation inputs →
        (boxes : List Rectangle) → boxes ≡ new_boxes change (inputs_of body) →
        (positions : List ℕ) → positions ≡ map (index_of (specs_of change.new.nodes)) (inputs_of body) →
        (hull : Rectangle) → hull ≡ hull_of (map (λ (input : ℕ × ℕ). meanings.invalidated operation boxes input.0 (slice_index_or known input.1 empty)) (enumerate_from 0 positions)) →
        hull ≡ damage_passed_on meanings change known box body
    passed_on box body inputs is boxes boxed positions placed hull hulled =
        let at : positions ≡ map (index_of (specs_of change.new.nodes)) inputs =
        placed ∙ ap (λ (body : Body Op). map (index_of (specs_of change.new.nodes)) (inputs_of body)) is in
        let are : boxes ≡ new_boxes change inputs = boxed ∙ ap (λ (body : Body Op). new_boxes change (inputs_of body)) is in
        hulled
        ∙ ap (λ (ps : List ℕ). hull_of (map (λ (input : ℕ × ℕ). meanings.invalidated operation boxes input.0 (slice_index_or known input.1 empty)) (enumerate_from 0 ps))) at
        ∙ ap hull_of (by_position boxes 0 inputs)
        ∙ ap (λ (bs : List Rectangle). hull_of (invalidated_by meanings operation bs (known_damage change known) inputs)) are
        ∙ sym (ap (damage_passed_on meanings change known box) is)

  -- ---- a guess

  -- where the node at a position has a name, that is the name's position
  pub position_guessed : (side : Side Op) (guess : ℕ) (fact : NodeFact Op) (name : List ℕ) → IsGraphState meanings side →
      slice_get side.nodes guess ≡ Some fact → fact.spec.name ≡ name → guess ≡ index_of (specs_of side.nodes) name
  position_guessed side guess fact name state at is =
      sym (index_of_name (specs_of side.nodes) guess fact.spec state.stated.valid.distinct (spec_at meanings side.nodes guess fact at))
      ∙ ap (index_of (specs_of side.nodes)) is
