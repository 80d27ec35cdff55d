-- What holds of graphs stays true, and what steps answer.
use Rattle.std.proofs.Common.{◌≡◌, ℕ, zero, suc, ◌+◌, ◌<◌, Bool, false, eqb, cond, List, [], ◌∷◌, take, refl, sym, ap, ◌∙◌, subst, arith, Some, Result, Ok, Err}
use Rattle.std.specs.Prelude.{IsOkAnd}
use Rattle.std.proofs.lemmas.Bool.Decides.{nat_tests}
use Rattle.model_graphs.specs.declared.node.NodeEdit.{NodeEdit}
use Rattle.model_graphs.specs.Facts.{Facts, shapes_of_facts, specs_of}
use Rattle.model_graphs.specs.Laws.{IsEquality, KeepsLaws}
use Rattle.model_graphs.specs.Meanings.{Meanings}
use Rattle.model_graphs.specs.Node.{Node}
use Rattle.pixel_formats.specs.Limits.{max_undoable}
use Rattle.model_states.specs.declared.refused.StateRefused.{StateRefused}
use Rattle.model_states.specs.declared.refused.StateRefused.TheVariants.{TooManyCommits}
use Rattle.model_states.specs.Commits.{Graph, change_to, commit_nodes, commit_side, committed, side_of}
use Rattle.model_states.specs.Damage.{AreSteady, Change, IsStatedChange, IsSteady, Side, damage, damage_list, reversed}
use Rattle.model_states.specs.Edits.{edited}
use Rattle.model_states.specs.Neighbors.{SamplesAgreeOutside, scene_of_side}
use Rattle.model_states.specs.Rectangles.{Rectangles, rectangle_of}
use Rattle.model_states.specs.Retained.{Retained, Separated, Stepped, last_number, left_state, unless_last, with_commit}
use Rattle.model_states.specs.State.{image_of}
use Rattle.model_states.proofs.NodeDamage as node_damage
use Rattle.model_states.proofs.RetainedLaws.{commit_few}
use Rattle.model_states.proofs.Symmetric as symmetric
use Rattle.model_states.proofs.Voids.{listed_damage}
use Rattle.graph_commits.proofs.VoidLaws.{steady_back}
use Rattle.model_states.specs.declared.direction.Direction.{Direction}
use Rattle.model_states.specs.declared.direction.Direction.TheVariants.{Undo, Redo}
use Rattle.model_states.specs.Directions.{ahead, commit_between, nothing_ahead, step_to, with_first}
use Rattle.graph_commits.specs.Graphs.{AreAhead, AreDamagesOf, AreStillThere, AreUnchangedOutside, IsAnswered, IsGraph, IsStepIn}
use Rattle.graph_commits.specs.Histories.{first_delta}
use Rattle.graph_commits.specs.States.{IsGraphState, edited_side, side_of_result}

-- ---- the last number

not_last : (number : ℕ) → number < last_number → eqb number last_number ≡ false
not_last number less = grind (arith, nat_tests)

pub unless_open : {A : Type 0} (number : ℕ) (r : Result A StateRefused) → number < last_number → unless_last number r ≡ r
unless_open {A} number r less = ap (λ b. cond b (Err TooManyCommits) r) (not_last number less)

-- ---- what a step gives

pub step_first : {State Delta : Type 0} (direction : Direction) (retained : Retained State Delta) (next : Separated State Delta) (rest : List (Separated State Delta)) →
    step_to direction retained (next ∷ rest) ≡ Ok (record { next = with_first direction retained next rest; delta = next.delta })
step_first Undo retained next rest = refl
step_first Redo retained next rest = refl

pub step_nowhere : {State Delta : Type 0} (direction : Direction) (retained : Retained State Delta) → step_to direction retained [] ≡ Err (nothing_ahead direction)
step_nowhere Undo retained = refl
step_nowhere Redo retained = refl

module _ {State Delta : Type 0} (direction : Direction) (retained : Retained State Delta) where
  pub nowhere_given : (to : Stepped (Retained State Delta) Delta) → step_to direction retained [] ≡ Ok to → ⊥
  nowhere_given to is = let none = sym (step_nowhere direction retained) ∙ is in cc

  pub first_given : (next : Separated State Delta) (rest : List (Separated State Delta)) (to : Stepped (Retained State Delta) Delta) →
      step_to direction retained (next ∷ rest) ≡ Ok to → record { next = with_first direction retained next rest; delta = next.delta } ≡ to
  first_given next rest to is = let both = sym (step_first direction retained next rest) ∙ is in cc

  step_counts : (states : List (Separated State Delta)) (to : Stepped (Retained State Delta) Delta) → step_to direction retained states ≡ Ok to → retained.number + 1 ≡ to.next.number
  step_counts [] to is = absurd (nowhere_given to is)
  step_counts (next ∷ rest) to is = ap (λ (s : Stepped (Retained State Delta) Delta). s.next.number) (first_given next rest to is)

  pub step_is : (states : List (Separated State Delta)) (new : Retained State Delta) (delta : Delta) → first_delta states ≡ Some delta →
      IsOkAnd (step_to direction retained states) (λ to. to.next ≡ new) → step_to direction retained states ≡ Ok (record { next = new; delta = delta })
  step_is [] new delta first leads = absurd (cc)
  step_is (next ∷ rest) new delta first leads =
      let here : next.delta ≡ delta = cc in
      let there : with_first direction retained next rest ≡ new =
      subst (λ r. IsOkAnd r (λ to. to.next ≡ new)) (step_first direction retained next rest) leads in
      step_first direction retained next rest
      ∙ ap (λ (r : Retained State Delta). Ok (record { next = r; delta = next.delta })) there
      ∙ ap (λ d. Ok (record { next = new; delta = d })) here

-- ---- steady buffers

steady_from : (old new : Facts) → AreStillThere old new → AreSteady old new
steady_from old new still name a b there again =
    let found = still name a there in
    let same : found.0 ≡ b = cc (found.1, again) in
    subst (IsSteady a) same found.2

-- what a commit of edits leaves and answers
pub record IsCommit {Op : Type 0} (same : Op → Op → Bool) (meanings : Meanings Op) (graph after : Graph Op) (edits : List (NodeEdit Op)) (facts : Facts) (written delta : Rectangles) : Type 0 where
  pub valid : IsGraph same meanings after
  pub answer : committed same meanings graph edits facts written ≡ Ok (record { next = after; delta = delta })
  pub damages : AreDamagesOf same meanings (change_to graph after.latest written) delta
  pub buffers : after.latest.buffers ≡ facts

module _ {Op : Type 0} (same : Op → Op → Bool) (meanings : Meanings Op) (equality : IsEquality same) (keeps : KeepsLaws meanings) where
  -- ---- the damage of a step

  unchanged_from : (change : Change Op) (damages : Rectangles) → IsStatedChange meanings change →
      ((name : List ℕ) → rectangle_of damages name ≡ damage same meanings change name) → AreUnchangedOutside meanings change damages
  unchanged_from change damages stated each old new name old_images new_images agree =
      subst (SamplesAgreeOutside (image_of meanings (scene_of_side change.old old) name) (image_of meanings (scene_of_side change.new new) name)) (sym (each name))
      (node_damage.unchanged same meanings change old new keeps equality.apart
      (record { stated = stated; old_images = old_images; new_images = new_images; images = agree }) name).samples

  pub damages_are : (change : Change Op) → IsStatedChange meanings change → AreDamagesOf same meanings change (damage_list same meanings change)
  damages_are change stated =
      record {
        stated = stated;
        each = listed_damage same meanings change;
        unchanged = unchanged_from change (damage_list same meanings change) stated (listed_damage same meanings change);
      }

  -- the same from the other side
  module _ (change : Change Op) (old : IsGraphState meanings change.old) (new : IsGraphState meanings change.new) (steady : AreSteady change.old.buffers change.new.buffers) where
    pub stated_change : IsStatedChange meanings change
    stated_change = record { old = old.stated; new = new.stated; steady = steady }

    back_stated : IsStatedChange meanings (reversed change)
    back_stated = record { old = new.stated; new = old.stated; steady = steady_back change.old.buffers change.new.buffers steady }

    back_each : (name : List ℕ) → rectangle_of (damage_list same meanings change) name ≡ damage same meanings (reversed change) name
    back_each name =
        listed_damage same meanings change name
        ∙ sym (symmetric.symmetric same meanings equality change stated_change old.rectangles new.rectangles name)

    pub damages_back : AreDamagesOf same meanings (reversed change) (damage_list same meanings change)
    damages_back =
        record {
          stated = back_stated;
          each = back_each;
          unchanged = unchanged_from (reversed change) (damage_list same meanings change) back_stated back_each;
        }

  -- ---- commits

  module _ (graph : Graph Op) (edits : List (NodeEdit Op)) (buffers : Facts) (written : Rectangles) where
    abbrev result : Result (List (Node Op)) StateRefused
    result = edited meanings (shapes_of_facts buffers) (specs_of graph.latest.nodes) edits

    nodes_committed : (r : Result (List (Node Op)) StateRefused) (next : Side Op) → side_of_result meanings buffers r ≡ Ok next →
        commit_nodes same meanings graph buffers written r ≡ Ok (commit_side same meanings graph next written)
    nodes_committed (Ok nodes) next e =
        let one : side_of meanings buffers nodes ≡ next = cc in
        ap (λ (s : Side Op). Ok (commit_side same meanings graph s written)) one
    nodes_committed (Err why) next e = absurd (cc e)

    pub committed_is : (next : Side Op) → graph.number < last_number → edited_side meanings graph.latest edits buffers ≡ Ok next →
        committed same meanings graph edits buffers written ≡ Ok (commit_side same meanings graph next written)
    committed_is next less made =
        unless_open graph.number (commit_nodes same meanings graph buffers written result) less ∙ nodes_committed result next made

    edited_buffers : (r : Result (List (Node Op)) StateRefused) (next : Side Op) → side_of_result meanings buffers r ≡ Ok next → buffers ≡ next.buffers
    edited_buffers (Ok nodes) next e = let one : side_of meanings buffers nodes ≡ next = cc in ap (λ (s : Side Op). s.buffers) one
    edited_buffers (Err why) next e = absurd (cc e)

    pub steady_commit : (next : Side Op) → AreStillThere graph.latest.buffers buffers → edited_side meanings graph.latest edits buffers ≡ Ok next →
        AreSteady graph.latest.buffers next.buffers
    steady_commit next still made =
        subst (AreSteady graph.latest.buffers) (edited_buffers result next made) (steady_from graph.latest.buffers buffers still)

  before_taken : (n : ℕ) (latest : Side Op) (states : List (Separated (Side Op) Rectangles)) → AreAhead Undo same meanings latest states → AreAhead Undo same meanings latest (take n states)
  before_taken zero latest [] all = tt
  before_taken (suc n) latest [] all = tt
  before_taken zero latest (back ∷ rest) all = tt
  before_taken (suc n) latest (back ∷ rest) all = (all.0, all.1, before_taken n back.state rest all.2)

  pub graph_committed : (graph : Graph Op) (next : Side Op) (written : Rectangles) → IsGraph same meanings graph → IsGraphState meanings next →
      AreSteady graph.latest.buffers next.buffers →
      IsGraph same meanings (with_commit graph next (damage_list same meanings (change_to graph next written)))
  graph_committed graph next written is state steady =
      record {
        latest = state;
        undoable =
            before_taken max_undoable next (left_state graph (damage_list same meanings (change_to graph next written)) ∷ graph.undoable)
            (is.latest, record { steady = steady; damage = (written, refl) }, is.undoable);
        redoable = tt;
        few = commit_few graph next (damage_list same meanings (change_to graph next written));
      }

  -- ---- the damage of a step

  step_by : (direction : Direction) (latest next : Side Op) (separating written delta : Rectangles) → IsGraphState meanings latest → IsGraphState meanings next →
      IsStepIn direction same meanings latest next separating → delta ≡ damage_list same meanings (commit_between direction latest next written) →
      AreDamagesOf same meanings (commit_between Redo latest next written) delta
  step_by Undo latest next separating written delta old new step made =
      subst (AreDamagesOf same meanings (commit_between Redo latest next written)) (sym made) (damages_back (commit_between Undo latest next written) new old step.steady)
  step_by Redo latest next separating written delta old new step made =
      subst (AreDamagesOf same meanings (commit_between Redo latest next written)) (sym made)
      (damages_are (commit_between Redo latest next written) (stated_change (commit_between Redo latest next written) old new step.steady))

  damage_of_step : (direction : Direction) (latest next : Side Op) (delta : Rectangles) → IsStepIn direction same meanings latest next delta →
      (written : Rectangles) × (delta ≡ damage_list same meanings (commit_between direction latest next written))
  damage_of_step Undo latest next delta step = step.damage
  damage_of_step Redo latest next delta step = step.damage

  step_all : (direction : Direction) (graph new : Graph Op) (states : List (Separated (Side Op) Rectangles)) (delta : Rectangles) → IsGraphState meanings graph.latest →
      AreAhead direction same meanings graph.latest states → step_to direction graph states ≡ Ok (record { next = new; delta = delta }) → (written : Rectangles) →
      delta ≡ damage_list same meanings (commit_between direction graph.latest new.latest written) → AreDamagesOf same meanings (change_to graph new.latest written) delta
  step_all direction graph new [] delta latest are is written made = absurd (nowhere_given direction graph (record { next = new; delta = delta }) is)
  step_all direction graph new (next ∷ rest) delta latest are is written made =
      let there : next.state ≡ new.latest = ap (λ (s : Stepped (Graph Op) Rectangles). s.next.latest) (first_given direction graph next rest (record { next = new; delta = delta }) is) in
      step_by direction graph.latest new.latest next.delta written delta latest (subst (IsGraphState meanings) there are.0)
      (subst (λ (side : Side Op). IsStepIn direction same meanings graph.latest side next.delta) there are.1) made

  step_some : (direction : Direction) (graph new : Graph Op) (states : List (Separated (Side Op) Rectangles)) (delta : Rectangles) → IsGraphState meanings graph.latest →
      AreAhead direction same meanings graph.latest states → step_to direction graph states ≡ Ok (record { next = new; delta = delta }) →
      (written : Rectangles) × AreDamagesOf same meanings (change_to graph new.latest written) delta
  step_some direction graph new [] delta latest are is = absurd (nowhere_given direction graph (record { next = new; delta = delta }) is)
  step_some direction graph new (next ∷ rest) delta latest are is =
      let to = first_given direction graph next rest (record { next = new; delta = delta }) is in
      let there : next.state ≡ new.latest = ap (λ (s : Stepped (Graph Op) Rectangles). s.next.latest) to in
      let that : next.delta ≡ delta = ap (λ (s : Stepped (Graph Op) Rectangles). s.delta) to in
      let by = damage_of_step direction graph.latest next.state next.delta are.1 in (
        by.0,
        step_all direction graph new (next ∷ rest) delta latest are is by.0
            (sym that ∙ by.1 ∙ ap (λ (side : Side Op). damage_list same meanings (commit_between direction graph.latest side by.0)) there),
      )

  module _ (graph : Graph Op) (is : IsGraph same meanings graph) where
    are_ahead : (direction : Direction) → AreAhead direction same meanings graph.latest (ahead direction graph)
    are_ahead Undo = is.undoable
    are_ahead Redo = is.redoable

    pub answered : (direction : Direction) (new : Graph Op) (number : ℕ) (delta : Rectangles) → graph.number < last_number → number ≡ graph.number + 1 →
        step_to direction graph (ahead direction graph) ≡ Ok (record { next = new; delta = delta }) → IsAnswered same meanings direction graph new number delta
    answered direction new number delta less next step = record {
      made = unless_open graph.number (step_to direction graph (ahead direction graph)) less ∙ step;
      numbered = next ∙ step_counts direction graph (ahead direction graph) (record { next = new; delta = delta }) step;
      damages = step_all direction graph new (ahead direction graph) delta is.latest (are_ahead direction) step;
      by_some = step_some direction graph new (ahead direction graph) delta is.latest (are_ahead direction) step;
    }

  -- ---- what a commit answers

  module _ (graph after : Graph Op) (next : Side Op) (edits : List (NodeEdit Op)) (buffers : Facts) (written delta retained : Rectangles)
      (is : IsGraph same meanings graph) (less : graph.number < last_number) (made : edited_side meanings graph.latest edits buffers ≡ Ok next)
      (state : IsGraphState meanings next) (still : AreStillThere graph.latest.buffers buffers)
      (list : delta ≡ damage_list same meanings (change_to graph next written)) (kept : retained ≡ delta) (left : after ≡ with_commit graph next retained) where
    after_is : after ≡ with_commit graph next (damage_list same meanings (change_to graph next written))
    after_is = left ∙ ap (with_commit graph next) (kept ∙ list)

    steady : AreSteady graph.latest.buffers next.buffers
    steady = steady_commit graph edits buffers written next still made

    graph_after : IsGraph same meanings after
    graph_after = subst (IsGraph same meanings) (sym after_is) (graph_committed graph next written is state steady)

    answer_is : committed same meanings graph edits buffers written ≡ Ok (record { next = after; delta = delta })
    answer_is =
        committed_is graph edits buffers written next less made
        ∙ ap (λ (g : Graph Op). Ok (record { next = g; delta = damage_list same meanings (change_to graph next written) })) (sym after_is)
        ∙ ap (λ d. Ok (record { next = after; delta = d })) (sym list)

    damages_answered : AreDamagesOf same meanings (change_to graph after.latest written) delta
    damages_answered =
        subst (λ (side : Side Op). AreDamagesOf same meanings (change_to graph side written) delta) (sym (ap (λ (g : Graph Op). g.latest) after_is))
        (subst (AreDamagesOf same meanings (change_to graph next written)) (sym list)
        (damages_are (change_to graph next written) (stated_change (change_to graph next written) is.latest state steady)))

    buffers_after : after.latest.buffers ≡ buffers
    buffers_after =
        ap (λ (g : Graph Op). g.latest.buffers) after_is
        ∙ sym (edited_buffers graph edits buffers written (edited meanings (shapes_of_facts buffers) (specs_of graph.latest.nodes) edits) next made)

    pub commit_made : IsCommit same meanings graph after edits buffers written delta
    commit_made = record { valid = graph_after; answer = answer_is; damages = damages_answered; buffers = buffers_after }
