-- Steps of a graph and of versions of buffers are those of the history that is held.
use Rattle.std.proofs.Common.{◌≡◌, ℕ, ◌+◌, Bool, true, false, cond, List, [], ◌∷◌, refl, sym, ap, subst, ◌∙◌, Result, Ok, Err}
use Rattle.std.specs.Prelude.{◌==◌}
use Rattle.chain_owners.specs.Held.{Held}
use Rattle.model_buffers.specs.Table.{Table}
use Rattle.model_graphs.specs.Meanings.{Meanings}
use Rattle.model_states.specs.declared.refused.StateRefused.{StateRefused}
use Rattle.model_states.specs.declared.refused.StateRefused.TheVariants.{TooManyCommits}
use Rattle.model_states.specs.Commits.{Graph}
use Rattle.model_states.specs.Damage.{Change, IsStatedChange, Side, damage, damage_list}
use Rattle.model_states.specs.History.{Committed}
use Rattle.model_states.specs.Rectangles.{Rectangles, rectangle_of}
use Rattle.model_states.specs.Retained.{Retained, Separated, Stepped, last_number, unless_last}
use Rattle.model_states.specs.State.{State}
use Rattle.model_states.proofs.Voids.{listed_damage}
use Rattle.model_states.specs.declared.direction.Direction.{Direction}
use Rattle.model_states.specs.declared.direction.Direction.TheVariants.{Undo, Redo}
use Rattle.model_states.specs.Directions.{ahead, commit_between, step_to, stepped, with_first}
use Rattle.graph_commits.specs.Graphs.{AreDamagesOf}
use Rattle.graph_commits.proofs.GraphLaws.{first_given, nowhere_given, step_first, step_nowhere}
use Rattle.buffer_view.specs.BufferTables.{BufferTable}
use Rattle.session_states.specs.Versions.{Versions, versions_after, versions_ahead}
use Rattle.commit_session.specs.Parts.{Parts}
use Rattle.commit_session.specs.Seen.{AreOfTable, AreRetained, AreStatesAhead}

abbrev pub States : Type 0 → Type 0
States Op = Retained (State Table Op) Rectangles

abbrev pub GraphStep : Type 0 → Type 0
GraphStep Op = Stepped (Graph Op) Rectangles

abbrev pub StatesStep : Type 0 → Type 0
StatesStep Op = Stepped (States Op) Rectangles

-- ---- results that there is a number for

pub record IsOpen {A : Type 0} (number : ℕ) (r : Result A StateRefused) (a : A) : Type 0 where
  pub open_number : (number == last_number) ≡ false
  pub is : r ≡ Ok a

open-ok : {A : Type 0} (number : ℕ) (r : Result A StateRefused) (a : A) → unless_last number r ≡ Ok a → IsOpen number r a
open-ok {A} number r a is = by (number == last_number) refl is
  where
    by : (b : Bool) → (number == last_number) ≡ b → cond b (Err TooManyCommits) r ≡ Ok a → IsOpen number r a
    by true e is = absurd (cc)
    by false e is = record { open_number = e; is = is }

open-is : {A : Type 0} (number other : ℕ) (r : Result A StateRefused) (a : A) → other ≡ number → (number == last_number) ≡ false → r ≡ Ok a
    → unless_last other r ≡ Ok a
open-is {A} number other r a same e is =
    ap (λ (n : ℕ). unless_last n r) same ∙ ap (λ (b : Bool). cond b (Err TooManyCommits) r) e ∙ is

-- a refusal is another result's too, where that is refused as the first is
refused-is : {A B : Type 0} (number other : ℕ) (r : Result A StateRefused) (s : Result B StateRefused) (why : StateRefused) → other ≡ number
    → (r ≡ Err why → s ≡ Err why) → unless_last number r ≡ Err why → unless_last other s ≡ Err why
refused-is {A} {B} number other r s why same then is = ap (λ (n : ℕ). unless_last n s) same ∙ by (number == last_number) is
  where
    by : (b : Bool) → cond b (Err TooManyCommits) r ≡ Err why → cond b (Err TooManyCommits) s ≡ Err why
    by true e = cc
    by false e = then e

module _ {Op : Type 0} (same : Op → Op → Bool) (meanings : Meanings Op) (now : Parts Op) (held : Held) where
  -- the parts with another graph and other versions
  abbrev pub parts_with : Graph Op → Versions BufferTable → Parts Op
  parts_with graph versions = record now { versions = versions; graph = graph }

  -- from the last state of the graph to that of the next one
  abbrev pub change_from : Graph Op → Rectangles → Change Op
  change_from next written = record { old = now.graph.latest; new = next.latest; rectangles = written }

  -- What a step makes of states that are held: it leads to states that are held, and its damages leave of any list what
  -- the damage from the last state to the next one leaves.
  pub record IsStep (next : Graph Op) (versions : Versions BufferTable) (delta : Rectangles) (retained : States Op) (stepped : StatesStep Op) : Type 0 where
    pub number : stepped.next.number ≡ retained.number + 1
    pub working : AreOfTable versions.working held stepped.next.latest.table
    pub states : AreRetained same meanings (parts_with next versions) held stepped.next
    pub stated : IsStatedChange meanings (change_from next stepped.delta)
    pub change : Change Op
    pub damages : delta ≡ damage_list same meanings change
    pub each : (name : List ℕ) → damage same meanings change name ≡ damage same meanings (change_from next stepped.delta) name

  -- a result is such a step
  pub record Leads (next : Graph Op) (versions : Versions BufferTable) (delta : Rectangles) (retained : States Op) (result : Result (StatesStep Op) StateRefused) : Type 0 where
    pub stepped : StatesStep Op
    pub is : result ≡ Ok stepped
    pub step : IsStep next versions delta retained stepped

  -- what a graph promises of the damages of a step
  abbrev pub DamagesOf : Direction → Graph Op → Rectangles → Type 0
  DamagesOf direction next delta =
      (written : Rectangles) → delta ≡ damage_list same meanings (commit_between direction now.graph.latest next.latest written)
      → AreDamagesOf same meanings (change_from next written) delta

  -- ---- a step by what its list begins with

  -- the step to a graph and to versions that are these
  leads-at : (to : GraphStep Op) (v : Versions BufferTable) (next : Graph Op) (versions : Versions BufferTable) (delta : Rectangles) (retained : States Op)
      (result : Result (StatesStep Op) StateRefused) → to ≡ record { next = next; delta = delta } → versions ≡ v → Leads to.next v to.delta retained result
      → Leads next versions delta retained result
  leads-at to v next versions delta retained result whole made found =
      subst (λ (s : GraphStep Op). Leads s.next versions s.delta retained result) whole
      (subst (λ (w : Versions BufferTable). Leads to.next w to.delta retained result) (sym made) found)

  -- a step that there is a number for
  leads-open : (next : Graph Op) (versions : Versions BufferTable) (delta : Rectangles) (retained : States Op) (first : Result (GraphStep Op) StateRefused)
      (result : Result (StatesStep Op) StateRefused) → retained.number ≡ now.graph.number → unless_last now.graph.number first ≡ Ok (record { next = next; delta = delta })
      → (first ≡ Ok (record { next = next; delta = delta }) → Leads next versions delta retained result)
      → Leads next versions delta retained (unless_last retained.number result)
  leads-open next versions delta retained first result number is leads =
      let opened = open-ok now.graph.number first (record { next = next; delta = delta }) is in
      let lists = leads opened.is in
      record {
        stepped = lists.stepped;
        is = open-is now.graph.number retained.number result lists.stepped number opened.open_number lists.is;
        step = lists.step;
      }

  -- ---- an undo or a redo

  module _ (retained : States Op) (are : AreRetained same meanings now held retained) where
    ahead-are : (direction : Direction)
        → AreStatesAhead direction same meanings now.graph.latest (ahead direction now.graph) (versions_ahead direction now.versions) held (ahead direction retained)
    ahead-are Undo = are.undoable
    ahead-are Redo = are.redoable

    states-after : (direction : Direction) (step : Separated (Side Op) Rectangles) (steps : List (Separated (Side Op) Rectangles)) (b : BufferTable) (buffers : List BufferTable)
        (state : Committed Table Op) (states : List (Committed Table Op))
        → AreStatesAhead direction same meanings now.graph.latest (step ∷ steps) (b ∷ buffers) held (state ∷ states)
        → AreRetained same meanings (parts_with (with_first direction now.graph step steps) (versions_after direction now.versions b buffers)) held
        (with_first direction retained state states)
    states-after Undo step steps b buffers state states first = record {
      number = ap (λ (n : ℕ). n + 1) are.number;
      latest = first.0;
      undoable = first.2;
      redoable = (are.latest, first.1, are.redoable);
    }
    states-after Redo step steps b buffers state states first = record {
      number = ap (λ (n : ℕ). n + 1) are.number;
      latest = first.0;
      undoable = (are.latest, first.1, are.undoable);
      redoable = first.2;
    }

    module _ (direction : Direction) where
      step-states : (step : Separated (Side Op) Rectangles) (steps : List (Separated (Side Op) Rectangles)) (b : BufferTable) (buffers : List BufferTable)
          (state : Committed Table Op) (states : List (Committed Table Op))
          → AreStatesAhead direction same meanings now.graph.latest (step ∷ steps) (b ∷ buffers) held (state ∷ states)
          → DamagesOf direction (with_first direction now.graph step steps) step.delta
          → Leads (with_first direction now.graph step steps) (versions_after direction now.versions b buffers) step.delta retained (step_to direction retained (state ∷ states))
      step-states step steps b buffers state states first promised =
          let change : Change Op = commit_between direction now.graph.latest step.state state.delta in
          let promise = promised state.delta first.1 in
          record {
            stepped = record { next = with_first direction retained state states; delta = state.delta };
            is = step_first direction retained state states;
            step = record {
              number = refl;
              working = first.0.table;
              states = states-after direction step steps b buffers state states first;
              stated = promise.stated;
              change = change;
              damages = first.1;
              each = λ name. sym (listed_damage same meanings change name) ∙ ap (λ (ds : Rectangles). rectangle_of ds name) (sym first.1) ∙ promise.each name;
            };
          }

      module _ (next : Graph Op) (versions : Versions BufferTable) (delta : Rectangles) where
        step-lists : (steps : List (Separated (Side Op) Rectangles)) (buffers : List BufferTable) (states : List (Committed Table Op))
            → AreStatesAhead direction same meanings now.graph.latest steps buffers held states
            → step_to direction now.graph steps ≡ Ok (record { next = next; delta = delta })
            → ((first : BufferTable) (rest : List BufferTable) → buffers ≡ first ∷ rest → versions ≡ versions_after direction now.versions first rest)
            → DamagesOf direction next delta → Leads next versions delta retained (step_to direction retained states)
        step-lists [] buffers states there is made promised = absurd (nowhere_given direction now.graph (record { next = next; delta = delta }) is)
        step-lists (step ∷ steps) [] states there is made promised = absurd there
        step-lists (step ∷ steps) (b ∷ buffers) [] there is made promised = absurd there
        step-lists (step ∷ steps) (b ∷ buffers) (state ∷ states) there is made promised =
            let to : GraphStep Op = record { next = with_first direction now.graph step steps; delta = step.delta } in
            let whole = first_given direction now.graph step steps (record { next = next; delta = delta }) is in
            leads-at to (versions_after direction now.versions b buffers) next versions delta retained (step_to direction retained (state ∷ states)) whole (made b buffers refl)
            (step-states step steps b buffers state states there (subst (λ (s : GraphStep Op). DamagesOf direction s.next s.delta) (sym whole) promised))

        pub step-leads : stepped direction now.graph ≡ Ok (record { next = next; delta = delta })
            → ((first : BufferTable) (rest : List BufferTable) → versions_ahead direction now.versions ≡ first ∷ rest → versions ≡ versions_after direction now.versions first rest)
            → DamagesOf direction next delta → Leads next versions delta retained (stepped direction retained)
        step-leads is made promised =
            leads-open next versions delta retained (step_to direction now.graph (ahead direction now.graph)) (step_to direction retained (ahead direction retained)) are.number is
            (λ opened. step-lists (ahead direction now.graph) (versions_ahead direction now.versions) (ahead direction retained) (ahead-are direction) opened made promised)

      step-none : (why : StateRefused) (steps : List (Separated (Side Op) Rectangles)) (buffers : List BufferTable) (states : List (Committed Table Op))
          → AreStatesAhead direction same meanings now.graph.latest steps buffers held states → step_to direction now.graph steps ≡ Err why → step_to direction retained states ≡ Err why
      step-none why [] [] [] there is = let nowhere = step_nowhere direction now.graph in let too = step_nowhere direction retained in cc
      step-none why [] [] (state ∷ states) there is = absurd there
      step-none why [] (b ∷ buffers) states there is = absurd there
      step-none why (step ∷ steps) buffers states there is = let both = sym (step_first direction now.graph step steps) ∙ is in absurd (cc)

      pub step-refused : (why : StateRefused) → stepped direction now.graph ≡ Err why → stepped direction retained ≡ Err why
      step-refused why is =
          refused-is now.graph.number retained.number (step_to direction now.graph (ahead direction now.graph)) (step_to direction retained (ahead direction retained)) why are.number
          (step-none why (ahead direction now.graph) (versions_ahead direction now.versions) (ahead direction retained) (ahead-are direction)) is

      -- no buffers ahead are no states
      pub none-ahead : versions_ahead direction now.versions ≡ [] → ahead direction now.graph ≡ []
      none-ahead none = by (ahead direction now.graph) (versions_ahead direction now.versions) (ahead direction retained) (ahead-are direction) none
        where
          by : (steps : List (Separated (Side Op) Rectangles)) (buffers : List BufferTable) (states : List (Committed Table Op))
              → AreStatesAhead direction same meanings now.graph.latest steps buffers held states → buffers ≡ [] → steps ≡ []
          by [] buffers states there none = refl
          by (step ∷ steps) [] states there none = absurd there
          by (step ∷ steps) (b ∷ buffers) states there none = absurd (cc)
