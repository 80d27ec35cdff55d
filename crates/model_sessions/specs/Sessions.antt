-- Renders among the steps of a history, and the cached pairs that they leave.
use Rattle.std.specs.Prelude.{ℕ, ◌-◌, ◌^◌, ◌≤◌, min, Bool, ◌&&◌, ◌==◌, if◌then◌else◌, is_none, ⊤, List, [], fold, length, Some, unwrap_or}
use Rattle.std.specs.List.{AllByRecursion}
use Rattle.plane_rect.specs.Rectangle.{Rectangle, empty, scaled}
use Rattle.model_buffers.specs.Table.{Table, no_buffers}
use Rattle.model_graphs.specs.Meanings.{Meanings}
use Rattle.model_graphs.specs.Node.{index_of}
use Rattle.model_states.specs.Cache.{AreRight, Cached, Counted, HasDistinctPairs, all_looked_up, by_pair, needed_pairs, uncounted, with_bytes, without_damaged}
use Rattle.model_states.specs.Damage.{Change, damage}
use Rattle.model_states.specs.Edits.{has_node}
use Rattle.model_states.specs.History.{History, new_history, number_of}
use Rattle.model_states.specs.Need.{need, wide}
use Rattle.model_states.specs.State.{Scene, stated_nodes}
use Rattle.model_states.specs.declared.strip.Strip.{Strip}
use Rattle.model_sessions.specs.Histories.{IsHistory, change_to, last_state, scene_of}
use Rattle.model_sessions.specs.Steps.{HistoryEdit, IsProper, after_step}

-- A history of states over tables, the cached pairs of its last state, and how many pairs its renders applied and
-- reused.
pub record Session (Table Op : Type 0) : Type 0 where
  pub history : History Table Op
  pub cached : Counted Cached

-- the session without buffers, nodes and pairs
abbrev pub new_session : {Op : Type 0} → Session Table Op
new_session = record { history = new_history no_buffers; cached = uncounted [] }

-- the last committed state, as its nodes read it
abbrev pub last_scene : {Op : Type 0} → Session Table Op → Scene Op
last_scene session = scene_of (last_state session.history)

-- ---- counts

-- the largest count that is reported of a session
abbrev pub max_count : ℕ
max_count = 2 ^ 64 - 1

-- How many pairs the renders of a session applied and reused, each up to the largest count.
pub record Counts : Type 0 where
  pub applied : ℕ
  pub reused : ℕ

abbrev pub counts_of : {Op : Type 0} → Session Table Op → Counts
counts_of session =
    record { applied = min max_count session.cached.applied; reused = min max_count session.cached.reused }

-- ---- steps

-- cached pairs after a change: those whose tile meets the damage are gone
abbrev pub voided : {Op : Type 0} → (Op → Op → Bool) → Meanings Op → Change Op → Counted Cached → Counted Cached
voided same meanings change cached =
    record cached { list = without_damaged by_pair (damage same meanings change) cached.list }

-- the session once a state was appended to its history
abbrev pub with_state : {Op : Type 0} → (Op → Op → Bool) → Meanings Op → Session Table Op → History Table Op → Session Table Op
with_state same meanings session next =
    record { history = next; cached = voided same meanings (change_to meanings session.history next) session.cached }

-- the session with this history, which has one state more or the same ones
abbrev pub with_history : {Op : Type 0} → (Op → Op → Bool) → Meanings Op → Session Table Op → History Table Op → Session Table Op
with_history same meanings session next =
    if number_of next == number_of session.history then record session { history = next }
    else with_state same meanings session next

-- ---- renders

-- the rectangle of level 0 that one of a level stands for
abbrev pub at_level_zero : ℕ → Rectangle → Rectangle
at_level_zero z rectangle = unwrap_or (scaled z rectangle) empty

-- what a render of a rectangle at a level of the node of a name needs, strip by strip
abbrev pub render_need : {Op : Type 0} → Meanings Op → Scene Op → List ℕ → ℕ → Rectangle → List Strip
render_need meanings scene name z rectangle =
    need meanings (stated_nodes meanings scene) (index_of scene.nodes name) (at_level_zero z rectangle)

-- the node is there, and no strip has more pairs than the capacity
abbrev pub can_render : {Op : Type 0} → Meanings Op → ℕ → Scene Op → List ℕ → ℕ → Rectangle → Bool
can_render meanings capacity scene name z rectangle =
    has_node scene.nodes name && is_none (wide capacity (render_need meanings scene name z rectangle))

-- the session after a render that isn't refused: the pairs of the need are looked up in their order
abbrev pub with_render : {Op : Type 0} → Meanings Op → ℕ → Session Table Op → List ℕ → ℕ → Rectangle → Session Table Op
with_render meanings capacity session name z rectangle =
    let scene = last_scene session in
    record session {
      cached =
          all_looked_up by_pair (with_bytes meanings scene) (Some capacity) session.cached
          (needed_pairs scene.nodes (render_need meanings scene name z rectangle));
    }

-- The session after a render, which is refused where the node is not there or a strip has more pairs than the capacity.
abbrev pub after_render : {Op : Type 0} → Meanings Op → ℕ → Session Table Op → List ℕ → ℕ → Rectangle → Session Table Op
after_render meanings capacity session name z rectangle =
    if can_render meanings capacity (last_scene session) name z rectangle
    then with_render meanings capacity session name z rectangle
    else session

-- ---- actions

-- a step of the history, or a render of a rectangle at a level of the node of a name
pub data Action (Op : Type 0) : Type 0 where
  Make : HistoryEdit Op → Action Op
  Render : List ℕ → ℕ → Rectangle → Action Op

-- the session after an action
abbrev pub after_action : {Op : Type 0} → (Op → Op → Bool) → Meanings Op → ℕ → Session Table Op → Action Op → Session Table Op
after_action same meanings capacity session (Make step) =
    with_history same meanings session (after_step meanings session.history step)
after_action same meanings capacity session (Render name z rectangle) =
    after_render meanings capacity session name z rectangle

-- The session that actions make, from the one without buffers, nodes and pairs on.
abbrev pub session_of : {Op : Type 0} → (Op → Op → Bool) → Meanings Op → ℕ → List (Action Op) → Session Table Op
session_of same meanings capacity actions = fold (after_action same meanings capacity) new_session actions

abbrev pub IsProperAction : {Op : Type 0} → Action Op → Type 0
IsProperAction (Make step) = IsProper step
IsProperAction (Render name z rectangle) = ⊤

abbrev pub AreProperActions : {Op : Type 0} → List (Action Op) → Type 0
AreProperActions {Op} actions = AllByRecursion (λ (action : Action Op). IsProperAction action) actions

-- ---- what holds of sessions

-- What holds of a session: its history is one, and its cached pairs are right for the last state, distinct, and at most
-- as many as the capacity.
pub record IsSession {Op : Type 0} (meanings : Meanings Op) (capacity : ℕ) (session : Session Table Op) : Type 0 where
  pub history : IsHistory meanings session.history
  pub right : AreRight meanings (last_scene session) session.cached.list
  pub distinct : HasDistinctPairs by_pair session.cached.list
  pub few : length session.cached.list ≤ capacity
