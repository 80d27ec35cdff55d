-- Right cached pairs of the last state stay right when a step appends one.
use Rattle.std.proofs.Common.{◌≡◌, Bool, List, subst, sym}
use Rattle.model_buffers.specs.Table.{Table}
use Rattle.model_graphs.specs.Laws.{Distinguishes, KeepsLaws}
use Rattle.model_graphs.specs.Meanings.{Meanings}
use Rattle.model_graphs.specs.Facts.{specs_of}
use Rattle.model_graphs.specs.Node.{Node}
use Rattle.model_states.specs.Cache.{AreRight, Cached, by_pair, without_damaged}
use Rattle.model_states.specs.Damage.{damage}
use Rattle.model_states.specs.History.{Appends, Committed, History, latest_of}
use Rattle.model_states.specs.Neighbors.{IsChange}
use Rattle.model_states.specs.State.{Scene, State}
use Rattle.model_states.specs.Valid.{stated}
use Rattle.model_states.proofs.RightPairs.{stay_right}
use Rattle.model_states.proofs.Stated.{stated-nodes}
use Rattle.model_sessions.specs.Histories.{AreInTurn, AreTablesSeparated, IsHistory, change_to, last_state, scene_of}
use Rattle.model_sessions.specs.Tables.{table_images, table_shapes}
use Rattle.model_sessions.proofs.Sources.{images_known}
use Rattle.model_sessions.proofs.Steps.{latest_valid, turn_last, valid_side}

module _ {Op : Type 0} (same : Op → Op → Bool) (meanings : Meanings Op) (before after : History Table Op)
    (laws : KeepsLaws meanings) (distinguishes : Distinguishes same) (was : IsHistory meanings before) (is : IsHistory meanings after) (appends : Appends before after) where
  separated : AreTablesSeparated (last_state before).table (last_state after).table after.rectangles
  separated = turn_last before.earlier (latest_of before) (latest_of after) (subst (λ (states : List (Committed Table Op)). AreInTurn states) appends.states is.in_turn)

  pub appended : IsChange meanings (change_to meanings before after) (table_images (last_state before).table) (table_images (last_state after).table)
  appended =
      record {
        stated = record {
          old = valid_side meanings (last_state before) (latest_valid meanings before was);
          new = valid_side meanings (last_state after) (latest_valid meanings after is);
          steady = separated.steady;
        };
        old_images = images_known (last_state before).table;
        new_images = images_known (last_state after).table;
        images = separated.images;
      }

  -- a state with the nodes that are stated of it
  abbrev stated_scene : State Table Op → List (Node Op) → Scene Op
  stated_scene state nodes = record { table = table_images state.table; nodes = nodes }

  nodes_of : (state : State Table Op) → specs_of (stated meanings (table_shapes state.table) state.nodes) ≡ state.nodes
  nodes_of state = stated-nodes meanings (table_shapes state.table) state.nodes

  pub leave_right : (list : List Cached) → AreRight meanings (scene_of (last_state before)) list →
      AreRight meanings (scene_of (last_state after)) (without_damaged by_pair (damage same meanings (change_to meanings before after)) list)
  leave_right list right =
      subst (λ nodes. AreRight meanings (stated_scene (last_state after) nodes) (without_damaged by_pair (damage same meanings (change_to meanings before after)) list)) (nodes_of (last_state after))
      (stay_right same meanings (change_to meanings before after) (table_images (last_state before).table) (table_images (last_state after).table) laws distinguishes appended list
      (subst (λ nodes. AreRight meanings (stated_scene (last_state before) nodes) list) (sym (nodes_of (last_state before))) right))
