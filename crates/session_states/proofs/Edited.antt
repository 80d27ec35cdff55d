-- Versions of buffers of which those that are edited were handed to a call.
use Rattle.std.proofs.Common.{◌≡◌, ℕ, List, ◌++◌, refl, sym, ap, subst, ◌∙◌, Option, Result, arith}
use Rattle.chain_owners.specs.Owners.{Owns, Respects}
use Rattle.chain_owners.proofs.Growing.{grows-more, grows-same}
use Rattle.chain_owners.proofs.Ownership.{respects-same, times-append}
use Rattle.model_buffers.specs.Counts.{tiles_added}
use Rattle.model_buffers.specs.declared.edit.BufferEdit.{BufferEdit}
use Rattle.std.proofs.lemmas.Result.{IfErr-weaker}
use Rattle.model_buffers.specs.Table.{Table}
use Rattle.root_tiles.specs.Chains.{ChainState, Leaves}
use Rattle.buffer_view.proofs.Refusals.{added-cause}
use Rattle.buffer_view.specs.Edits.{AddsBuffer, EditsBuffers}
use Rattle.buffer_view.specs.declared.refused.BufferRefused.{BufferRefused}
use Rattle.buffer_view.specs.BufferTables.{AreBuffersOver, BufferTable, buffers_names, table_of}
use Rattle.session_states.specs.OverChains.{AreAllSame, AreVersionsOver, names_of_all, tables_of, versions_names}
use Rattle.session_states.specs.Versions.{Versions, committed_versions}
use Rattle.session_states.proofs.Beside.{over-again, owned-again, same-again}
use Rattle.session_states.proofs.Names.{leaves-beside}
use Rattle.session_states.proofs.Seen.{states-same}

-- the versions with others that are edited
abbrev pub with_working : Versions BufferTable → BufferTable → Versions BufferTable
with_working v edited = record { working = edited; latest = v.latest; undoable = v.undoable; redoable = v.redoable }

-- what is left of the versions where others are edited
pub record IsWorkedOn (now final : Versions BufferTable) (added : ℕ) (s0 s1 : ChainState) : Type 0 where
  pub tables : tables_of final s1.held ≡ record (tables_of now s0.held) { working = table_of final.working s1.held }
  pub over : AreVersionsOver final s1.held
  pub left : Leaves added (versions_names now) (versions_names final) s0 s1

module _ (v now : Versions BufferTable) (is : v ≡ now) (edited : BufferTable) (added : ℕ) (s0 s1 : ChainState)
    (leaves : Leaves added (buffers_names v.working) (buffers_names edited) s0 s1) (requires : AreVersionsOver now s0.held) where
  over : AreVersionsOver v s0.held
  over = subst (λ (v : Versions BufferTable). AreVersionsOver v s0.held) (sym is) requires

  states : List BufferTable
  states = committed_versions v

  owns : Owns s0.held (buffers_names v.working ++ names_of_all (committed_versions v))
  owns = over.owned

  same : AreAllSame s0.held s1.held (committed_versions v)
  same = same-again s0.held s1.held (buffers_names v.working) (buffers_names edited) leaves.others (committed_versions v) owns

  pub edited-over : AreBuffersOver edited s1.held → AreVersionsOver (with_working v edited) s1.held
  edited-over first = record {
    owned = owned-again s0.held s1.held (buffers_names v.working) (buffers_names edited) leaves.others (committed_versions v) owns;
    over = (first, over-again s0.held s1.held (buffers_names v.working) (buffers_names edited) leaves.others (committed_versions v) owns over.over.1);
  }

  edited-tables : tables_of (with_working v edited) s1.held ≡ record (tables_of now s0.held) { working = table_of edited s1.held }
  edited-tables =
      states-same s0.held s1.held (with_working v edited) same
      ∙ ap (λ (v : Versions BufferTable). let all : Versions (Option Table) = record (tables_of v s0.held) { working = table_of edited s1.held } in all) is

  pub read-tables : table_of edited s1.held ≡ table_of v.working s0.held → tables_of (with_working v edited) s1.held ≡ tables_of now s0.held
  read-tables first =
      states-same s0.held s1.held (with_working v edited) same
      ∙ ap (λ (t : Option Table). let all : Versions (Option Table) = record (tables_of v s0.held) { working = t } in all) first
      ∙ ap (λ (v : Versions BufferTable). tables_of v s0.held) is

  pub edited-left : Leaves added (versions_names now) (versions_names (with_working v edited)) s0 s1
  edited-left =
      subst (λ (v' : Versions BufferTable). Leaves added (versions_names v') (versions_names (with_working v edited)) s0 s1) is
      (leaves-beside added (buffers_names v.working) (buffers_names edited) (versions_names v) (versions_names (with_working v edited)) (names_of_all (committed_versions v)) s0 s1 leaves
      (times-append (buffers_names v.working) (names_of_all (committed_versions v))) (times-append (buffers_names edited) (names_of_all (committed_versions v))))

  pub worked-on : AreBuffersOver edited s1.held → IsWorkedOn now (with_working v edited) added s0 s1
  worked-on first = record { tables = edited-tables; over = edited-over first; left = edited-left }

-- ---- buffers that a call edited that takes no chain

pub added-edits : {X : Type 0} (edit : BufferEdit) (result : Result X BufferRefused) (old new : BufferTable) (state : ChainState) → AddsBuffer edit result old new
    → AreBuffersOver old state.held → EditsBuffers edit result old new state state
added-edits edit result old new state added over = record {
  layout = added.layout;
  table = added.table state.held;
  exact = added.exact;
  cause = IfErr-weaker result _ _ (added-cause old.layout edit state.counts state.counts) added.cause;
  carried_out = added.carried_out;
  over = added.over state.held over;
  left = record {
    others = subst (λ (names : List ℕ). Respects state.held state.held (buffers_names old) names) (sym added.names) (respects-same state.held (buffers_names old));
    counts = grows-more 0 (tiles_added edit) state.counts state.counts (omega arith) (grows-same state.counts);
    loans = refl;
    valid = λ valid. valid;
  };
}
