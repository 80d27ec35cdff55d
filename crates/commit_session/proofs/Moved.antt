-- Retained states over a chain that shows the same.
use Rattle.std.proofs.Common.{◌≡◌, Bool, sym, ap, subst, Option}
use Rattle.std.specs.List.{AllByRecursion}
use Rattle.chain_owners.specs.Held.{Held}
use Rattle.model_buffers.specs.Table.{Table}
use Rattle.model_graphs.specs.Meanings.{Meanings}
use Rattle.model_states.specs.Commits.{Graph}
use Rattle.model_states.specs.Rectangles.{Rectangles}
use Rattle.model_states.specs.Retained.{Retained}
use Rattle.model_states.specs.State.{State}
use Rattle.model_states.specs.declared.direction.Direction.TheVariants.{Undo, Redo}
use Rattle.buffer_view.specs.BufferTables.{BufferTable, table_of}
use Rattle.session_states.specs.OverChains.{tables_of}
use Rattle.session_states.specs.Versions.{Versions}
use Rattle.commit_session.specs.Parts.{Parts}
use Rattle.commit_session.specs.Seen.{AreOfTable, AreRetained}
use Rattle.commit_session.proofs.Held.{IsSame, ahead-again, state-again, table-again}
use Rattle.commit_session.proofs.Working.{maps-same}

-- the tables of versions are seen alike
module _ (old new : Held) (versions : Versions BufferTable) (tables : tables_of versions new ≡ tables_of versions old) where
  working-same : IsSame old new versions.working
  working-same = ap (λ (v : Versions (Option Table)). v.working) tables

  pub working-moved : (table : Table) → AreOfTable versions.working old table → AreOfTable versions.working new table
  working-moved table of = table-again old new versions.working table working-same of

  latest-same : IsSame old new versions.latest
  latest-same = ap (λ (v : Versions (Option Table)). v.latest) tables

  undoable-same : AllByRecursion (IsSame old new) versions.undoable
  undoable-same =
      maps-same (λ (b : BufferTable). table_of b new) (λ (b : BufferTable). table_of b old) versions.undoable (ap (λ (v : Versions (Option Table)). v.undoable) tables)

  redoable-same : AllByRecursion (IsSame old new) versions.redoable
  redoable-same =
      maps-same (λ (b : BufferTable). table_of b new) (λ (b : BufferTable). table_of b old) versions.redoable (ap (λ (v : Versions (Option Table)). v.redoable) tables)

  module _ {Op : Type 0} (same : Op → Op → Bool) (meanings : Meanings Op) (parts : Parts Op) (graph : Graph Op) (retained : Retained (State Table Op) Rectangles) where
    abbrev held_by : Parts Op
    held_by = record parts { versions = versions; graph = graph }

    -- those of parts that have this graph and these versions
    pub retained-moved : (final : Parts Op) → final.versions ≡ versions → final.graph ≡ graph
        → AreRetained same meanings held_by old retained → AreRetained same meanings final new retained
    retained-moved final versions_is graph_is are =
        let latest = state-again old new graph.latest versions.latest retained.latest latest-same are.latest in
        let undoable = ahead-again old new same meanings Undo graph.latest graph.undoable versions.undoable retained.undoable undoable-same are.undoable in
        let redoable = ahead-again old new same meanings Redo graph.latest graph.redoable versions.redoable retained.redoable redoable-same are.redoable in
        let moved : AreRetained same meanings held_by new retained =
        record { number = are.number; latest = latest; undoable = undoable; redoable = redoable } in
        let seen = λ (v : Versions BufferTable) (g : Graph Op). let p : Parts Op = record parts { versions = v; graph = g } in AreRetained same meanings p new retained in
        let whole : seen final.versions final.graph =
        subst (λ (v : Versions BufferTable). seen v final.graph) (sym versions_is) (subst (λ (g : Graph Op). seen versions g) (sym graph_is) moved) in
        record { number = whole.number; latest = whole.latest; undoable = whole.undoable; redoable = whole.redoable }
