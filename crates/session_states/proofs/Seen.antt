-- What versions of buffers show.
use Rattle.std.proofs.Common.{◌≡◌, List, [], ◌∷◌, Option, map, refl, ap, ◌∙◌}
use Rattle.chain_owners.specs.Held.{Held}
use Rattle.model_buffers.specs.Table.{Table}
use Rattle.buffer_view.specs.BufferTables.{BufferTable, table_of}
use Rattle.session_states.specs.OverChains.{AreAllSame, tables_of}
use Rattle.session_states.specs.Versions.{Versions, all_versions, committed_versions}
use Rattle.session_states.proofs.Beside.{all-first, all-second}

abbrev seen : Held → List BufferTable → List (Option Table)
seen held buffers = map (λ (b : BufferTable). table_of b held) buffers

module _ (old new : Held) where
  lists-same : (buffers : List BufferTable) → AreAllSame old new buffers → seen new buffers ≡ seen old buffers
  lists-same [] same = refl
  lists-same (b ∷ rest) same =
      ap (λ (t : Option Table). t ∷ seen new rest) same.0 ∙ ap (λ (ts : List (Option Table)). table_of b old ∷ ts) (lists-same rest same.1)

  -- so the tables of the states, beside whatever is edited
  pub states-same : (versions : Versions BufferTable) → AreAllSame old new (committed_versions versions)
      → tables_of versions new ≡ record (tables_of versions old) { working = table_of versions.working new }
  states-same versions same =
      let P = λ (b : BufferTable). table_of b new ≡ table_of b old in
      let working = table_of versions.working new in
      let undoable = lists-same versions.undoable (all-first P versions.undoable versions.redoable same.1) in
      let redoable = lists-same versions.redoable (all-second P versions.undoable versions.redoable same.1) in
      ap (λ (t : Option Table).
      let all : Versions (Option Table) =
      record { working = working; latest = t; undoable = seen new versions.undoable; redoable = seen new versions.redoable } in all) same.0
      ∙ ap (λ (ts : List (Option Table)).
      let all : Versions (Option Table) =
      record { working = working; latest = table_of versions.latest old; undoable = ts; redoable = seen new versions.redoable } in all) undoable
      ∙ ap (λ (ts : List (Option Table)).
      let all : Versions (Option Table) =
      record { working = working; latest = table_of versions.latest old; undoable = seen old versions.undoable; redoable = ts } in all) redoable

  pub versions-same : (versions : Versions BufferTable) → AreAllSame old new (all_versions versions) → tables_of versions new ≡ tables_of versions old
  versions-same versions same =
      states-same versions same.1
      ∙ ap (λ (t : Option Table). let all : Versions (Option Table) = record (tables_of versions old) { working = t } in all) same.0
