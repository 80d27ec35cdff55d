-- Versions of buffers whose tiles are in one chain.
use Rattle.std.specs.Prelude.{◌≡◌, ℕ, List, [], ◌∷◌, ◌++◌, MatchResult, Option, Result}
use Rattle.std.specs.List.{AllByRecursion}
use Rattle.chain_owners.specs.Held.{Held}
use Rattle.chain_owners.specs.Owners.{Owns}
use Rattle.model_buffers.specs.Table.{Table}
use Rattle.root_tiles.specs.Chains.{ChainState, Leaves}
use Rattle.buffer_view.specs.BufferTables.{AreBuffersOver, BufferTable, buffers_names, table_of}
use Rattle.session_states.specs.Versions.{Versions, all_versions, map_versions}

-- ---- names

-- the names that buffers hold, each as often as it is held
abbrev pub names_of_all : List BufferTable → List ℕ
names_of_all [] = []
names_of_all (buffers ∷ rest) = buffers_names buffers ++ names_of_all rest

abbrev pub versions_names : Versions BufferTable → List ℕ
versions_names versions = names_of_all (all_versions versions)

-- ---- what is asked, and what is seen

-- what each of some buffers asks of a chain
abbrev pub AreAllOver : List BufferTable → Held → Type 0
AreAllOver buffers held = AllByRecursion (λ (b : BufferTable). AreBuffersOver b held) buffers

-- What versions of buffers ask of a chain: that it owns all their names, and what each asks.
pub record AreVersionsOver (versions : Versions BufferTable) (held : Held) : Type 0 where
  pub owned : Owns held (versions_names versions)
  pub over : AreAllOver (all_versions versions) held

-- the tables of their images, where the chain exposes its bytes
abbrev pub tables_of : Versions BufferTable → Held → Versions (Option Table)
tables_of versions held = map_versions (λ (b : BufferTable). table_of b held) versions

-- each of some buffers shows over one chain what it shows over another
abbrev pub AreAllSame : Held → Held → List BufferTable → Type 0
AreAllSame old new buffers = AllByRecursion (λ (b : BufferTable). table_of b new ≡ table_of b old) buffers

-- ---- what calls leave

-- The versions show what they showed over the chain before, and others of these names that were held are released.
pub record IsReleased (before : List ℕ) (final : Versions BufferTable) (old new : ChainState) : Type 0 where
  pub tables : tables_of final new.held ≡ tables_of final old.held
  pub over : AreVersionsOver final new.held
  pub left : Leaves 0 before (versions_names final) old new

-- The versions show what they showed, and these names are owned beside theirs.
pub record IsShared (now : Versions BufferTable) (more : List ℕ) (old new : ChainState) : Type 0 where
  pub tables : tables_of now new.held ≡ tables_of now old.held
  pub over : AreVersionsOver now new.held
  pub owned : Owns new.held (more ++ versions_names now)
  pub left : Leaves 0 (versions_names now) (more ++ versions_names now) old new

-- Buffers that are given are owned beside the versions, and where none are, nothing more is.
abbrev pub AreShared : {E : Type 0} → Versions BufferTable → Result BufferTable E → ChainState → ChainState → Type 0
AreShared now given old new =
    MatchResult given (λ shared. IsShared now (buffers_names shared) old new) (λ refused. IsShared now [] old new)
