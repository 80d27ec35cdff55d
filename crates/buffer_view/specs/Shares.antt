-- Roots that are shared.
use Rattle.std.specs.Prelude.{◌≡◌, ◌++◌, All, List}
use Rattle.chain_owners.specs.Owners.{Owns, Respects}
use Rattle.root_tiles.specs.Chains.{ChainState}
use Rattle.root_tiles.specs.Roots.{IsRootOver, RootTiles}
use Rattle.buffer_view.specs.BufferTables.{names_of_roots}

-- Roots were shared, some of which are these: each name has an owner more for each time that they hold it, and nothing
-- else changed.
pub record Shares (roots shared : List RootTiles) (old new : ChainState) : Type 0 where
  pub lengths : new.held.lengths ≡ old.held.lengths
  pub content : new.held.content ≡ old.held.content
  pub over : All (λ root. IsRootOver root new.held) roots
  pub shared_over : All (λ root. IsRootOver root new.held) shared
  pub owned : Owns new.held (names_of_roots roots ++ names_of_roots shared)
  pub others : Respects old.held new.held (names_of_roots roots) (names_of_roots roots ++ names_of_roots shared)
  pub counts : new.counts ≡ old.counts
  pub loans : new.loans ≡ old.loans
  pub valid : old.valid → new.valid
