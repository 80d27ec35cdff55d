-- What reads of levels leave of a root and its chain.
use Rattle.std.specs.Prelude.{◌≡◌, ℕ, ◌+◌, ◌-◌, ◌≤◌}
use Rattle.chain_owners.specs.Counts.{Continues, Counts}
use Rattle.chain_owners.specs.Held.{Held}
use Rattle.chain_owners.specs.Owners.{Respects}
use Rattle.level_tables.specs.Steps.{level_count}
use Rattle.model_images.specs.TileCounts.{level_tiles}
use Rattle.root_tiles.specs.Roots.{IsRootOver, RootTiles, root_image, root_names}

-- a root, and what its chain holds and counts
pub record RootState : Type 0 where
  pub root : RootTiles
  pub held : Held
  pub counts : Counts

abbrev pub root_state : RootTiles → Held → Counts → RootState
root_state root held counts = record { root = root; held = held; counts = counts }

-- How many names a chain has at most after all tiles of the levels 1 to z of a root are held.
abbrev pub names_with_root_levels : ℕ → RootState → ℕ
names_with_root_levels z now =
    now.counts.names + (level_tiles now.root.box z - level_count z now.root.tiles.levels)

-- Tiles of the levels 1 to z of a root may be held that weren't. Its image is unchanged, and so is what others hold.
pub record HoldsMoreTiles (z : ℕ) (old new : RootState) : Type 0 where
  pub root : new.root ≡ record old.root { tiles = record old.root.tiles { levels = new.root.tiles.levels } }
  pub image : root_image new.root new.held ≡ root_image old.root old.held
  pub over : IsRootOver new.root new.held
  pub others : Respects old.held new.held (root_names old.root) (root_names new.root)
  pub counts : Continues old.counts new.counts
  pub names : (top : ℕ) → z ≤ top → names_with_root_levels top new ≤ names_with_root_levels top old
