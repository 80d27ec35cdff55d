-- The free run that was found for a tile.
use Rattle.std.proofs.Common.{◌≡◌, ℕ, suc, zero, ◌+◌, ◌-◌, ◌<◌, ◌≤◌, List, [], ◌∷◌, Option, length, get_or, arith}
use Rattle.outside_io.specs.Swap.{Blocks, UnchangedOutside}
use Rattle.tile_cow.specs.Tile.{IsTileLength}
use Rattle.chain_owners.specs.declared.run.Run.{Run}
use Rattle.swap_store.specs.Run.{blocks_for, InBlocks, HasBlock, IsFirstFit, longest}
use Rattle.swap_store.specs.Placement.{Placement, IsPlacement}
use Rattle.swap_store.specs.Content.{content_of}
use Rattle.swap_store.proofs.Contents.{content-unchanged}
use Rattle.swap_store.proofs.RunLists.{HasBlock-at}
use Rattle.swap_store.proofs.PlacementLaws.{blocks_for-some}

-- the run that a list has where it has none
abbrev pub no_run : Run
no_run = record { first = 0; count = 0 }

run_at_most : (runs : List Run) (i : ℕ) (d : Run) → i < length runs → (get_or runs i d).count ≤ longest runs
run_at_most [] i d lt = absurd (omega arith)
run_at_most (x ∷ xs) zero d lt = omega arith
run_at_most (x ∷ xs) (suc i) d lt = omega (arith, run_at_most xs i d (omega arith))

-- where a run is long enough, the longest is
pub fit-longest : (runs : List Run) (needed i : ℕ) → IsFirstFit runs needed i → needed ≤ longest runs
fit-longest runs needed i fit =
    omega (arith, run_at_most runs i no_run fit.within, fit.long no_run)

module _ (p : Placement) (laws : IsPlacement p) (len i : ℕ) (d : Run) (size : IsTileLength len) (fit : IsFirstFit p.free (blocks_for len) i) where
  pub room-free : (b : ℕ) → InBlocks b (get_or p.free i d).first (blocks_for len) → HasBlock p.free b
  room-free b is_inside = HasBlock-at p.free i d b fit.within (record { low = is_inside.low; high = omega (arith, is_inside.high, fit.long d) })

  pub room-used : (get_or p.free i d).first + blocks_for len ≤ p.used
  room-used =
      let some = blocks_for-some len size.0 in
      let first = (get_or p.free i d).first in
      omega (
        arith,
        ((laws.exact (first + blocks_for len - 1)).0
            (room-free (first + blocks_for len - 1) (record { low = omega (arith, some); high = omega (arith, some) }))).0,
      )

  -- the bytes of names are unchanged where that run was written
  pub content-beside : (old new : Option Blocks) → UnchangedOutside (get_or p.free i d).first (blocks_for len) old new
      → content_of p.extents new ≡ content_of p.extents old
  content-beside old new unchanged =
      content-unchanged p laws (get_or p.free i d).first (blocks_for len) (blocks_for-some len size.0) room-free old new unchanged
