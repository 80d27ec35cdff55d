use Rattle.std.proofs.Common.{◌≡◌, ◌+◌, ◌<◌, ◌≤◌, Option, length, get_or, arith, rules}
use Rattle.outside_io.specs.Swap.{Blocks, UnchangedOutside}
use Rattle.swap_store.specs.Content.{content_of}
use Rattle.swap_store.specs.Run.{blocks_for, IsFirstFit, longest}
use Rattle.swap_store.proofs.FoundRoom.{content-beside, fit-longest, no_run, room-used}
use Rattle.swap_store.proofs.store.Store.write_beside.Given
use Rattle.swap_store.proofs.store.Store.write_beside.Goals.{After-free_runs, In_ok-index}
use Rattle.swap_store.proofs.store.Store.write_beside.Goals as goal

module _ (g : Given.Over) (c : In_ok-index g) where
  fit : IsFirstFit c.self.inside.map.free (blocks_for (length c.args.tile.now)) c.in_ok-index.index
  fit = rw c.bytes-bytes.ensures.value at c.in_ok-index.ensures.found

  not_full : longest c.args.self.now.placement.free < blocks_for (length c.args.tile.now) → ⊥
  not_full lt = omega (arith, fit-longest c.self.inside.map.free (blocks_for (length c.args.tile.now)) c.in_ok-index.index fit, rw (← c.self.view_is) at lt)

module _ (g : Given.Over) (c : After-free_runs g) (fit : IsFirstFit c.self.inside.map.free (blocks_for (length c.args.tile.now)) c.in_ok-index.index) where
  used : (get_or c.free_runs.result.now c.in_ok-index.index no_run).first + blocks_for (length c.bytes-bytes.result.now) ≤ c.self.inside.map.used
  used =
      rw (c.free_runs.ensures.value, c.bytes-bytes.ensures.value)
      (room-used c.self.inside.map c.free_runs.ensures.laws (length c.args.tile.now) c.in_ok-index.index no_run c.bytes-bytes.ensures.size fit)

  content : (new : Option Blocks) → UnchangedOutside (get_or c.free_runs.result.now c.in_ok-index.index no_run).first (blocks_for (length c.bytes-bytes.result.now)) (g.D.SwapDisk.blocks c.self.inside.disk) new
      → content_of c.args.self.now.placement.extents new ≡ content_of c.args.self.now.placement.extents (g.D.SwapDisk.blocks c.args.self.now.disk)
  content new others =
      rw (← c.self.view_is)
      (content-beside c.self.inside.map c.free_runs.ensures.laws (length c.args.tile.now) c.in_ok-index.index no_run c.bytes-bytes.ensures.size fit _ new
      (rw (c.free_runs.ensures.value, c.bytes-bytes.ensures.value) at others))

pub write_extent-requires-clause-known : goal.write_extent-requires-clause-known
write_extent-requires-clause-known g c =
    let at = goal.at.write_extent-requires-clause-known g c in
    omega (arith, used g at.After-free_runs (fit g at.In_ok-index), c.self.invariant.0)

pub write_extent-requires-clause-bound : goal.write_extent-requires-clause-bound
write_extent-requires-clause-bound g c =
    let at = goal.at.write_extent-requires-clause-bound g c in
    omega (arith, used g at.After-free_runs (fit g at.In_ok-index), c.free_runs.ensures.laws.bounded)

pub returns-in_err-write_extent : goal.returns-in_err-write_extent
returns-in_err-write_extent g c =
    let at = goal.at.returns-in_err-write_extent g c in
    let same = content g at.After-free_runs (fit g at.In_ok-index) _ c.write_extent.ensures.others in
    let fits = not_full g at.In_ok-index in
    search rules

pub returns : goal.returns
returns g c =
    let at = goal.at.returns g c in
    let same = content g at.After-free_runs (fit g at.In_ok-index) _ c.write_extent.ensures.others in
    let fits = not_full g at.In_ok-index in
    search rules
