use Rattle.std.proofs.Common.{ℕ, ◌+◌, ◌≤◌, List, arith, subst, sym}
use Rattle.std.proofs.lemmas.Result.{IfErr-weaker, IfOk-weaker}
use Rattle.chain_owners.specs.Counts.{Counts}
use Rattle.chain_owners.specs.Held.{Held}
use Rattle.level_tables.specs.LevelTiles.{image_of}
use Rattle.level_tables.specs.Over.{IsTileOfLevel}
use Rattle.level_tables.specs.Steps.{names_with_levels, state}
use Rattle.model_images.specs.TileCounts.{level_tiles}
use Rattle.chain_owners.specs.Cause.{HasSwapCause}
use Rattle.chain_owners.specs.declared.swap_refused.SwapRefused.{SwapRefused}
use Rattle.root_tiles.specs.Growth.{HoldsMoreTiles, RootState, names_with_root_levels, root_state}
use Rattle.root_tiles.specs.Roots.{IsRootOver, RootTiles, root_image}
use Rattle.root_tiles.proofs.MoreTiles.{box-cause, box-cause-plain, root-holds, root-level, tiles-names}
use Rattle.root_tiles.proofs.root.Root.tile.Given
use Rattle.root_tiles.proofs.root.Root.tile.Goals.{After-tile}
use Rattle.root_tiles.proofs.root.Root.tile.Goals as goal

module _ (g : Given.Over) (c : After-tile g) where
  -- the root as it is inside, which is the one that was given
  abbrev root : RootTiles
  root = record { box = c.self.inside.bounds; tiles = c.self.inside.table.tiles }

  abbrev held : Held
  held = g.C.ChainMeaning.held c.args.chain.now

  abbrev counts : Counts
  counts = g.C.ChainMeaning.counts c.args.chain.now

  abbrev counts' : Counts
  counts' = g.C.ChainMeaning.counts c.tile.new.chain

  abbrev after : RootState
  after = root_state (record { box = c.self.inside.bounds; tiles = c.tile.new.self.tiles }) (g.C.ChainMeaning.held c.tile.new.chain) counts'

  over : IsRootOver root held
  over = subst (λ (r : RootTiles). IsRootOver r held) (sym c.self.view_is) c.requires.over

  holds : HoldsMoreTiles c.args.level (root_state root held counts) after
  holds = root-holds c.args.level root c.tile.new.self.tiles held (g.C.ChainMeaning.held c.tile.new.chain) counts counts' over c.tile.ensures.more

pub returns-clause-bytes : goal.returns-clause-bytes
returns-clause-bytes g c =
    let at = (goal.at.returns-clause-bytes g c).After-tile in
    let P : RootTiles → List ℕ → Type 0 = λ r. IsTileOfLevel (root_image r (held g at)) c.args.level c.args.at in
    IfOk-weaker c.tile.result (IsTileOfLevel (image_of (root g at).tiles (held g at)) c.args.level c.args.at) (P c.args.self.now)
    (λ tile is. subst (λ (r : RootTiles). P r tile) c.self.view_is (root-level (root g at) (held g at) (over g at) c.args.level c.args.at tile is)) c.tile.ensures.bytes

pub returns-clause-more : goal.returns-clause-more
returns-clause-more g c =
    let at = (goal.at.returns-clause-more g c).After-tile in
    subst (λ (r : RootTiles). HoldsMoreTiles c.args.level (root_state r (held g at) (counts g at)) (after g at)) c.self.view_is (holds g at)

pub returns-clause-names : goal.returns-clause-names
returns-clause-names g c =
    let at = (goal.at.returns-clause-names g c).After-tile in
    subst (λ (r : RootTiles). (counts' g at).names ≤ (counts g at).names + level_tiles r.box c.args.level) c.self.view_is
    (tiles-names c.args.level (root_state (root g at) (held g at) (counts g at)) (after g at) (holds g at))

pub returns-clause-cause : goal.returns-clause-cause
returns-clause-cause g c =
    let at = (goal.at.returns-clause-cause g c).After-tile in
    let P : RootTiles → SwapRefused → Type 0 = λ r. HasSwapCause (counts g at) (counts' g at) ((counts g at).names + level_tiles r.box c.args.level) in
    IfErr-weaker c.tile.result (HasSwapCause (counts g at) (counts' g at) (names_with_levels c.args.level (state (root g at).tiles (held g at) (counts g at)))) (P c.args.self.now)
    (λ refused is. subst (λ (r : RootTiles). P r refused) c.self.view_is (box-cause-plain (root g at) (held g at) (counts g at) (counts' g at) c.args.level refused (over g at) is))
    (c.tile.ensures.causes c.args.level (omega arith))

pub returns-clause-causes : goal.returns-clause-causes
returns-clause-causes g c = λ top low.
    let at = (goal.at.returns-clause-causes g c).After-tile in
    let P : RootTiles → SwapRefused → Type 0 = λ r. HasSwapCause (counts g at) (counts' g at) (names_with_root_levels top (root_state r (held g at) (counts g at))) in
    IfErr-weaker c.tile.result (HasSwapCause (counts g at) (counts' g at) (names_with_levels top (state (root g at).tiles (held g at) (counts g at)))) (P c.args.self.now)
    (λ refused is. subst (λ (r : RootTiles). P r refused) c.self.view_is (box-cause (root g at) (held g at) (counts g at) (counts' g at) top refused (over g at) is))
    (c.tile.ensures.causes top low)
