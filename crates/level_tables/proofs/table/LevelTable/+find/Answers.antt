use Rattle.std.proofs.Common.{◌≡◌, ℕ, List, Option, ◌-◌, ◌≤◌, ◌∙◌, None, Err, inl, inr, true≢false, sym, arith, rules}
use Rattle.std.proofs.lemmas.Bool.{not-true}
use Rattle.std.proofs.lemmas.Grind.{common_steps}
use Rattle.std.proofs.lemmas.Result.{IfErr-weaker, IfOk-weaker, err_from_is_err_and}
use Rattle.plane_rect.specs.Tile.{Tile}
use Rattle.chain_owners.specs.Cause.{HasSwapCause}
use Rattle.chain_owners.specs.declared.swap_refused.SwapRefused.{SwapRefused}
use Rattle.level_tables.specs.LevelTiles.{LevelTiles, image_of, positions}
use Rattle.level_tables.specs.Steps.{HoldsMore, State, names_with_levels, state}
use Rattle.level_tables.specs.Found.{Finds, IsFound, IsInHalf, name_in, tile_below}
use Rattle.level_tables.specs.declared.level_tile.LevelTile.{LevelTile}
use Rattle.level_tables.proofs.Finding.{level-none, none-below}
use Rattle.level_tables.proofs.Holding.{absent-kept, cause-next, found-before, found-still, holds-both, holds-raise, holds-read}
use Rattle.level_tables.proofs.table.LevelTable.+find.Given
use Rattle.level_tables.proofs.table.LevelTable.+find.Goals.{After-held_tile, After-find, After-find-4}
use Rattle.level_tables.proofs.table.LevelTable.+find.Goals as goal

-- ---- what is held after the calls

module _ (g : Given.Over) where
  abbrev seen : LevelTiles → g.row.C.Denot → State
  seen tiles chain = state tiles (g.C.ChainMeaning.held chain) (g.C.ChainMeaning.counts chain)

  module _ (t : ℕ) where
    looked : (c : After-held_tile g t) → HoldsMore (c.args.level - 1) (seen c.args.self.now.tiles c.args.chain.now) (seen c.args.self.now.tiles c.held_tile.new.chain)
    looked c = holds-read _ _ _ _ _ _ c.requires.over c.held_tile.ensures.held c.held_tile.ensures.counts

    first : (c : After-find g t) → HoldsMore (c.args.level - 1) (seen c.args.self.now.tiles c.args.chain.now) (seen c.find.new.self.tiles c.find.new.chain)
    first c = holds-both _ _ _ _ (holds-read _ _ _ _ _ _ c.requires.over c.held_tile.ensures.held c.held_tile.ensures.counts) c.find.ensures.finds.more

    -- after all four
    module _ (c : After-find-4 g t) where
      abbrev below : ℕ
      below = c.args.level - 1

      abbrev start : State
      start = seen c.args.self.now.tiles c.args.chain.now

      abbrev s0 : State
      s0 = seen c.args.self.now.tiles c.held_tile.new.chain

      abbrev s1 : State
      s1 = seen c.find.new.self.tiles c.find.new.chain

      abbrev s2 : State
      s2 = seen c.find-2.new.self.tiles c.find-2.new.chain

      abbrev s3 : State
      s3 = seen c.find-3.new.self.tiles c.find-3.new.chain

      abbrev s4 : State
      s4 = seen c.find-4.new.self.tiles c.find-4.new.chain

      m0 : HoldsMore below start s0
      m0 = holds-read _ _ _ _ _ _ c.requires.over c.held_tile.ensures.held c.held_tile.ensures.counts

      m1 : HoldsMore below start s1
      m1 = holds-both below start s0 s1 m0 c.find.ensures.finds.more

      m2 : HoldsMore below start s2
      m2 = holds-both below start s1 s2 m1 c.find-2.ensures.finds.more

      m3 : HoldsMore below start s3
      m3 = holds-both below start s2 s3 m2 c.find-3.ensures.finds.more

      m4 : HoldsMore below start s4
      m4 = holds-both below start s3 s4 m3 c.find-4.ensures.finds.more

      raised : HoldsMore c.args.level start s4
      raised = holds-raise below c.args.level start s4 (omega arith) m4

-- ---- a call that failed

-- a tile of the level below isn't found, after others were
failed : (below level : ℕ) (a b c : State) (refused : SwapRefused) → below ≤ level → HoldsMore below a b → HoldsMore below b c
    → ((top : ℕ) → below ≤ top → HasSwapCause b.counts c.counts (names_with_levels top b) refused) → {at : Tile} → Finds level at (Err refused) a c
failed below level a b c refused low before more cause = record {
  found = tt;
  more = holds-raise below level a c low (holds-both below a b c before more);
  cause = λ top high. let under : below ≤ top = omega (arith, low, high) in cause-next below a b c before top under refused (cause top under);
}

pub returns-in_err-upper_left-clause-finds : goal.returns-in_err-upper_left-clause-finds
returns-in_err-upper_left-clause-finds g t c =
    let at = (goal.at.returns-in_err-upper_left-clause-finds g t c).After-held_tile in
    let p = err_from_is_err_and c.from_residual-in_err-upper_left.result c.from_residual-in_err-upper_left.ensures.1 in
    rw (p.1, p.2) (failed (c.args.level - 1) c.args.level _ _ (seen g c.find.new.self.tiles c.find.new.chain) _ (omega arith)
    (looked g t at) c.find.ensures.finds.more c.in_err-upper_left.ensures.finds.cause)

pub returns-in_err-upper_right-clause-finds : goal.returns-in_err-upper_right-clause-finds
returns-in_err-upper_right-clause-finds g t c =
    let at = (goal.at.returns-in_err-upper_right-clause-finds g t c).After-find in
    let p = err_from_is_err_and c.from_residual-in_err-upper_right.result c.from_residual-in_err-upper_right.ensures.1 in
    rw (p.1, p.2) (failed (c.args.level - 1) c.args.level _ _ (seen g c.find-2.new.self.tiles c.find-2.new.chain) _ (omega arith)
    (first g t at) c.find-2.ensures.finds.more c.in_err-upper_right.ensures.finds.cause)

pub returns-in_err-lower_left-clause-finds : goal.returns-in_err-lower_left-clause-finds
returns-in_err-lower_left-clause-finds g t c =
    let at = (goal.at.returns-in_err-lower_left-clause-finds g t c).After-find in
    let p = err_from_is_err_and c.from_residual-in_err-lower_left.result c.from_residual-in_err-lower_left.ensures.1 in
    rw (p.1, p.2) (failed (c.args.level - 1) c.args.level _ _ (seen g c.find-3.new.self.tiles c.find-3.new.chain) _ (omega arith)
    (holds-both _ _ _ _ (first g t at) c.find-2.ensures.finds.more) c.find-3.ensures.finds.more c.in_err-lower_left.ensures.finds.cause)

pub returns-in_err-lower_right-clause-finds : goal.returns-in_err-lower_right-clause-finds
returns-in_err-lower_right-clause-finds g t c =
    let at = (goal.at.returns-in_err-lower_right-clause-finds g t c).After-find-4 in
    let p = err_from_is_err_and c.from_residual-in_err-lower_right.result c.from_residual-in_err-lower_right.ensures.1 in
    rw (p.1, p.2) (failed (c.args.level - 1) c.args.level _ _ (seen g c.find-4.new.self.tiles c.find-4.new.chain) _ (omega arith)
    (m3 g t at) c.find-4.ensures.finds.more c.in_err-lower_right.ensures.finds.cause)

-- ---- the four are averaged

pub hold_average-requires-clause-absent : goal.hold_average-requires-clause-absent
hold_average-requires-clause-absent g t c =
    let at = (goal.at.hold_average-requires-clause-absent g t c).After-find-4 in
    let key : LevelTile = record { level = c.args.level; tile = c.args.at } in
    let some : 1 ≤ c.args.level = first_of (search rules, grind (arith, common_steps)) in
    absent-kept _ _ _ (m4 g t at) key (omega arith) (level-none c.args.self.now.tiles c.args.level c.args.at some (rw c.in_default.is at c.in_ok-held.ensures.found))

pub hold_average-requires-clause-four : goal.hold_average-requires-clause-four
hold_average-requires-clause-four g t c =
    let at = (goal.at.hold_average-requires-clause-four g t c).After-find-4 in
    let last = (m4 g t at).kept in
    let still = λ (a : State) (tile other : Tile) (found : Option (List ℕ)). found-still (start g t at) a (s4 g t at) (below g t at) tile other found in
    record {
      upper_left = still (s0 g t at) _ (tile_below c.args.at 0 0) c.in_ok-upper_left.upper_left c.tile_below.ensures (m0 g t at).kept last c.in_ok-upper_left.ensures.finds.found;
      upper_right = still (s1 g t at) _ (tile_below c.args.at 1 0) c.in_ok-upper_right.upper_right c.tile_below-2.ensures (m1 g t at).kept last c.in_ok-upper_right.ensures.finds.found;
      lower_left = still (s2 g t at) _ (tile_below c.args.at 0 1) c.in_ok-lower_left.lower_left c.tile_below-3.ensures (m2 g t at).kept last c.in_ok-lower_left.ensures.finds.found;
      lower_right = still (s3 g t at) _ (tile_below c.args.at 1 1) c.in_ok-lower_right.lower_right c.tile_below-4.ensures (m3 g t at).kept last c.in_ok-lower_right.ensures.finds.found;
    }

pub returns-clause-finds : goal.returns-clause-finds
returns-clause-finds g t c =
    let at = (goal.at.returns-clause-finds g t c).After-find-4 in
    let old = start g t at in
    let now = s4 g t at in
    let last = seen g c.hold_average.new.self.tiles c.hold_average.new.chain in
    let finds = c.hold_average.ensures.finds in
    record {
      found = IfOk-weaker c.hold_average.result (IsFound (image_of now.tiles now.held) (positions now.tiles) now.tiles.format c.args.level c.args.at)
          (IsFound (image_of old.tiles old.held) (positions old.tiles) old.tiles.format c.args.level c.args.at)
          (λ o is. found-before old now c.args.level c.args.at o (m4 g t at).kept is) finds.found;
      more = holds-both _ _ _ _ (raised g t at) finds.more;
      cause = λ top low.
          IfErr-weaker c.hold_average.result (HasSwapCause now.counts last.counts (names_with_levels top now)) (HasSwapCause old.counts last.counts (names_with_levels top old))
          (λ e is. cause-next c.args.level old now last (raised g t at) top low e is) (finds.cause top low);
    }

-- ---- nothing is found

pub returns-then-not-may_be_above-clause-finds : goal.returns-then-not-may_be_above-clause-finds
returns-then-not-may_be_above-clause-finds g t c =
    let tiles = c.args.self.now.tiles in
    let none : name_in tiles c.args.level c.args.at ≡ None = rw c.in_default.is at c.in_ok-held.ensures.found in
    let out : ¬ ((1 ≤ c.args.level) × IsInHalf c.args.at) =
    λ both. (let yes = c.may_be_above.ensures.1 both in first_of (cc, grind (arith, yes), grind (arith, not-true, yes), search (rules, not-true, yes))) in
    record {
      found = none-below tiles c.args.level c.args.at c.requires.over.shape none out;
      more = holds-read _ _ _ _ _ _ c.requires.over c.held_tile.ensures.held c.held_tile.ensures.counts;
      cause = λ top low. tt;
    }

pub returns-then-not-may_have_below-clause-finds : goal.returns-then-not-may_have_below-clause-finds
returns-then-not-may_have_below-clause-finds g t c = record {
  found = elim c.may_have_below.ensures [
    | inl looks ↦ absurd (true≢false (sym looks ∙ c.if-not-may_have_below.true))
    | inr none ↦ none
  ];
  more = holds-read _ _ _ _ _ _ c.requires.over c.held_tile.ensures.held c.held_tile.ensures.counts;
  cause = λ top low. tt;
}
