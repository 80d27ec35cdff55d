use Rattle.std.proofs.Common.{◌≡◌, ◌+◌, ◌<◌, ℕ, List, [], drop, get_or, length, sym, ap, ◌∙◌, rules}
use Rattle.std.specs.Prelude.{is_some}
use Rattle.std.specs.Map.{lookup}
use Rattle.std.proofs.lemmas.List.{drop_all}
use Rattle.plane_rect.specs.Tile.{Tile, same_tile}
use Rattle.op_contracts.proofs.Distinct.{distinct-lacks, distinct-next, distinct-none, found-in-rest, is_some-map, none-from}
use Rattle.op_contracts.proofs.window_tiles.WindowTiles.are_distinct.Goals as goal
use Rattle.op_contracts.proofs.window_tiles.WindowTiles.are_distinct.Goals.{After-find_tile}

-- where an entry was looked for among those after it
module _ (c : After-find_tile) where
  abbrev all : List (Tile × List ℕ)
  all = c.args.self.now

  abbrev n : ℕ
  n = c.loop-number.number

  abbrev entry : Tile × List ℕ
  entry = c.entry-item.result

  given : c.deref-entry-items.result.now ≡ all
  given = c.deref-entry-items.ensures.value ∙ c.self.view_is

  below : n < length all
  below = rw given at c.loop-number-test.true

  is : entry ≡ get_or all n entry
  is = rw given at c.entry-item.is

  found : is_some (lookup (same_tile entry.0) (drop (n + 1) all)) ≡ is_some c.find_tile.result
  found =
      sym (ap is_some (c.find_tile.ensures ∙ found-in-rest c.deref.result.now all (n + 1) entry.0 (c.deref.ensures.value ∙ c.self.view_is)))
      ∙ is_some-map (λ x. x.now) c.find_tile.result

pub returns-then-is_some : goal.returns-then-is_some
returns-then-is_some c =
    let at = (goal.at.returns-then-is_some c).After-find_tile in
    let some = found at ∙ sym c.if-is_some.ensures in (
      λ h. absurd (cc h),
      λ distinct.
          let lacks = distinct-lacks (all at) (n at) (entry at) (below at) (is at) (c.loop-number.invariant.0 distinct) in
          absurd (cc (sym some ∙ ap is_some lacks)),
    )

pub loop-number-preserved : goal.loop-number-preserved
loop-number-preserved c =
    let at = (goal.at.loop-number-preserved c).After-find_tile in
    let none = found at ∙ sym c.if-is_some.ensures in
    let next = distinct-next (all at) (n at) (entry at) (below at) (is at) (none-from _ none) in
    (λ h. next.0 (c.loop-number.invariant.0 h), λ h. c.loop-number.invariant.1 (next.1 h))

pub returns : goal.returns
returns c =
    let given : c.deref-entry-items.result.now ≡ c.args.self.now = c.deref-entry-items.ensures.value ∙ c.self.view_is in
    let none : drop c.loop-number.number c.args.self.now ≡ [] = drop_all c.loop-number.number c.args.self.now (rw given at c.loop-number-test.false) in
    (λ h. c.loop-number.invariant.1 (rw none distinct-none), λ h. search rules)
