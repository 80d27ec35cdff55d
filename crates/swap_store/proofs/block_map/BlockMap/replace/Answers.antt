use Rattle.std.proofs.Common.{◌≡◌, ◌<◌, Some, length, get_or, arith, sym, ap, ◌∙◌, rules}
use Rattle.std.specs.FinMap as map
use Rattle.std.specs.Option.{is_some}
use Rattle.std.proofs.lemmas.List.{get_or_default}
use Rattle.swap_store.proofs.PlacementLaws.{LeavesOld, leaves_old, len_moved}
use Rattle.swap_store.proofs.block_map.BlockMap.replace.Goals.{After-take_first}
use Rattle.swap_store.proofs.block_map.BlockMap.replace.Goals as goal

pub unwrap-old-requires : goal.unwrap-old-requires
unwrap-old-requires c =
    rw c.get.ensures (rw (← c.self.view_is) at c.requires.present)

module _ (c : After-take_first) where
  there : map.get c.self.inside.extents c.args.name ≡ Some c.unwrap-old.result
  there = sym c.get.ensures ∙ c.unwrap-old.ensures

  old : LeavesOld c.self.inside.extents c.take_first.new.runs.items c.self.inside.used c.args.name
      (record { first = c.index.result.now.first; len = c.args.len }) c.unwrap-old.result
  old =
      leaves_old c.self.inside.extents c.self.inside.free.items c.take_first.new.runs.items c.self.inside.used c.args.name c.args.len c.args.index
      c.index.result.now c.unwrap-old.result c.self.invariant.0 there c.requires.room.size (rw (← c.self.view_is) at c.requires.room.known)
      c.index.ensures (rw (← c.self.view_is) at c.requires.room.long)
      (rw (c.reserve_runs.ensures.items, c.blocks_for-count.ensures) at c.take_first.ensures.blocks)

pub give_back-requires-clause-given : goal.give_back-requires-clause-given
give_back-requires-clause-given c = rw c.blocks_for.ensures (old (goal.at.give_back-requires-clause-given c).After-take_first).some

pub give_back-requires-clause-bound : goal.give_back-requires-clause-bound
give_back-requires-clause-bound c = rw c.blocks_for.ensures (old (goal.at.give_back-requires-clause-bound c).After-take_first).bound

pub give_back-requires-clause-apart : goal.give_back-requires-clause-apart
give_back-requires-clause-apart c = rw c.blocks_for.ensures (old (goal.at.give_back-requires-clause-apart c).After-take_first).apart

pub invariant_of-self-2 : goal.invariant_of-self-2
invariant_of-self-2 c =
    let at = (goal.at.invariant_of-self-2 c).After-take_first in rw c.set.ensures (
      (old at).placed c.give_back.new.runs.items c.give_back.ensures.list (rw c.blocks_for.ensures at c.give_back.ensures.blocks),
      omega (
        arith,
        c.take_first.ensures.shorter,
        c.take_first.ensures.capacity,
        c.give_back.ensures.longer,
        c.give_back.ensures.capacity,
        c.in_ok-reserve_runs.ensures.room,
        c.len.ensures,
        len_moved c.self.inside.extents c.args.name (record { first = c.index.result.now.first; len = c.args.len }) (ap is_some (there at)),
      ),
    )

pub returns : goal.returns
returns c = record {
  extents = λ d.
      let run = c.index.result.now in
      let xs = c.self.inside.free.items in
      let lt : c.args.index < length xs = rw (← c.self.view_is) at c.requires.room.known in
      let same : get_or xs c.args.index d ≡ run = get_or_default xs c.args.index d run lt ∙ sym c.index.ensures in
      rw (← c.self.view_is, same) c.set.ensures;
  used = search rules;
  unchanged = search rules;
}
