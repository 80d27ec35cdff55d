use Rattle.std.proofs.Common.{◌≡◌, ◌<◌, length, get_or, arith, sym, ◌∙◌, rules}
use Rattle.std.proofs.lemmas.List.{get_or_default}
use Rattle.swap_store.proofs.PlacementLaws.{added, none_there, len_added}
use Rattle.swap_store.proofs.block_map.BlockMap.add.Goals as goal

pub returns : goal.returns
returns c = record {
  extents = λ d.
      let run = c.index.result.now in
      let xs = c.self.inside.free.items in
      let lt : c.args.index < length xs = rw (← c.self.view_is) at c.requires.room.known in
      let same : get_or xs c.args.index d ≡ run = get_or_default xs c.args.index d run lt ∙ sym c.index.ensures in
      rw (← c.self.view_is, same) c.in_ok-insert.ensures.inserted;
  used = search rules;
  unchanged = search rules;
}

pub invariant_of-self-2 : goal.invariant_of-self-2
invariant_of-self-2 c = rw c.in_ok-insert.ensures.inserted (
  added c.self.inside.extents c.self.inside.free.items c.take_first.new.runs.items c.self.inside.used
      c.args.name c.args.len c.args.index c.index.result.now c.self.invariant.0
      (none_there _ (rw (← c.self.view_is) at c.requires.absent)) c.requires.room.size
      (rw (← c.self.view_is) at c.requires.room.known) c.index.ensures
      (rw (← c.self.view_is) at c.requires.room.long) c.take_first.ensures.list
      (rw (c.reserve_runs.ensures.items, c.blocks_for-count.ensures) at c.take_first.ensures.blocks),
  omega (
    arith,
    c.take_first.ensures.shorter,
    c.take_first.ensures.capacity,
    c.in_ok-reserve_runs.ensures.room,
    c.len.ensures,
    len_added c.self.inside.extents c.args.name (record { first = c.index.result.now.first; len = c.args.len }),
  ),
)
