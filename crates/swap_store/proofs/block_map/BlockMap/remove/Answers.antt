use Rattle.std.proofs.Common.{arith, sym, ap, ◌∙◌}
use Rattle.std.specs.Option.{is_some}
use Rattle.swap_store.proofs.PlacementLaws.{forgotten, not_free, extent_some, extent_bound, placed, len_removed}
use Rattle.swap_store.proofs.block_map.BlockMap.remove.Goals as goal

pub unwrap-extent-requires : goal.unwrap-extent-requires
unwrap-extent-requires c =
    rw c.get.ensures (rw (← c.self.view_is) at c.requires)

pub give_back-requires-clause-given : goal.give_back-requires-clause-given
give_back-requires-clause-given c =
    let es = c.self.inside.extents in
    let some = sym c.get.ensures ∙ c.unwrap-extent.ensures in
    rw c.blocks_for.ensures (extent_some (placed es c.self.inside.free.items c.self.inside.used) c.self.invariant.0 c.args.name c.unwrap-extent.result some)

pub give_back-requires-clause-bound : goal.give_back-requires-clause-bound
give_back-requires-clause-bound c =
    let es = c.self.inside.extents in
    let some = sym c.get.ensures ∙ c.unwrap-extent.ensures in
    rw c.blocks_for.ensures (extent_bound (placed es c.self.inside.free.items c.self.inside.used) c.self.invariant.0 c.args.name c.unwrap-extent.result some)

pub give_back-requires-clause-apart : goal.give_back-requires-clause-apart
give_back-requires-clause-apart c =
    let es = c.self.inside.extents in
    let some = sym c.get.ensures ∙ c.unwrap-extent.ensures in
    rw c.blocks_for.ensures (not_free (placed es c.self.inside.free.items c.self.inside.used) c.self.invariant.0 c.args.name c.unwrap-extent.result some)

pub invariant_of-self : goal.invariant_of-self
invariant_of-self c =
    let es = c.self.inside.extents in
    let some = sym c.get.ensures ∙ c.unwrap-extent.ensures in rw c.remove.ensures (
      forgotten (placed es c.self.inside.free.items c.self.inside.used) c.self.invariant.0 c.args.name c.unwrap-extent.result some
          c.give_back.new.runs.items c.give_back.ensures.list (rw c.blocks_for.ensures at c.give_back.ensures.blocks),
      omega (
        arith,
        c.self.invariant.1,
        c.give_back.ensures.longer,
        c.give_back.ensures.capacity,
        len_removed es c.args.name (ap is_some some),
      ),
    )

pub returns-clause-extents : goal.returns-clause-extents
returns-clause-extents c = rw (← c.self.view_is) c.remove.ensures

pub give_back-requires-clause-room : goal.give_back-requires-clause-room
give_back-requires-clause-room c =
    omega (arith, c.self.invariant.1, len_removed c.self.inside.extents c.args.name (ap is_some (sym c.get.ensures ∙ c.unwrap-extent.ensures)))
