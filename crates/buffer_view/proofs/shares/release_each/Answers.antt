use Rattle.std.proofs.Common.{rules, ◌≡◌, ◌∙◌, length}
use Rattle.std.specs.Vec.Iter.{into_iter_items, into_iter_len}
use Rattle.buffer_view.proofs.Sharing.{released-all, released-first, releases-next, releases-none}
use Rattle.buffer_view.proofs.shares.release_each.Goals as goal

pub loop-root-init : goal.loop-root-init
loop-root-init g c = (
  tt,
  tt,
  releases-none c.args.roots.items (into_iter_items c.into_iter-root-iterator.result) _ c.into_iter-root-iterator.ensures.into_iter_gives.0 c.requires.over c.requires.owned,
)

pub release-requires : goal.release-requires
release-requires g c =
    released-first c.args.roots.items (into_iter_items c.loop-root.root-iterator) (into_iter_items c.next.new.self) c.in-Some.root _ _ c.in-Some.ensures.steps.0 c.loop-root.invariant.2

pub loop-root-preserved : goal.loop-root-preserved
loop-root-preserved g c = (
  tt,
  tt,
  releases-next c.args.roots.items (into_iter_items c.loop-root.root-iterator) (into_iter_items c.next.new.self) c.in-Some.root _ _ _ c.in-Some.ensures.steps.0 c.loop-root.invariant.2
      c.release.ensures,
)

pub returns : goal.returns
returns g c =
    let left = into_iter_items c.loop-root.root-iterator in
    let count : length left ≡ into_iter_len c.loop-root.root-iterator = search rules in
    released-all c.args.roots.items left _ _ (count ∙ c.in-None.ensures.steps.0) c.loop-root.invariant.2
