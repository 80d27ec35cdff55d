use Rattle.std.proofs.Common.{◌≡◌, ◌∙◌, ◌∷◌, ◌++◌, [], ap, arith}
use Rattle.std.proofs.lemmas.List.{take_all}
use Rattle.root_tiles.specs.Roots.{RootTiles}
use Rattle.buffer_view.proofs.Sharing.{taken-next}
use Rattle.buffer_view.proofs.shares.copy_each.Goals as goal

pub push_reserved-requires : goal.push_reserved-requires
push_reserved-requires c = omega (arith, c.loop-root.invariant.count, c.loop-root.invariant.room, c.loop-root-test.true)

pub loop-root-preserved : goal.loop-root-preserved
loop-root-preserved c =
    let root = c.root-item.result in
    let copies = c.loop-root.copies.items in
    let more : c.push_reserved.new.self.items ≡ copies ++ root ∷ [] = c.push_reserved.ensures.items ∙ ap (λ (r : RootTiles). copies ++ r ∷ []) c.in_ok-copy.ensures in
    record {
      items = taken-next c.args.roots.now copies c.push_reserved.new.self.items c.loop-root.root-index root c.loop-root-test.true c.root-item.is c.loop-root.invariant.items more;
      count = omega (arith, c.push_reserved.ensures.len, c.loop-root.invariant.count);
      room = omega (arith, c.push_reserved.ensures.capacity, c.loop-root.invariant.room);
    }

pub returns : goal.returns
returns c = c.loop-root.invariant.items ∙ take_all c.loop-root.root-index c.args.roots.now c.loop-root-test.false
