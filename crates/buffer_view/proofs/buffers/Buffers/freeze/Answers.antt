use Rattle.std.proofs.Common.{rules, ◌≡◌, length, ap, sym, arith}
use Rattle.std.specs.Prelude.{vec_len}
use Rattle.root_tiles.specs.Roots.{IsRootOver, RootTiles}
use Rattle.buffer_view.specs.BufferTables.{BufferTable}
use Rattle.buffer_view.proofs.Added.{target-below}
use Rattle.buffer_view.proofs.FrozenParts.{frozen-shape, frozen-shown}
use Rattle.buffer_view.proofs.Reading.{extent-inside}
use Rattle.buffer_view.proofs.RootLists.{All-at}
use Rattle.buffer_view.proofs.Targets.{root-here, target-here}
use Rattle.buffer_view.proofs.buffers.Buffers.freeze.Goals as goal

pub index-requires : goal.index-requires
index-requires g c =
    let now = c.args.self.now in
    let below = target-below now c.requires.table c.args.name c.in-Some.view (target-here _ _ c.self.view_is _ _ (sym c.in-Some.ensures.value)) in
    let count : length c.self.inside.roots.items ≡ vec_len c.self.inside.roots = search rules in
    let same : length c.self.inside.roots.items ≡ length now.roots = ap (λ (b : BufferTable). length b.roots) c.self.view_is in
    omega (arith, below, count, same)

pub frozen_view-requires : goal.frozen_view-requires
frozen_view-requires g c =
    let now = c.args.self.now in
    let held = g.C.ChainMeaning.held c.args.chain.now in
    let target = target-here _ _ c.self.view_is _ _ (sym c.in-Some.ensures.value) in
    let there = root-here _ _ c.self.view_is _ _ c.index.ensures in
    record {
      over = All-at (λ (r : RootTiles). IsRootOver r held) c.in-Some.view.root now.roots c.index.result.now (target-below now c.requires.table c.args.name c.in-Some.view target) there c.requires.roots;
      inside = extent-inside now held c.requires.table c.args.name c.in-Some.view target c.index.result.now there;
      rectangle = c.first_column.ensures.rectangle;
    }

pub returns-clause-shape : goal.returns-clause-shape
returns-clause-shape g c =
    frozen-shape c.args.self.now (g.C.ChainMeaning.held c.args.chain.now) c.requires.table c.args.name c.in-Some.view
    (target-here _ _ c.self.view_is _ _ (sym c.in-Some.ensures.value)) c.index.result.now (root-here _ _ c.self.view_is _ _ c.index.ensures)
    c.in_ok-frozen.frozen c.in_ok-frozen.ensures.shape

pub returns-clause-image : goal.returns-clause-image
returns-clause-image g c =
    frozen-shown c.args.self.now (g.C.ChainMeaning.held c.args.chain.now) c.requires.table c.args.name c.in-Some.view
    (target-here _ _ c.self.view_is _ _ (sym c.in-Some.ensures.value)) c.index.result.now (root-here _ _ c.self.view_is _ _ c.index.ensures)
    c.in_ok-frozen.frozen c.in_ok-frozen.ensures.image
