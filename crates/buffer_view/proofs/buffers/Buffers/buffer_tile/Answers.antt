use Rattle.std.proofs.Common.{rules, ◌≡◌, ◌<◌, ◌∙◌, length, get_or, Some, ap, sym, arith}
use Rattle.std.specs.Prelude.{vec_len}
use Rattle.std.proofs.lemmas.Result.{IfOk-weaker}
use Rattle.buffer_layouts.specs.Views.{root_view}
use Rattle.root_tiles.specs.Roots.{IsRootOver, RootTiles}
use Rattle.buffer_view.specs.BufferTables.{BufferTable}
use Rattle.buffer_view.proofs.Added.{target-below}
use Rattle.buffer_view.proofs.Changed.{root-here}
use Rattle.buffer_view.proofs.Reading.{extent-inside, has-length, shows, view-known}
use Rattle.buffer_view.proofs.RootLists.{All-at}
use Rattle.buffer_view.proofs.buffers.Buffers.buffer_tile.Given
use Rattle.buffer_view.proofs.buffers.Buffers.buffer_tile.Goals.{After-index, After-unwrap-view}
use Rattle.buffer_view.proofs.buffers.Buffers.buffer_tile.Goals as goal

-- ---- the view of the buffer, and its root

module _ (g : Given.Over) (c : After-unwrap-view g) where
  target : root_view c.args.self.now.layout c.args.buffer ≡ Some c.unwrap-view.result
  target = ap (λ (b : BufferTable). root_view b.layout c.args.buffer) (sym c.self.view_is) ∙ sym c.view.ensures.value ∙ c.unwrap-view.ensures

  below : c.unwrap-view.result.root < length c.args.self.now.roots
  below = target-below c.args.self.now c.requires.over.table c.args.buffer c.unwrap-view.result target

module _ (g : Given.Over) (c : After-index g) where
  here : get_or c.args.self.now.roots c.unwrap-view.result.root c.index.result.now ≡ c.index.result.now
  here = root-here _ c.args.self.now c.self.view_is c.unwrap-view.result.root c.index.result.now c.index.ensures

pub unwrap-view-requires : goal.unwrap-view-requires
unwrap-view-requires g c =
    rw (c.view.ensures.value, ap (λ (b : BufferTable). root_view b.layout c.args.buffer) c.self.view_is) (view-known c.args.self.now.layout c.args.buffer c.requires.known)

pub index-requires : goal.index-requires
index-requires g c =
    let inside = below g (goal.at.index-requires g c).After-unwrap-view in
    let count : length c.self.inside.roots.items ≡ vec_len c.self.inside.roots = search rules in
    let same : length c.self.inside.roots.items ≡ length c.args.self.now.roots = ap (λ (b : BufferTable). length b.roots) c.self.view_is in
    omega (arith, inside, count, same)

pub view_tile-requires : goal.view_tile-requires
view_tile-requires g c =
    let at = goal.at.view_tile-requires g c in
    let seen = below g at.After-unwrap-view in
    let there = here g at.After-index in
    record {
      over = All-at (λ (r : RootTiles). IsRootOver r (g.C.ChainMeaning.held c.args.chain.now)) c.unwrap-view.result.root c.args.self.now.roots c.index.result.now seen there c.requires.over.roots;
      inside = extent-inside c.args.self.now (g.C.ChainMeaning.held c.args.chain.now) c.requires.over.table c.args.buffer c.unwrap-view.result (target g at.After-unwrap-view) c.index.result.now there;
      rectangle = c.first_column.ensures.rectangle;
    }

pub returns-clause-bytes : goal.returns-clause-bytes
returns-clause-bytes g c =
    let at = goal.at.returns-clause-bytes g c in
    IfOk-weaker c.view_tile.result _ _
    (λ tile is. shows c.args.self.now (g.C.ChainMeaning.held c.args.chain.now) c.requires.over.table c.args.buffer c.unwrap-view.result (target g at.After-unwrap-view) c.index.result.now (here g at.After-index) c.args.at tile is)
    c.view_tile.ensures.bytes

pub returns-clause-length : goal.returns-clause-length
returns-clause-length g c =
    let at = goal.at.returns-clause-length g c in
    IfOk-weaker c.view_tile.result _ _
    (λ tile is. has-length c.args.self.now (g.C.ChainMeaning.held c.args.chain.now) c.requires.over.table c.args.buffer c.unwrap-view.result (target g at.After-unwrap-view) c.index.result.now (here g at.After-index) tile is)
    c.view_tile.ensures.length
