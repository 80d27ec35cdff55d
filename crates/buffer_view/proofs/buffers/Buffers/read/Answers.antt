use Rattle.std.proofs.Common.{◌≡◌, ◌∙◌, get_or, ap, ap₂, sym}
use Rattle.model_graphs.specs.Shapes.{Shape}
use Rattle.model_images.specs.FromRaw.{byte_count}
use Rattle.plane_rect.specs.Rectangle.{Includes}
use Rattle.root_tiles.specs.Roots.{IsRootOver, RootTiles}
use Rattle.buffer_view.specs.BufferTables.{BufferTable}
use Rattle.buffer_view.proofs.Copied.{InLimits-part}
use Rattle.buffer_view.proofs.Parts.{entry-below, entry-holds, format-shown, part-shown}
use Rattle.buffer_view.proofs.RootLists.{All-at}
use Rattle.buffer_view.proofs.buffers.Buffers.read.Goals as goal

pub part-requires-clause-over : goal.part-requires-clause-over
part-requires-clause-over g c =
    let now = c.args.self.now in
    let root = c.index.result.now in
    let n = c.args.number in
    let here : get_or now.roots n root ≡ root = sym (c.index.ensures ∙ ap (λ (b : BufferTable). get_or b.roots n root) c.self.view_is) in
    let below = entry-below now c.requires.over.table n _ c.requires.inside in
    All-at (λ (r : RootTiles). IsRootOver r (g.C.ChainMeaning.held c.args.chain.now)) n now.roots root below here c.requires.over.roots

pub part-requires-clause-inside : goal.part-requires-clause-inside
part-requires-clause-inside g c =
    let now = c.args.self.now in
    let root = c.index.result.now in
    let n = c.args.number in
    let here : get_or now.roots n root ≡ root = sym (c.index.ensures ∙ ap (λ (b : BufferTable). get_or b.roots n root) c.self.view_is) in
    entry-holds now c.requires.over.table n (λ (s : Shape). Includes s.box c.args.rect) root here c.requires.inside

pub part-requires-clause-limits : goal.part-requires-clause-limits
part-requires-clause-limits g c =
    let now = c.args.self.now in
    let root = c.index.result.now in
    let n = c.args.number in
    let here : get_or now.roots n root ≡ root = sym (c.index.ensures ∙ ap (λ (b : BufferTable). get_or b.roots n root) c.self.view_is) in
    let below = entry-below now c.requires.over.table n _ c.requires.inside in
    let over = All-at (λ (r : RootTiles). IsRootOver r (g.C.ChainMeaning.held c.args.chain.now)) n now.roots root below here c.requires.over.roots in
    InLimits-part root.box c.args.rect over.limits c.first_column.ensures.rectangle
    (entry-holds now c.requires.over.table n (λ (s : Shape). Includes s.box c.args.rect) root here c.requires.inside)

pub returns-clause-bytes : goal.returns-clause-bytes
returns-clause-bytes g c =
    let now = c.args.self.now in
    let root = c.index.result.now in
    let n = c.args.number in
    let here : get_or now.roots n root ≡ root = sym (c.index.ensures ∙ ap (λ (b : BufferTable). get_or b.roots n root) c.self.view_is) in
    λ name shape there.
    part-shown now (g.C.ChainMeaning.held c.args.chain.now) c.requires.over.table n root name shape there here c.args.rect c.in_ok-patch.patch c.into_raw.result.items
    c.in_ok-patch.ensures.image c.in_ok-patch.ensures.shape.box c.into_raw.ensures.value

pub returns-clause-count : goal.returns-clause-count
returns-clause-count g c =
    let now = c.args.self.now in
    let root = c.index.result.now in
    let n = c.args.number in
    let here : get_or now.roots n root ≡ root = sym (c.index.ensures ∙ ap (λ (b : BufferTable). get_or b.roots n root) c.self.view_is) in
    λ name shape there.
    c.into_raw.ensures.count
    ∙ ap₂ byte_count c.in_ok-patch.ensures.shape.box
    (c.in_ok-patch.ensures.shape.format ∙ format-shown now (g.C.ChainMeaning.held c.args.chain.now) c.requires.over.table n root name shape there here)
