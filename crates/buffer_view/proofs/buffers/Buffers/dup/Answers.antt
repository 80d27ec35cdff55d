use Rattle.std.proofs.Common.{◌<◌, ◌≡◌, ◌++◌, ◌∷◌, ◌∙◌, [], rules, List, length, get_or, None, Some, ap, sym, subst, arith}
use Rattle.std.specs.Prelude.{vec_len}
use Rattle.buffer_layouts.specs.Views.{root_view}
use Rattle.chain_owners.specs.Held.{Held}
use Rattle.chain_owners.specs.Owners.{Respects}
use Rattle.chain_owners.proofs.Ownership.{respects-same}
use Rattle.model_buffers.specs.BufferEdit.{edit_refused, layout_with}
use Rattle.model_buffers.specs.declared.edit.BufferEdit.TheVariants.{Duplicate}
use Rattle.root_tiles.specs.Roots.{IsRootOver, RootTiles}
use Rattle.buffer_view.specs.BufferTables.{AreBuffersOver, BufferTable, IsBufferTable, buffers_names, names_of_roots, table_of}
use Rattle.buffer_view.proofs.Changed.{held_as}
use Rattle.buffer_view.proofs.Added.{duplicated-new, others-duplicated, over-duplicated, shown-duplicated, table-duplicated, target-below}
use Rattle.buffer_view.proofs.RootLists.{All-at}
use Rattle.buffer_view.proofs.buffers.Buffers.dup.Given
use Rattle.buffer_view.proofs.buffers.Buffers.dup.Goals as goal

pub index-requires : goal.index-requires
index-requires g c =
    let now = c.args.self.now in
    let seen = c.in_ok-view.view in
    let source : root_view now.layout c.args.from ≡ Some seen = ap (λ (b : BufferTable). root_view b.layout c.args.from) (sym c.self.view_is) ∙ c.in_ok-view.ensures.target in
    let below = target-below now c.requires.table c.args.from seen source in
    let count : length c.self.inside.roots.items ≡ vec_len c.self.inside.roots = search rules in
    let same : length c.self.inside.roots.items ≡ length now.roots = ap (λ (b : BufferTable). length b.roots) c.self.view_is in
    omega (arith, below, count, same, c.reserve-2.ensures.len)

pub share-requires : goal.share-requires
share-requires g c =
    let now = c.args.self.now in
    let root = c.index.result.now in
    let seen = c.in_ok-view.view in
    let source : root_view now.layout c.args.from ≡ Some seen = ap (λ (b : BufferTable). root_view b.layout c.args.from) (sym c.self.view_is) ∙ c.in_ok-view.ensures.target in
    let below = target-below now c.requires.table c.args.from seen source in
    let here : get_or now.roots seen.root root ≡ root =
    sym (c.index.ensures ∙ ap (λ (rs : List RootTiles). get_or rs seen.root root) (c.reserve-2.ensures.items ∙ ap (λ (b : BufferTable). b.roots) c.self.view_is)) in
    All-at (λ (r : RootTiles). IsRootOver r (g.C.ChainMeaning.held c.args.chain.now)) seen.root now.roots root below here c.requires.roots

-- the buffer is seen in the table as it was
source : (g : Given.Over) (c : goal.After-push_reserved g) → root_view c.args.self.now.layout c.args.from ≡ Some c.in_ok-view.view
source g c = ap (λ (b : BufferTable). root_view b.layout c.args.from) (sym c.self.view_is) ∙ c.in_ok-view.ensures.target

none : (g : Given.Over) (c : goal.After-push_reserved g) → edit_refused c.args.self.now.layout (Duplicate c.args.name c.args.from) ≡ None
none g c = ap (λ (b : BufferTable). edit_refused b.layout (Duplicate c.args.name c.args.from)) (sym c.self.view_is) ∙ c.in_ok-view.ensures.carried_out

below : (g : Given.Over) (c : goal.After-push_reserved g) → c.in_ok-view.view.root < length c.args.self.now.roots
below g c = target-below c.args.self.now c.requires.table c.args.from c.in_ok-view.view (source g c)

-- its root is there
here : (g : Given.Over) (c : goal.After-push_reserved g) → get_or c.args.self.now.roots c.in_ok-view.view.root c.index.result.now ≡ c.index.result.now
here g c =
    sym (c.index.ensures ∙ ap (λ (rs : List RootTiles). get_or rs c.in_ok-view.view.root c.index.result.now) (c.reserve-2.ensures.items ∙ ap (λ (b : BufferTable). b.roots) c.self.view_is))

-- the table with the duplicate
after : (g : Given.Over) (c : goal.After-push_reserved g) → held_as c.duplicate.new.self.layout c.push_reserved.new.self.items
    ≡ held_as (layout_with c.args.self.now.layout (Duplicate c.args.name c.args.from)) (c.args.self.now.roots ++ c.index.result.now ∷ [])
after g c =
    let old : BufferTable = record { layout = c.self.inside.layout.layout; roots = c.self.inside.roots.items } in
    duplicated-new old c.args.self.now c.self.view_is c.args.name c.args.from c.reserve.new.self.layout c.duplicate.new.self.layout c.reserve-2.new.self.items
    c.push_reserved.new.self.items c.index.result.now c.in_ok-shared.shared c.reserve.ensures.layout c.duplicate.ensures c.reserve-2.ensures.items c.push_reserved.ensures.items
    c.in_ok-shared.ensures.root

pub invariant_of-self-2 : goal.invariant_of-self-2
invariant_of-self-2 g c =
    subst IsBufferTable (sym (after g c))
    (table-duplicated c.args.self.now c.args.name c.args.from c.in_ok-view.view c.index.result.now (g.C.ChainMeaning.held c.args.chain.now) (g.C.ChainMeaning.held c.share.new.chain)
    c.requires (source g c) (none g c) (below g c) (here g c) c.share.ensures.content c.in_ok-shared.ensures.others c.share.ensures.over)

pub returns-clause-table : goal.returns-clause-table
returns-clause-table g c =
    ap (λ (b : BufferTable). table_of b (g.C.ChainMeaning.held c.share.new.chain)) (after g c)
    ∙ shown-duplicated c.args.self.now c.args.name c.args.from c.in_ok-view.view c.index.result.now (g.C.ChainMeaning.held c.args.chain.now) (g.C.ChainMeaning.held c.share.new.chain)
    c.requires (source g c) (none g c) (below g c) (here g c) c.share.ensures.content c.in_ok-shared.ensures.others c.share.ensures.over

pub returns-clause-over : goal.returns-clause-over
returns-clause-over g c =
    subst (λ (b : BufferTable). AreBuffersOver b (g.C.ChainMeaning.held c.share.new.chain)) (sym (after g c))
    (over-duplicated c.args.self.now c.args.name c.args.from c.in_ok-view.view c.index.result.now (g.C.ChainMeaning.held c.args.chain.now) (g.C.ChainMeaning.held c.share.new.chain)
    c.requires (source g c) (none g c) (below g c) (here g c) c.share.ensures.content c.in_ok-shared.ensures.others c.share.ensures.over)

pub returns-clause-others : goal.returns-clause-others
returns-clause-others g c =
    subst (λ (b : BufferTable). Respects (g.C.ChainMeaning.held c.args.chain.now) (g.C.ChainMeaning.held c.share.new.chain) (buffers_names c.args.self.now) (buffers_names b)) (sym (after g c))
    (others-duplicated c.args.self.now c.args.name c.args.from c.in_ok-view.view c.index.result.now (g.C.ChainMeaning.held c.args.chain.now) (g.C.ChainMeaning.held c.share.new.chain)
    c.requires (source g c) (none g c) (below g c) (here g c) c.share.ensures.content c.in_ok-shared.ensures.others c.share.ensures.over)

pub returns-in_err-shared-clause-others : goal.returns-in_err-shared-clause-others
returns-in_err-shared-clause-others g c =
    let held = g.C.ChainMeaning.held c.args.chain.now in
    let names = buffers_names c.args.self.now in
    let roots : c.reserve-2.new.self.items ≡ c.args.self.now.roots = c.reserve-2.ensures.items ∙ ap (λ (b : BufferTable). b.roots) c.self.view_is in
    subst (λ (h : Held). Respects held h names (names_of_roots c.reserve-2.new.self.items)) (sym c.in_err-shared.ensures.unchanged)
    (subst (λ (rs : List RootTiles). Respects held held names (names_of_roots rs)) (sym roots) (respects-same held names))
