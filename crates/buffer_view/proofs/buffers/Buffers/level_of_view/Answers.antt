use Rattle.std.proofs.Common.{◌≡◌, ◌<◌, ◌∙◌, length, get_or, ap}
use Rattle.std.proofs.Math.ListN.{set}
use Rattle.std.proofs.lemmas.Result.{IfErr-weaker, IfOk-weaker}
use Rattle.chain_owners.specs.Held.{Held}
use Rattle.chain_owners.specs.Owners.{Respects}
use Rattle.model_graphs.specs.Shapes.{Shape}
use Rattle.plane_rect.specs.Rectangle.{Includes}
use Rattle.root_tiles.specs.Growth.{root_state}
use Rattle.root_tiles.specs.Roots.{IsRootOver, RootTiles, root_shape}
use Rattle.buffer_view.specs.BufferTables.{AreBuffersOver, BufferTable, IsBufferTable, buffers_names, table_of}
use Rattle.buffer_view.proofs.Changed.{IsChanged, changed-of, held_as, root-changed, root-here}
use Rattle.buffer_view.proofs.Parts.{entry-below, entry-holds}
use Rattle.buffer_view.proofs.RootLists.{All-at}
use Rattle.buffer_view.proofs.RootReads.{box-of-root, cause-levels, grows-levels, part-of-buffer, reads, shown-kept}
use Rattle.buffer_view.proofs.buffers.Buffers.level_of_view.Given
use Rattle.buffer_view.proofs.buffers.Buffers.level_of_view.Goals.{After-get, After-index_mut}
use Rattle.buffer_view.proofs.buffers.Buffers.level_of_view.Goals as goal

-- ---- the root of the view

module _ (g : Given.Over) (c : After-index_mut g) where
  here : get_or c.args.self.now.roots c.args.view.now.root c.index_mut.result.now ≡ c.index_mut.result.now
  here = root-here _ c.args.self.now c.self.view_is c.args.view.now.root c.index_mut.result.now c.index_mut.ensures.value

  below : c.args.view.now.root < length c.args.self.now.roots
  below = entry-below c.args.self.now c.requires.over.table c.args.view.now.root _ c.requires.inside

pub get-requires-clause-view : goal.get-requires-clause-view
get-requires-clause-view g c =
    let at = (goal.at.get-requires-clause-view g c).After-index_mut in
    let first = g.C.ChainMeaning.held c.args.chain.now in
    record {
      over = All-at (λ (r : RootTiles). IsRootOver r first) c.args.view.now.root c.args.self.now.roots c.index_mut.result.now (below g at) (here g at) c.requires.over.roots;
      inside = entry-holds c.args.self.now c.requires.over.table c.args.view.now.root (λ (s : Shape). Includes s.box c.args.view.now.extent) c.index_mut.result.now (here g at) c.requires.inside;
      rectangle = c.first_column.ensures.rectangle;
    }

-- ---- what is read

pub returns-clause-shape : goal.returns-clause-shape
returns-clause-shape g c = λ name target.
    let there = here g (goal.at.returns-clause-shape g c).After-index_mut in
    let first = g.C.ChainMeaning.held c.args.chain.now in
    IfOk-weaker c.get.result _ _
    (λ patch has. part-of-buffer c.args.self.now first c.requires.over.table name c.args.view.now target c.index_mut.result.now there c.args.rect patch has) c.get.ensures.shape

pub returns-clause-image : goal.returns-clause-image
returns-clause-image g c = λ name target.
    let there = here g (goal.at.returns-clause-image g c).After-index_mut in
    let first = g.C.ChainMeaning.held c.args.chain.now in
    IfOk-weaker c.get.result _ _
    (λ patch read. reads c.args.self.now first c.requires.over.table name c.args.view.now target c.index_mut.result.now there c.args.level c.args.abyss c.args.rect patch read) c.get.ensures.image

pub returns-clause-cause : goal.returns-clause-cause
returns-clause-cause g c = λ name target.
    let there = here g (goal.at.returns-clause-cause g c).After-index_mut in
    let first = g.C.ChainMeaning.held c.args.chain.now in
    IfErr-weaker c.get.result _ _ (λ refused cause. cause-levels c.args.level (g.C.ChainMeaning.counts c.args.chain.now) (g.C.ChainMeaning.counts c.get.new.chain) c.index_mut.result.now.box _ refused (box-of-root c.args.self.now first c.requires.over.table name c.args.view.now target c.index_mut.result.now there) cause) c.get.ensures.cause

pub returns-clause-counts : goal.returns-clause-counts
returns-clause-counts g c = λ name target.
    let there = here g (goal.at.returns-clause-counts g c).After-index_mut in
    let first = g.C.ChainMeaning.held c.args.chain.now in
    let last = g.C.ChainMeaning.held c.get.new.chain in
    grows-levels c.args.level (root_state c.index_mut.result.now first (g.C.ChainMeaning.counts c.args.chain.now)) (root_state c.get.new.root last (g.C.ChainMeaning.counts c.get.new.chain)) _ c.get.ensures.more c.get.ensures.names (box-of-root c.args.self.now first c.requires.over.table name c.args.view.now target c.index_mut.result.now there)

-- ---- the buffers, whose root may hold more

module _ (g : Given.Over) (c : After-get g) (is : get_or c.args.self.now.roots c.args.view.now.root c.index_mut.result.now ≡ c.index_mut.result.now)
    (inside : c.args.view.now.root < length c.args.self.now.roots) where
  abbrev first : Held
  first = g.C.ChainMeaning.held c.args.chain.now

  abbrev last : Held
  last = g.C.ChainMeaning.held c.get.new.chain

  changed : IsChanged c.args.self.now (held_as c.args.self.now.layout (set c.args.self.now.roots c.args.view.now.root c.get.new.root)) first last
  changed =
      root-changed c.args.self.now c.args.view.now.root c.index_mut.result.now c.get.new.root first last c.requires.over inside is c.get.ensures.more.others
      (ap root_shape c.get.ensures.more.root) c.get.ensures.more.over

pub invariant_of-self : goal.invariant_of-self
invariant_of-self g c =
    let at = goal.at.invariant_of-self g c in
    changed-of _ c.args.self.now c.self.view_is c.args.view.now.root c.get.new.root IsBufferTable
    (changed g at.After-get (here g at.After-index_mut) (below g at.After-index_mut)).table

pub returns-clause-over : goal.returns-clause-over
returns-clause-over g c =
    let at = goal.at.returns-clause-over g c in
    changed-of _ c.args.self.now c.self.view_is c.args.view.now.root c.get.new.root (λ (b : BufferTable). AreBuffersOver b (g.C.ChainMeaning.held c.get.new.chain))
    (changed g at.After-get (here g at.After-index_mut) (below g at.After-index_mut)).over

pub returns-clause-others : goal.returns-clause-others
returns-clause-others g c =
    let at = goal.at.returns-clause-others g c in
    changed-of _ c.args.self.now c.self.view_is c.args.view.now.root c.get.new.root (λ (b : BufferTable). Respects (g.C.ChainMeaning.held c.args.chain.now) (g.C.ChainMeaning.held c.get.new.chain) (buffers_names c.args.self.now) (buffers_names b))
    (changed g at.After-get (here g at.After-index_mut) (below g at.After-index_mut)).others

pub returns-clause-table : goal.returns-clause-table
returns-clause-table g c =
    let at = (goal.at.returns-clause-table g c).After-index_mut in
    let first = g.C.ChainMeaning.held c.args.chain.now in
    let last = g.C.ChainMeaning.held c.get.new.chain in
    ap (λ (b : BufferTable). table_of (held_as b.layout (set b.roots c.args.view.now.root c.get.new.root)) last) c.self.view_is
    ∙ shown-kept c.args.self.now c.args.view.now.root c.index_mut.result.now c.get.new.root first last c.requires.over (below g at) (here g at) c.get.ensures.more.others c.get.ensures.more.image
