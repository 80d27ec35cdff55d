use Rattle.std.proofs.Common.{rules, ◌≡◌, ◌<◌, ◌∙◌, length, get_or, ap, subst}
use Rattle.std.specs.Option.{option_map}
use Rattle.std.proofs.Math.ListN.{set}
use Rattle.std.proofs.lemmas.Result.{on_ok_weaker}
use Rattle.chain_owners.specs.Held.{Held}
use Rattle.chain_owners.specs.Owners.{Respects}
use Rattle.model_graphs.specs.Shapes.{Shape}
use Rattle.model_images.specs.Image.{Image}
use Rattle.model_images.specs.Paint.{painted}
use Rattle.pixel_formats.specs.declared.format.Format.{Format}
use Rattle.plane_rect.specs.Rectangle.{Includes}
use Rattle.root_tiles.specs.Roots.{IsRootOver, RootTiles, root_image}
use Rattle.buffer_view.specs.BufferTables.{AreBuffersOver, BufferTable, IsBufferTable, buffers_names, table_of}
use Rattle.buffer_view.proofs.Changed.{IsChanged, changed-of, held_as, root-changed, root-here, shown-painted, shown-same}
use Rattle.buffer_view.proofs.Parts.{entry-below, entry-holds, format-shown}
use Rattle.buffer_view.proofs.Refusals.{on_err_both}
use Rattle.buffer_view.proofs.RootLists.{All-at}
use Rattle.buffer_view.proofs.buffers.Buffers.write.Given
use Rattle.buffer_view.proofs.buffers.Buffers.write.Goals.{After-index_mut, After-write}
use Rattle.buffer_view.proofs.buffers.Buffers.write.Goals as goal

-- ---- the root of the number

module _ (g : Given.Over) (c : After-index_mut g) where
  here : get_or c.args.self.now.roots c.args.number c.index_mut.result.now ≡ c.index_mut.result.now
  here = root-here _ c.args.self.now c.self.view_is c.args.number c.index_mut.result.now c.index_mut.ensures.value

  below : c.args.number < length c.args.self.now.roots
  below = entry-below c.args.self.now c.requires.over.table c.args.number _ c.requires.inside

pub write-requires-clause-over : goal.write-requires-clause-over
write-requires-clause-over g c =
    let at = (goal.at.write-requires-clause-over g c).After-index_mut in
    let first = g.C.ChainMeaning.held c.args.chain.now in
    All-at (λ (r : RootTiles). IsRootOver r first) c.args.number c.args.self.now.roots c.index_mut.result.now (below g at) (here g at) c.requires.over.roots

pub write-requires-clause-inside : goal.write-requires-clause-inside
write-requires-clause-inside g c =
    entry-holds c.args.self.now c.requires.over.table c.args.number (λ (s : Shape). Includes s.box c.args.rect) c.index_mut.result.now
    (here g (goal.at.write-requires-clause-inside g c).After-index_mut) c.requires.inside

pub write-requires-clause-written : goal.write-requires-clause-written
write-requires-clause-written g c =
    entry-holds c.args.self.now c.requires.over.table c.args.number (λ (s : Shape). g.W.Written.fits c.args.samples.now s.format c.args.rect) c.index_mut.result.now
    (here g (goal.at.write-requires-clause-written g c).After-index_mut) c.requires.samples

-- ---- the buffers, whose root is changed

module _ (g : Given.Over) (c : After-write g) (is : get_or c.args.self.now.roots c.args.number c.index_mut.result.now ≡ c.index_mut.result.now)
    (inside : c.args.number < length c.args.self.now.roots) where
  abbrev first : Held
  first = g.C.ChainMeaning.held c.args.chain.now

  abbrev last : Held
  last = g.C.ChainMeaning.held c.write.new.chain

  changed : IsChanged c.args.self.now (held_as c.args.self.now.layout (set c.args.self.now.roots c.args.number c.write.new.root)) first last
  changed =
      root-changed c.args.self.now c.args.number c.index_mut.result.now c.write.new.root first last c.requires.over inside is c.write.ensures.left.others
      c.write.ensures.shape c.write.ensures.over

pub invariant_of-self : goal.invariant_of-self
invariant_of-self g c =
    let at = goal.at.invariant_of-self g c in
    changed-of _ c.args.self.now c.self.view_is c.args.number c.write.new.root IsBufferTable
    (changed g at.After-write (here g at.After-index_mut) (below g at.After-index_mut)).table

pub returns : goal.returns
returns g c =
    let at = goal.at.returns g c in
    let now = c.args.self.now in
    let root = c.index_mut.result.now in
    let new = c.write.new.root in
    let first = g.C.ChainMeaning.held c.args.chain.now in
    let last = g.C.ChainMeaning.held c.write.new.chain in
    let there = here g at.After-index_mut in
    let inside = below g at.After-index_mut in
    let changed = changed g at.After-write there inside in
    let as_table = ap (λ (b : BufferTable). table_of (held_as b.layout (set b.roots c.args.number new)) last) c.self.view_is in
    let paints : Format → RootTiles → Type 0 = λ format r. root_image r last ≡ option_map (λ (image : Image). painted image c.args.rect (g.W.Written.pixels c.args.samples.now format c.args.rect)) (root_image root first) in
    record {
      layout = search rules;
      table = λ name shape entry.
          on_ok_weaker c.write.result
          (λ image. as_table
          ∙ shown-painted now c.args.number root new first last c.requires.over inside there c.write.ensures.left.others c.write.ensures.shape name shape c.args.rect (g.W.Written.pixels c.args.samples.now shape.format c.args.rect) entry
          (subst (λ (f : Format). paints f new) (format-shown now first c.requires.over.table c.args.number root name shape entry there) image)) c.write.ensures.image;
      same = on_err_both c.write.result
          (λ same image. as_table
          ∙ shown-same now c.args.number root new first last c.requires.over inside there c.write.ensures.left.others c.write.ensures.shape same image)
          c.write.ensures.unchanged c.write.ensures.same;
      over = changed-of _ now c.self.view_is c.args.number new (λ (b : BufferTable). AreBuffersOver b last) changed.over;
      cause = c.write.ensures.cause;
      left = record {
        others = changed-of _ now c.self.view_is c.args.number new (λ (b : BufferTable). Respects first last (buffers_names now) (buffers_names b)) changed.others;
        counts = c.write.ensures.left.counts;
        loans = c.write.ensures.left.loans;
        valid = c.write.ensures.left.valid;
      };
    }
