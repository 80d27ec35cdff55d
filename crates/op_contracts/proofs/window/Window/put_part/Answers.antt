use Rattle.std.proofs.Common.{◌≡◌, ◌+◌, [], drop, sym, ap, ◌∙◌}
use Rattle.std.proofs.lemmas.List.{drop_all}
use Rattle.pixel_formats.specs.declared.format.Format.{Format}
use Rattle.model_images.specs.Image.{Image}
use Rattle.model_images.specs.Paint.{blank}
use Rattle.model_graphs.specs.Windows.{Window}
use Rattle.op_contracts.proofs.Painted.{put_tiles, put_tiles-next, put_tiles-show}
use Rattle.op_contracts.proofs.window.Window.put_part.Goals as goal

pub loop-entry-preserved : goal.loop-entry-preserved
loop-entry-preserved c =
    let all = c.as_slice-entry-items.result.now in
    let n = c.loop-entry.entry-index in (
      ap (λ (image : Image). put_tiles image (drop (n + 1) all)) c.put_tile.ensures
          ∙ put_tiles-next c.loop-entry.patch all n c.entry-item.result c.loop-entry-test.true c.entry-item.is
          ∙ c.loop-entry.invariant.0,
      ap (λ (image : Image). image.format) c.put_tile.ensures ∙ c.loop-entry.invariant.1,
    )

pub returns : goal.returns
returns c =
    let window = c.args.self.now in
    let part = c.args.part in
    let all = c.as_slice-entry-items.result.now in
    let n = c.loop-entry.entry-index in
    let none : drop n all ≡ [] = drop_all n all c.loop-entry-test.false in
    let format : c.self.inside.format ≡ window.format = ap (λ (w : Window). w.format) c.self.view_is in
    let tiles : all ≡ window.tiles = c.as_slice-entry-items.ensures ∙ ap (λ (w : Window). w.tiles) c.self.view_is in
    ap (put_tiles c.loop-entry.patch) (sym none)
    ∙ c.loop-entry.invariant.0
    ∙ ap (λ (image : Image). put_tiles image all) c.in_ok-patch.ensures
    ∙ ap (put_tiles (blank part c.self.inside.format)) tiles
    ∙ ap (λ (f : Format). put_tiles (blank part f) window.tiles) format
    ∙ put_tiles-show window part c.requires.inside c.requires.whole.distinct
