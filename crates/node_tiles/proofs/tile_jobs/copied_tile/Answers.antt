use Rattle.std.proofs.Common.{◌≡◌, List, Some, length, ap, sym, ◌∙◌, subst}
use Rattle.std.specs.Prelude.{slice_get}
use Rattle.std.proofs.lemmas.List.{length-map}
use Rattle.plane_rect.specs.Rectangle.{Includes}
use Rattle.plane_rect.specs.Tile.{tile_square}
use Rattle.model_graphs.specs.Meanings.{result_box}
use Rattle.plane_rect.specs.SameRectangle.{same_rectangle-true}
use Rattle.patch_abyss.proofs.TilesOfPatches.{some_positions, whole_tile}
use Rattle.model_images.specs.Paint.{cut}
use Rattle.model_images.specs.Raw.{tile_bytes}
use Rattle.model_images.specs.Tiles.{AreTileBytes}
use Rattle.model_graphs.specs.Windows.{Window}
use Rattle.op_contracts.specs.Applying.{result_of_windows}
use Rattle.op_contracts.proofs.Applied.{get-there}
use Rattle.node_tiles.specs.Jobs.{IsApplicable, Job}
use Rattle.node_tiles.proofs.Copied.{copied-is, some-copied, true-unless, window-whole}
use Rattle.node_tiles.proofs.tile_jobs.copied_tile.Given
use Rattle.node_tiles.proofs.tile_jobs.copied_tile.Goals.{In_ok-get}
use Rattle.node_tiles.proofs.tile_jobs.copied_tile.Goals as goal

pub copied_input-requires : goal.copied_input-requires
copied_input-requires g c =
    record {
      inputs = ap length c.requires.boxes_are ∙ length-map c.args.job.now.windows (λ (window : Window). window.bounds) ∙ c.requires.inputs;
      part = subst (Includes (result_box g.K.Op.OpMeaning.meanings c.args.op.now c.args.boxes.now)) (sym (ap (λ (job : Job). job.part) c.job.view_is)) c.requires.inside;
    }

module _ (g : Given.Over) (c : In_ok-get g) where
  abbrev windows : List Window
  windows = c.job.inside.windows.items

  abbrev window : Window
  window = c.in_ok-get.field-0.now

  there : slice_get windows c.in_ok-input.input ≡ Some window
  there = subst (λ (ws : List Window). slice_get ws c.in_ok-input.input ≡ Some window) c.deref.ensures.value
      (get-there c.deref.result.now c.in_ok-input.input window c.in_ok-get.ensures.lookup.3.0 ∙ ap Some (sym c.in_ok-get.ensures.lookup.1))

  applicable : IsApplicable g.K.Op.OpMeaning.meanings c.args.op.now c.args.boxes.now windows c.job.inside.part
  applicable = rw (← c.job.view_is) at c.requires

pub tile-requires : goal.tile-requires
tile-requires g c =
    let at = (goal.at.tile-requires g c).In_ok-get in
    record { whole = window-whole (windows g at) c.in_ok-input.input (window g at) (there g at) (applicable g at).whole }

pub returns : goal.returns
returns g c =
    let after = (goal.at.returns g c).In_ok-get in
    let meanings = g.K.Op.OpMeaning.meanings in
    let at = c.job.inside.at in
    let some = some_positions c.rect-square.result c.if-is_empty.ensures.value in
    let square : c.job.inside.part ≡ tile_square at =
    same_rectangle-true c.job.inside.part c.rect-square.result (true-unless _ c.if-ne.ensures)
    ∙ c.rect-square.ensures.whole (whole_tile c.rect-square.result at c.rect-square.ensures.positions some.0 some.1) in
    rw (← c.job.view_is)
    (some-copied (AreTileBytes (window g after).format) (λ bytes. bytes ≡ tile_bytes (cut (result_of_windows meanings c.args.op.now (windows g after)) c.job.inside.part) at) c.tile.result c.tile.ensures.bytes
    (λ bytes held are. copied-is meanings c.args.op.now c.args.boxes.now (windows g after) c.in_ok-input.input (window g after) c.job.inside.part at bytes (applicable g after) c.in_ok-input.ensures (there g after) square
    (sym c.tile.ensures.value ∙ held) are))
