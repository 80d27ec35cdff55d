use Rattle.std.proofs.Common.{◌≡◌, ap, ◌∙◌, arith}
use Rattle.model_images.specs.Paint.{cut}
use Rattle.model_graphs.specs.Windows.{Window, window_image}
use Rattle.op_contracts.specs.Applying.{result_of_windows}
use Rattle.op_contracts.proofs.Limits.{InLimits-in_tile}
use Rattle.test_kit.specs.Cutting.{cutting}
use Rattle.test_kit.proofs.Cuts.{part-of_input}
use Rattle.test_kit.proofs.cut_kit.CutKitOpKit.apply.Goals as goal

pub prove-unreachable-requires : goal.prove-unreachable-requires
prove-unreachable-requires c =
    let limits = InLimits-in_tile c.args.out c.requires.tile.0 c.area.ensures.rectangle c.requires.tile.1 in
    omega (arith, limits.2, c.area.ensures.value, c.if-prove.true)

pub part-requires-clause-limits : goal.part-requires-clause-limits
part-requires-clause-limits c = InLimits-in_tile c.args.out c.requires.tile.0 c.area.ensures.rectangle c.requires.tile.1

pub returns : goal.returns
returns c =
    let out = c.args.out in
    let windows = c.args.windows.now in
    let same : cut (window_image c.index-windows-0.result) out ≡ cut (result_of_windows cutting c.args.op.now windows) out =
    ap (λ (window : Window). cut (window_image window) out) c.index-windows-0.is
    ∙ part-of_input c.args.op.now windows c.index-windows-0.result out c.requires.inputs (rw c.requires.boxes at c.requires.part) in
    rw same at c.part.ensures
