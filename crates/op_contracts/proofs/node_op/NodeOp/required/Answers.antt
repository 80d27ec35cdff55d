use Rattle.std.proofs.Common.{rules, ◌≡◌, ◌-◌, ◌<◌, ◌≤◌, length, true, take, Some, ◌∙◌, sym, arith}
use Rattle.std.specs.Prelude.{slice_index_or}
use Rattle.std.proofs.lemmas.Bool.Decides.{nat_tests}
use Rattle.std.proofs.lemmas.List.{get_or_default}
use Rattle.plane_rect.specs.Rectangle.{empty}
use Rattle.model_graphs.specs.Filter.{Through}
use Rattle.model_graphs.specs.Meanings.{result_box}
use Rattle.op_contracts.specs.Applying.{bounds_of}
use Rattle.op_contracts.proofs.Bounds.{bounds-box}
use Rattle.op_contracts.proofs.NodeOps.{common-positions, mask-required, own-inputs}
use Rattle.op_contracts.proofs.node_op.NodeOp.required.Goals as goal

pub returns : goal.returns
returns g c =
    let meaning = g.Op.OpMeaning in
    let operation = c.self.inside.op.now in
    let boxes = c.args.boxes.now in
    let input = c.args.input in
    let masked : c.self.inside.is_masked ≡ true = search rules in
    let through : c.args.self.now ≡ Through operation = search rules in
    let below : input < length boxes = search rules in
    let past : length boxes - 1 ≤ input = grind (arith, nat_tests) in
    let last : length boxes - 1 ≡ input = omega arith in
    let own = own-inputs meaning.steady meaning.meanings meaning.nodes meaning.derived operation c.args.self.now through (length boxes) input c.requires.inputs (omega (arith, below, last)) in
    let bounds : bounds_of meaning.meanings operation (take input boxes) ≡ Some c.unwrap-bounds.result = search rules in
    let its : c.unwrap-bounds.result ≡ result_box meaning.meanings operation (take input boxes) = sym (bounds-box meaning.meanings operation (take input boxes) c.unwrap-bounds.result bounds) in
    let mask : c.index-boxes-input.result ≡ slice_index_or boxes input empty = c.index-boxes-input.is ∙ get_or_default boxes input c.index-boxes-input.result empty below in
    common-positions c.args.out c.unwrap-bounds.result c.index-boxes-input.result c.meet.result c.meet-2.result
    (result_box meaning.meanings operation (take input boxes)) (slice_index_or boxes input empty)
    c.meet.ensures.value c.meet-2.ensures.value its mask
    ∙ sym (mask-required meaning.steady meaning.meanings meaning.nodes meaning.derived operation c.args.self.now through input own.0 own.1 boxes input c.args.out (omega arith))
