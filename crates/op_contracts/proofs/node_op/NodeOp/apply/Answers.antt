use Rattle.std.proofs.Common.{rules, ◌≡◌, ◌-◌, length, true, false, take, ◌∙◌, ap, arith}
use Rattle.model_images.specs.Image.{Image}
use Rattle.model_images.specs.Paint.{cut}
use Rattle.model_graphs.specs.Filter.{Plain, Through}
use Rattle.op_contracts.specs.Applying.{result_of_windows}
use Rattle.op_contracts.proofs.Masked.{last-there, made-format, mask-suits, mixed-result, own-boxes, own-format, own-needed, own-part, whole-at}
use Rattle.op_contracts.proofs.NodeOps.{plain-needed, plain-result}
use Rattle.op_contracts.proofs.node_op.NodeOp.apply.Goals as goal

pub apply-requires-clause-required : goal.apply-requires-clause-required
apply-requires-clause-required g c =
    let meaning = g.Op.OpMeaning in
    let alone : c.self.inside.is_masked ≡ false = search rules in
    let plain : c.args.self.now ≡ Plain c.self.inside.op.now = search rules in
    plain-needed meaning.steady meaning.meanings meaning.nodes meaning.derived c.self.inside.op.now c.args.self.now plain c.args.boxes.now c.args.windows.now c.args.out c.requires.required

pub returns-then-not-self : goal.returns-then-not-self
returns-then-not-self g c =
    let meaning = g.Op.OpMeaning in
    let alone : c.self.inside.is_masked ≡ false = search rules in
    let plain : c.args.self.now ≡ Plain c.self.inside.op.now = search rules in
    let same : cut (result_of_windows meaning.meanings c.self.inside.op.now c.args.windows.now) c.args.out ≡ cut (result_of_windows meaning.nodes c.args.self.now c.args.windows.now) c.args.out =
    ap (λ (image : Image). cut image c.args.out) (plain-result meaning.steady meaning.meanings meaning.nodes meaning.derived c.self.inside.op.now c.args.self.now plain c.args.windows.now) in
    rw same at c.apply.ensures

pub apply-requires-2-clause-boxes : goal.apply-requires-2-clause-boxes
apply-requires-2-clause-boxes g c =
    let meaning = g.Op.OpMeaning in
    let masked : c.self.inside.is_masked ≡ true = search rules in
    let through : c.args.self.now ≡ Through c.self.inside.op.now = search rules in
    own-boxes meaning.steady meaning.meanings meaning.nodes meaning.derived c.self.inside.op.now c.args.self.now through c.args.windows.now c.args.boxes.now c.requires.inputs c.requires.boxes c.requires.bounds

pub apply-requires-2-clause-format : goal.apply-requires-2-clause-format
apply-requires-2-clause-format g c =
    let meaning = g.Op.OpMeaning in
    let masked : c.self.inside.is_masked ≡ true = search rules in
    let through : c.args.self.now ≡ Through c.self.inside.op.now = search rules in
    own-format meaning.steady meaning.meanings meaning.nodes meaning.derived c.self.inside.op.now c.args.self.now through c.args.windows.now c.args.boxes.now c.requires.inputs c.requires.boxes c.requires.bounds c.requires.format

pub apply-requires-2-clause-part : goal.apply-requires-2-clause-part
apply-requires-2-clause-part g c =
    let meaning = g.Op.OpMeaning in
    let masked : c.self.inside.is_masked ≡ true = search rules in
    let through : c.args.self.now ≡ Through c.self.inside.op.now = search rules in
    own-part meaning.steady meaning.meanings meaning.nodes meaning.derived c.self.inside.op.now c.args.self.now through c.args.windows.now c.args.boxes.now c.requires.inputs c.requires.boxes c.requires.bounds c.args.out c.requires.part

pub apply-requires-2-clause-required : goal.apply-requires-2-clause-required
apply-requires-2-clause-required g c =
    let meaning = g.Op.OpMeaning in
    let masked : c.self.inside.is_masked ≡ true = search rules in
    let through : c.args.self.now ≡ Through c.self.inside.op.now = search rules in
    own-needed meaning.steady meaning.meanings meaning.nodes meaning.derived c.self.inside.op.now c.args.self.now through c.args.windows.now c.args.boxes.now c.requires.inputs c.requires.boxes c.requires.bounds c.args.out c.requires.required

pub bounds-windows-own : goal.bounds-windows-own
bounds-windows-own g c =
    let meaning = g.Op.OpMeaning in
    let masked : c.self.inside.is_masked ≡ true = search rules in
    let through : c.args.self.now ≡ Through c.self.inside.op.now = search rules in
    last-there meaning.steady meaning.meanings meaning.nodes meaning.derived c.self.inside.op.now c.args.self.now through c.args.windows.now c.args.boxes.now c.requires.inputs c.requires.boxes c.requires.bounds

pub mixed_part-requires-clause-base : goal.mixed_part-requires-clause-base
mixed_part-requires-clause-base g c =
    let meaning = g.Op.OpMeaning in
    let masked : c.self.inside.is_masked ≡ true = search rules in
    let through : c.args.self.now ≡ Through c.self.inside.op.now = search rules in
    let last = last-there meaning.steady meaning.meanings meaning.nodes meaning.derived c.self.inside.op.now c.args.self.now through c.args.windows.now c.args.boxes.now c.requires.inputs c.requires.boxes c.requires.bounds in
    whole-at c.args.windows.now 0 c.index-windows-0.result (omega (arith, last)) c.index-windows-0.is c.requires.whole

pub mixed_part-requires-clause-made : goal.mixed_part-requires-clause-made
mixed_part-requires-clause-made g c =
    let meaning = g.Op.OpMeaning in
    let masked : c.self.inside.is_masked ≡ true = search rules in
    let through : c.args.self.now ≡ Through c.self.inside.op.now = search rules in
    let cuts : c.in_ok-made.made ≡ cut (result_of_windows meaning.meanings c.self.inside.op.now (take (length c.args.windows.now - 1) c.args.windows.now)) c.args.out = c.in_ok-made.ensures in
    ap (λ (image : Image). image.format) cuts
    ∙ made-format meaning.steady meaning.meanings meaning.nodes meaning.derived c.self.inside.op.now c.args.self.now through c.args.windows.now c.args.boxes.now c.requires.inputs c.requires.boxes c.requires.bounds c.requires.format c.index-windows-0.result c.index-windows-0.is

pub mixed_part-requires-clause-mask : goal.mixed_part-requires-clause-mask
mixed_part-requires-clause-mask g c =
    let meaning = g.Op.OpMeaning in
    let masked : c.self.inside.is_masked ≡ true = search rules in
    let through : c.args.self.now ≡ Through c.self.inside.op.now = search rules in
    whole-at c.args.windows.now (length c.args.windows.now - 1) c.index-windows-own.result (last-there meaning.steady meaning.meanings meaning.nodes meaning.derived c.self.inside.op.now c.args.self.now through c.args.windows.now c.args.boxes.now c.requires.inputs c.requires.boxes c.requires.bounds) c.index-windows-own.is c.requires.whole

pub mixed_part-requires-clause-suits : goal.mixed_part-requires-clause-suits
mixed_part-requires-clause-suits g c =
    let meaning = g.Op.OpMeaning in
    let masked : c.self.inside.is_masked ≡ true = search rules in
    let through : c.args.self.now ≡ Through c.self.inside.op.now = search rules in
    mask-suits meaning.steady meaning.meanings meaning.nodes meaning.derived c.self.inside.op.now c.args.self.now through c.args.windows.now c.args.boxes.now c.requires.inputs c.requires.boxes c.requires.bounds c.requires.format c.index-windows-0.result c.index-windows-0.is c.index-windows-own.result c.index-windows-own.is

pub returns : goal.returns
returns g c =
    let meaning = g.Op.OpMeaning in
    let masked : c.self.inside.is_masked ≡ true = search rules in
    let through : c.args.self.now ≡ Through c.self.inside.op.now = search rules in
    let cuts : c.in_ok-made.made ≡ cut (result_of_windows meaning.meanings c.self.inside.op.now (take (length c.args.windows.now - 1) c.args.windows.now)) c.args.out = c.in_ok-made.ensures in
    let same = mixed-result meaning.steady meaning.meanings meaning.nodes meaning.derived c.self.inside.op.now c.args.self.now through c.args.windows.now c.args.boxes.now c.requires.inputs c.requires.boxes c.requires.bounds c.requires.format c.index-windows-0.result c.index-windows-0.is c.index-windows-own.result c.index-windows-own.is c.args.out c.in_ok-made.made c.requires.part cuts in
    rw same at c.mixed_part.ensures
