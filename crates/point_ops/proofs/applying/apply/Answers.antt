use Rattle.std.proofs.Common.{◌≡◌, ◌∙◌, [], ◌∷◌, refl, ap, arith, rules, to_z, of_z, w64}
use Rattle.std.specs.Result.{IfOk}
use Rattle.model_images.specs.Image.{at, image_from_fn}
use Rattle.model_graphs.specs.Windows.{IsWholeWindow, window_image}
use Rattle.model_operations.specs.Inputs.{input_count}
use Rattle.model_operations.specs.Moves.{source_index}
use Rattle.model_operations.specs.declared.operation.IntOp.TheVariants.{Color, Checker, Convert, Invert, Threshold, Gain, Translate, Crop, Flip, Add, Over, Mask}
use Rattle.op_contracts.proofs.Limits.{InLimits-in_tile}
use Rattle.point_ops.proofs.Results.{color-samples, flip-inside, none-of, one-of, part-of, part-of-one, suits-add, suits-mask, suits-over, taken-by, translate-inside, two-of, whole-first}
use Rattle.point_ops.proofs.applying.apply.Goals as goal

pub prove-unreachable-requires : goal.prove-unreachable-requires
prove-unreachable-requires c =
    let limits = InLimits-in_tile c.args.out c.requires.tile.0 c.area.ensures.rectangle c.requires.tile.1 in
    omega (arith, limits.2, c.area.ensures.value, c.if-prove.true)

pub solid_patch-requires-clause-each : goal.solid_patch-requires-clause-each
solid_patch-requires-clause-each c =
    let op = Color c.in-Color.format c.in-Color.rect c.in-Color.samples in
    let are : c.args.windows.now ≡ [] = none-of c.args.windows.now (c.requires.inputs ∙ ap input_count c.in-Color.is) in
    rw c.as_slice.ensures
    (color-samples c.in-Color.format c.in-Color.rect c.in-Color.samples
    (taken-by c.args.op.now op c.args.windows.now [] c.in-Color.is are c.requires.format))

pub translated_part-requires-clause-whole : goal.translated_part-requires-clause-whole
translated_part-requires-clause-whole c =
    let count = c.requires.inputs ∙ ap input_count c.in-Translate.is in
    whole-first IsWholeWindow c.args.windows.now c.index-windows-0-in-Translate.result (omega (arith, count)) c.index-windows-0-in-Translate.is c.requires.whole

pub translated_part-requires-clause-part : goal.translated_part-requires-clause-part
translated_part-requires-clause-part c =
    let dx = c.in-Translate.dx in
    let dy = c.in-Translate.dy in
    let w = c.index-windows-0-in-Translate.result in
    let are : c.args.windows.now ≡ w ∷ [] = one-of c.args.windows.now w (c.requires.inputs ∙ ap input_count c.in-Translate.is) c.index-windows-0-in-Translate.is in
    let back : to_z w64 (of_z w64 dx) ≡ dx = search rules in
    let back_down : to_z w64 (of_z w64 dy) ≡ dy = search rules in
    rw (back, back_down) (translate-inside c.args.op.now (Translate dx dy) c.args.windows.now w c.args.out c.in-Translate.is are c.requires.part)

pub flipped_part-requires-clause-part : goal.flipped_part-requires-clause-part
flipped_part-requires-clause-part c =
    let w = c.index-windows-0-in-Flip.result in
    let are : c.args.windows.now ≡ w ∷ [] = one-of c.args.windows.now w (c.requires.inputs ∙ ap input_count c.in-Flip.is) c.index-windows-0-in-Flip.is in
    flip-inside c.args.op.now c.in-Flip.sideways c.args.windows.now w c.args.out c.in-Flip.is are c.requires.part

pub combined_part-requires-clause-suit : goal.combined_part-requires-clause-suit
combined_part-requires-clause-suit c =
    let v = c.index-windows-0-in-Add.result in
    let w = c.index-windows-1.result in
    let are : c.args.windows.now ≡ v ∷ w ∷ [] =
    two-of c.args.windows.now v w (c.requires.inputs ∙ ap input_count c.in-Add.is) c.index-windows-0-in-Add.is c.index-windows-1.is in
    suits-add v.format w.format (taken-by c.args.op.now Add c.args.windows.now (v ∷ w ∷ []) c.in-Add.is are c.requires.format)

pub combined_part-requires-in-Over-clause-suit : goal.combined_part-requires-in-Over-clause-suit
combined_part-requires-in-Over-clause-suit c =
    let v = c.index-windows-0-in-Over.result in
    let w = c.index-windows-1-in-Over.result in
    let are : c.args.windows.now ≡ v ∷ w ∷ [] =
    two-of c.args.windows.now v w (c.requires.inputs ∙ ap input_count c.in-Over.is) c.index-windows-0-in-Over.is c.index-windows-1-in-Over.is in
    suits-over v.format w.format (taken-by c.args.op.now Over c.args.windows.now (v ∷ w ∷ []) c.in-Over.is are c.requires.format)

pub combined_part-requires-in-Mask-clause-suit : goal.combined_part-requires-in-Mask-clause-suit
combined_part-requires-in-Mask-clause-suit c =
    let v = c.index-windows-0-in-Mask.result in
    let w = c.index-windows-1-in-Mask.result in
    let are : c.args.windows.now ≡ v ∷ w ∷ [] =
    two-of c.args.windows.now v w (c.requires.inputs ∙ ap input_count c.in-Mask.is) c.index-windows-0-in-Mask.is c.index-windows-1-in-Mask.is in
    suits-mask v.format w.format (taken-by c.args.op.now Mask c.args.windows.now (v ∷ w ∷ []) c.in-Mask.is are c.requires.format)

pub returns-in-Color : goal.returns-in-Color
returns-in-Color c =
    let op = Color c.in-Color.format c.in-Color.rect c.in-Color.samples in
    let are : c.args.windows.now ≡ [] = none-of c.args.windows.now (c.requires.inputs ∙ ap input_count c.in-Color.is) in
    rw (part-of c.args.op.now op c.args.windows.now [] c.args.out c.in-Color.is are c.requires.format c.requires.part) at (rw c.as_slice.ensures at c.solid_patch.ensures)

pub returns-in-Checker : goal.returns-in-Checker
returns-in-Checker c =
    let op = Checker c.in-Checker.format c.in-Checker.rect c.in-Checker.size c.in-Checker.v1 c.in-Checker.v2 in
    let are : c.args.windows.now ≡ [] = none-of c.args.windows.now (c.requires.inputs ∙ ap input_count c.in-Checker.is) in
    rw (part-of c.args.op.now op c.args.windows.now [] c.args.out c.in-Checker.is are c.requires.format c.requires.part) at c.checker_part.ensures

pub returns-in-Convert : goal.returns-in-Convert
returns-in-Convert c =
    rw (part-of-one c.args.op.now (Convert c.in-Convert.format) c.args.windows.now c.index-windows-0.result c.args.out c.in-Convert.is refl c.requires.inputs c.index-windows-0.is c.requires.format c.requires.part) at c.changed_part.ensures

pub returns-in-Invert : goal.returns-in-Invert
returns-in-Invert c =
    rw (part-of-one c.args.op.now Invert c.args.windows.now c.index-windows-0-in-Invert.result c.args.out c.in-Invert.is refl c.requires.inputs c.index-windows-0-in-Invert.is c.requires.format c.requires.part) at c.changed_part-in-Invert.ensures

pub returns-in-Threshold : goal.returns-in-Threshold
returns-in-Threshold c =
    rw (part-of-one c.args.op.now (Threshold c.in-Threshold.at) c.args.windows.now c.index-windows-0-in-Threshold.result c.args.out c.in-Threshold.is refl c.requires.inputs c.index-windows-0-in-Threshold.is c.requires.format c.requires.part) at c.changed_part-in-Threshold.ensures

pub returns-in-Gain : goal.returns-in-Gain
returns-in-Gain c =
    rw (part-of-one c.args.op.now (Gain c.in-Gain.num c.in-Gain.den) c.args.windows.now c.index-windows-0-in-Gain.result c.args.out c.in-Gain.is refl c.requires.inputs c.index-windows-0-in-Gain.is c.requires.format c.requires.part) at c.changed_part-in-Gain.ensures

pub returns-in-Crop : goal.returns-in-Crop
returns-in-Crop c =
    rw (part-of-one c.args.op.now (Crop c.in-Crop.rect) c.args.windows.now c.index-windows-0-in-Crop.result c.args.out c.in-Crop.is refl c.requires.inputs c.index-windows-0-in-Crop.is c.requires.format c.requires.part) at c.part.ensures

pub returns-in-Flip : goal.returns-in-Flip
returns-in-Flip c =
    rw (part-of-one c.args.op.now (Flip c.in-Flip.sideways) c.args.windows.now c.index-windows-0-in-Flip.result c.args.out c.in-Flip.is refl c.requires.inputs c.index-windows-0-in-Flip.is c.requires.format c.requires.part) at c.flipped_part.ensures

pub returns-in-Translate : goal.returns-in-Translate
returns-in-Translate c =
    let dx = c.in-Translate.dx in
    let dy = c.in-Translate.dy in
    let w = c.index-windows-0-in-Translate.result in
    let are : c.args.windows.now ≡ w ∷ [] = one-of c.args.windows.now w (c.requires.inputs ∙ ap input_count c.in-Translate.is) c.index-windows-0-in-Translate.is in
    let back : to_z w64 (of_z w64 dx) ≡ dx = search rules in
    let back_down : to_z w64 (of_z w64 dy) ≡ dy = search rules in
    let given : IfOk c.translated_part.result
    (λ patch. patch ≡ image_from_fn c.args.out w.format (λ u v. at (window_image w) (source_index dx u) (source_index dy v))) =
    rw (back, back_down) at c.translated_part.ensures in
    rw (part-of c.args.op.now (Translate dx dy) c.args.windows.now (w ∷ []) c.args.out c.in-Translate.is are c.requires.format c.requires.part) at given

pub returns-in-Add : goal.returns-in-Add
returns-in-Add c =
    let v = c.index-windows-0-in-Add.result in
    let w = c.index-windows-1.result in
    let are : c.args.windows.now ≡ v ∷ w ∷ [] =
    two-of c.args.windows.now v w (c.requires.inputs ∙ ap input_count c.in-Add.is) c.index-windows-0-in-Add.is c.index-windows-1.is in
    rw (part-of c.args.op.now Add c.args.windows.now (v ∷ w ∷ []) c.args.out c.in-Add.is are c.requires.format c.requires.part) at c.combined_part.ensures

pub returns-in-Over : goal.returns-in-Over
returns-in-Over c =
    let v = c.index-windows-0-in-Over.result in
    let w = c.index-windows-1-in-Over.result in
    let are : c.args.windows.now ≡ v ∷ w ∷ [] =
    two-of c.args.windows.now v w (c.requires.inputs ∙ ap input_count c.in-Over.is) c.index-windows-0-in-Over.is c.index-windows-1-in-Over.is in
    rw (part-of c.args.op.now Over c.args.windows.now (v ∷ w ∷ []) c.args.out c.in-Over.is are c.requires.format c.requires.part) at c.combined_part-in-Over.ensures

pub returns-in-Mask : goal.returns-in-Mask
returns-in-Mask c =
    let v = c.index-windows-0-in-Mask.result in
    let w = c.index-windows-1-in-Mask.result in
    let are : c.args.windows.now ≡ v ∷ w ∷ [] =
    two-of c.args.windows.now v w (c.requires.inputs ∙ ap input_count c.in-Mask.is) c.index-windows-0-in-Mask.is c.index-windows-1-in-Mask.is in
    rw (part-of c.args.op.now Mask c.args.windows.now (v ∷ w ∷ []) c.args.out c.in-Mask.is are c.requires.format c.requires.part) at c.combined_part-in-Mask.ensures
