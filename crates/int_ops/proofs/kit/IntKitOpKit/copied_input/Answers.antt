use Rattle.std.proofs.Common.{◌≡◌, ℕ, length, Option, Some, None, IfSome, sym, ap, ◌∙◌, subst, arith}
use Rattle.std.specs.Prelude.{slice_get}
use Rattle.std.proofs.lemmas.Option.{slice_get-get_or}
use Rattle.model_operations.specs.Meanings.{int_meanings}
use Rattle.model_operations.specs.declared.operation.IntOp.{IntOp}
use Rattle.op_contracts.specs.Applying.{CopiesInput}
use Rattle.int_ops.specs.Lone.{IsLone}
use Rattle.int_ops.proofs.Copying.{crop-copies, pair-copies, two-inputs}
use Rattle.int_ops.proofs.kit.IntKitOpKit.copied_input.Goals as goal

pub returns-in-Crop : goal.returns-in-Crop
returns-in-Crop c =
    subst (λ (op : IntOp). CopiesInput int_meanings op c.args.boxes.now c.args.out 0) (sym c.in-Crop.is)
    (crop-copies c.in-Crop.rect c.args.boxes.now c.args.out (rw c.in-Crop.is at c.requires.inputs) (rw c.in-Crop.is at c.requires.part))

if-some : (P Q : ℕ → Type 0) (found : Option ℕ) → ((n : ℕ) → P n → Q n) → IfSome found P → IfSome found Q
if-some P Q (Some n) leads is = leads n is
if-some P Q None leads is = tt

pub returns-in-Add : goal.returns-in-Add
returns-in-Add c =
    let op = c.args.op.now in
    let boxes = c.args.boxes.now in
    let two : length boxes ≡ 2 = two-inputs op c.in-Add.is (length boxes) c.requires.inputs in
    let first = c.index-boxes-0.result in
    let second = c.index-boxes-1.result in
    let first_is : slice_get boxes 0 ≡ Some first = slice_get-get_or boxes 0 first (omega (arith, two)) ∙ ap Some (sym c.index-boxes-0.is) in
    let second_is : slice_get boxes 1 ≡ Some second = slice_get-get_or boxes 1 second (omega (arith, two)) ∙ ap Some (sym c.index-boxes-1.is) in
    if-some (IsLone first second c.args.out) (CopiesInput int_meanings op boxes c.args.out) c.lone_input.result
    (λ input lone. pair-copies op c.in-Add.is boxes c.args.out first second two first_is second_is input lone)
    c.lone_input.ensures
