use Rattle.std.proofs.Common.{◌≡◌, ℕ, ◌≤◌, List, [], ◌∷◌, length, Some, sym, subst, arith}
use Rattle.std.proofs.lemmas.List.{length-map}
use Rattle.pixel_formats.specs.Format.{max_sample}
use Rattle.model_images.specs.Image.{Image}
use Rattle.model_operations.specs.Formats.{format_of}
use Rattle.model_operations.specs.Inputs.{formats_of}
use Rattle.plain_images.proofs.OperationSamples.{no_image-range, none_of, one_of, two_at_most, two_of, value-most}
use Rattle.plain_images.proofs.Pictures.{at-most}
use Rattle.plain_images.proofs.results.AppliedSamples.sample.Goals as goal

pub returns-in-empty-clause-range : goal.returns-in-empty-clause-range
returns-in-empty-clause-range c =
    let applied = c.args.self.now in
    let all = none_of applied.inputs.now c.in-empty.len_below in
    let stated = subst (λ (xs : List Image). format_of applied.op.now (formats_of xs) ≡ Some applied.format) all c.requires.can in
    subst (λ (n : ℕ). n ≤ max_sample applied.format) (sym c.generated.ensures)
    (value-most applied.op.now [] applied.format stated no_image-range no_image-range c.args.column c.args.row c.args.channel)

pub returns-in-len1-clause-range : goal.returns-in-len1-clause-range
returns-in-len1-clause-range c =
    let applied = c.args.self.now in
    let input = c.input-item.result in
    let all = one_of applied.inputs.now input c.in-len1.len_at_least c.in-len1.len_below c.input-item.is in
    let stated = subst (λ (xs : List Image). format_of applied.op.now (formats_of xs) ≡ Some applied.format) all c.requires.can in
    subst (λ (n : ℕ). n ≤ max_sample applied.format) (sym c.changed.ensures.value)
    (value-most applied.op.now (input ∷ []) applied.format stated (at-most input c.changed.ensures.picture) no_image-range c.args.column c.args.row c.args.channel)

pub returns-in-len2-up-clause-range : goal.returns-in-len2-up-clause-range
returns-in-len2-up-clause-range c =
    let applied = c.args.self.now in
    let first = c.first-item.result in
    let second = c.second-item.result in
    let few : length applied.inputs.now ≤ 2 =
    omega (arith, two_at_most applied.op.now (formats_of applied.inputs.now) applied.format c.requires.can, length-map applied.inputs.now (λ (image : Image). image.format)) in
    let all = two_of applied.inputs.now first second c.in-len2-up.len_at_least few c.first-item.is c.second-item.is in
    let stated = subst (λ (xs : List Image). format_of applied.op.now (formats_of xs) ≡ Some applied.format) all c.requires.can in
    subst (λ (n : ℕ). n ≤ max_sample applied.format) (sym c.combined.ensures.value)
    (value-most applied.op.now (first ∷ second ∷ []) applied.format stated (at-most first c.combined.ensures.pictures.0) (at-most second c.combined.ensures.pictures.1)
    c.args.column c.args.row c.args.channel)
