use Rattle.std.proofs.Common.{ℕ, List, [], ◌∷◌, length, sym, ap, ◌∙◌}
use Rattle.model_operations.proofs.WindowLaws.{length-window}
use Rattle.model_operations.specs.Values.{value_at}
use Rattle.model_operations.specs.Windows.{mean_of, window}
use Rattle.model_operations.specs.declared.operation.IntOp.{IntOp}
use Rattle.plain_images.proofs.results.changed.Goals as goal

pub returns-in-BoxMean-clause-value : goal.returns-in-BoxMean-clause-value
returns-in-BoxMean-clause-value c =
    let samples = window c.in-BoxMean.radius c.args.input.now c.in-BoxMean.abyss c.args.column c.args.row c.args.channel in
    c.mean.ensures
    ∙ ap (λ (xs : List ℕ). mean_of (length xs) xs) c.new.ensures
    ∙ ap (λ (n : ℕ). mean_of n samples) (length-window c.in-BoxMean.radius c.args.input.now c.in-BoxMean.abyss c.args.column c.args.row c.args.channel)
    ∙ ap (λ (op : IntOp). value_at op (c.args.input.now ∷ []) c.args.column c.args.row c.args.channel) (sym c.in-BoxMean.is)
