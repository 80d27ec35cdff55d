use Rattle.std.proofs.Common.{◌≡◌, ℕ, List, ◌++◌, ap, ◌∙◌}
use Rattle.std.proofs.lemmas.Result.{on_ok_weaker}
use Rattle.script_words.specs.Words.{spaced}
use Rattle.script_fields.proofs.PrintLaws.{spaced_put}
use Rattle.script_read.specs.Spelling.{operation_words}
use Rattle.script_read.proofs.printer.put_lists_of.Goals as goal

pub returns-in_ok-put_operation-in-Node-clause-text : goal.returns-in_ok-put_operation-in-Node-clause-text
returns-in_ok-put_operation-in-Node-clause-text c =
    let text = c.args.text.now.items in
    let op = operation_words c.in-Node.op in
    let inputs = c.in-Node.inputs in
    rw c.in-Node.is
    (on_ok_weaker c.put_names.result
    (λ (put : c.put_names.new.text.items ≡ c.put_operation.new.text.items ++ spaced c.as_slice-in-Node.result.now).
    put
    ∙ ap (λ (names : List (List ℕ)). c.put_operation.new.text.items ++ spaced names) c.as_slice-in-Node.ensures
    ∙ ap (λ (prefix : List ℕ). prefix ++ spaced inputs) c.in_ok-put_operation-in-Node.ensures.text
    ∙ spaced_put text op inputs)
    c.put_names.ensures.text)
