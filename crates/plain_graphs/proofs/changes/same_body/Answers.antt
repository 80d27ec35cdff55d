use Rattle.std.proofs.Common.{rules, ◌≡◌, ◌∙◌}
use Rattle.model_operations.specs.Meanings.{same_operation}
use Rattle.model_operations.proofs.Equality.{eq-operation}
use Rattle.plain_graphs.proofs.changes.same_body.Goals as goal

pub returns-then-eq : goal.returns-then-eq
returns-then-eq c =
    let f = c.in-Compute-Compute.f in
    let g = c.in-Compute-Compute.g in
    let same : c.eq-in-Compute-Compute.result ≡ same_operation f g = c.eq-in-Compute-Compute.ensures ∙ eq-operation f g in
    search rules

pub returns-else-eq : goal.returns-else-eq
returns-else-eq c =
    let f = c.in-Compute-Compute.f in
    let g = c.in-Compute-Compute.g in
    let same : c.eq-in-Compute-Compute.result ≡ same_operation f g = c.eq-in-Compute-Compute.ensures ∙ eq-operation f g in
    search rules
