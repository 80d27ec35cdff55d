use Rattle.std.proofs.Common.{◌≡◌, ap, ◌∙◌}
use Rattle.model_operations.specs.Meanings.{int_meanings}
use Rattle.model_states.specs.Damage.{invalidated_by, known_damage, new_boxes}
use Rattle.model_states.specs.Regions.{hull_of}
use Rattle.plain_graphs.proofs.changes.Change.damage_passed_on.Goals as goal

pub returns-in_ok-invalid-in-Compute : goal.returns-in_ok-invalid-in-Compute
returns-in_ok-invalid-in-Compute c =
    let change = c.args.self.now in
    let invalid : c.in_ok-invalid-in-Compute.invalid.items
    ≡ invalidated_by int_meanings c.in-Compute.op (new_boxes change c.in-Compute.inputs) (known_damage change c.args.known.now) c.in-Compute.inputs =
    rw c.as_slice.ensures at c.in_ok-invalid-in-Compute.ensures in
    rw c.in-Compute.is (c.hull_of.ensures ∙ ap hull_of (c.deref.ensures.value ∙ invalid))
