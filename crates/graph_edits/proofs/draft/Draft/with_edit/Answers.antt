use Rattle.std.proofs.Common.{ap, ◌∙◌}
use Rattle.model_graphs.specs.declared.node.NodeEdit.TheVariants.{Set}
use Rattle.model_graphs.specs.Facts.{shapes_of_facts}
use Rattle.model_states.specs.Edits.{with_edit}
use Rattle.graph_edits.proofs.EditLaws.{set_made}
use Rattle.graph_edits.proofs.draft.Draft.with_edit.Goals as goal

pub returns-in_ok-with_node-in-Set-clause-ok : goal.returns-in_ok-with_node-in-Set-clause-ok
returns-in_ok-with_node-in-Set-clause-ok g c =
    set_made (shapes_of_facts c.args.buffers.now) c.args.self c.in_ok-with_node-in-Set.field-0 c.args.edit.now c.in-Set.node
    c.in_ok-copy_node-in-Set.field-0 c.in-None.ensures c.in-Set.is c.in_ok-copy_node-in-Set.ensures
    (c.in_ok-with_node-in-Set.ensures ∙ ap (λ nodes. with_edit nodes (Set c.in_ok-copy_node-in-Set.field-0)) c.self.view_is)
