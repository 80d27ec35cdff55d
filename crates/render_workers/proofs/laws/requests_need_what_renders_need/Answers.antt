use Rattle.std.proofs.Common.{◌≡◌, List, sym, ap, ◌∙◌}
use Rattle.model_graphs.specs.declared.node.NodeFact.{NodeFact}
use Rattle.model_graphs.specs.Facts.{specs_of}
use Rattle.model_graphs.specs.Node.{index_of}
use Rattle.model_graphs.specs.Shapes.{Shapes}
use Rattle.model_states.specs.Need.{need}
use Rattle.model_states.specs.Valid.{stated}
use Rattle.model_states.proofs.Stated.{stated_only}
use Rattle.model_sessions.specs.Sessions.{at_level_zero}
use Rattle.render_workers.proofs.laws.requests_need_what_renders_need.Goals as goal

pub returns : goal.returns
returns g c = λ meanings facts nodes images asked are shown.
    let its : (list : List (NodeFact g.row.Op.Denot)) → nodes ≡ list → need meanings nodes (index_of (specs_of nodes) asked.node) (at_level_zero asked.at_level asked.rect)
    ≡ need meanings list (index_of (specs_of nodes) asked.node) (at_level_zero asked.at_level asked.rect) =
    λ list same. ap (λ (list : List (NodeFact g.row.Op.Denot)). need meanings list (index_of (specs_of nodes) asked.node) (at_level_zero asked.at_level asked.rect)) same in
    its _ (stated_only meanings _ nodes are ∙ ap (λ (shapes : Shapes). stated meanings shapes (specs_of nodes)) (sym shown))
