use Rattle.std.proofs.Common.{◌≡◌, ◌<◌, ◌∙◌, ◌&&◌, ◌++◌, ◌∷◌, [], Bool, false, List, ℕ, ap, get_or, length, sym}
use Rattle.model_graphs.specs.Facts.{specs_of, stated_shapes}
use Rattle.model_graphs.specs.Node.{index_of}
use Rattle.model_graphs.specs.Shapes.{Shape, no_shape}
use Rattle.std.specs.Prelude.{slice_index_or}
use Rattle.plane_rect.specs.Rectangle.{Rectangle}
use Rattle.model_graphs.specs.declared.node.NodeFact.{NodeFact}
use Rattle.model_states.specs.Damage.{Change, have_same_shapes, same_shape, side_shape}
use Rattle.graph_commits.proofs.InputLaws.{all_passed, mapped, tested}
use Rattle.graph_commits.proofs.change.Change.find_inputs.Goals as goal
use Rattle.graph_commits.proofs.change.Change.find_inputs.Goals.{else-same, then-same}

pub loop-name-preserved : goal.loop-name-preserved
loop-name-preserved g c =
    let change = c.args.self.now in
    let names = c.args.names.now in
    let i = c.loop-name.name-index in
    let name = c.name-item.result in
    let inside : i < length names = c.loop-name-test.true in
    let is : get_or names i name ≡ name = sym c.name-item.is in
    let test = λ (name : List ℕ). same_shape (side_shape change.old name) (side_shape change.new name) in
    let position : c.index_of-position.result ≡ index_of (specs_of change.new.nodes) name =
    c.index_of-position.ensures.value ∙ ap (λ (change : Change g.row.Op.Denot). index_of (specs_of change.new.nodes) name) c.self.view_is in
    let shape : c.stated_at-shape.result ≡ side_shape change.new name =
    c.stated_at-shape.ensures
    ∙ ap (λ (facts : List (NodeFact g.row.Op.Denot)). slice_index_or (stated_shapes facts) c.index_of-position.result no_shape) c.nodes.ensures.nodes
    ∙ ap (λ (change : Change g.row.Op.Denot). slice_index_or (stated_shapes change.new.nodes) c.index_of-position.result no_shape) c.self.view_is
    ∙ ap (λ (index : ℕ). slice_index_or (stated_shapes change.new.nodes) index no_shape) position in
    let box : c.shape-in-loop-name.inside.bounds ≡ (side_shape change.new name).box =
    ap (λ (shape : Shape). shape.box) (c.shape-in-loop-name.view_is ∙ shape) in
    let both : c.if-same.same ≡ (c.loop-name.same && test name) =
    elim c.if-same.branch [
      | then-same w ↦
          w.same-is ∙ w.had_shape-same.ensures ∙ ap (same_shape (side_shape change.old name)) shape
          ∙ sym (ap (λ (b : Bool). b && test name) w.if-same.true)
      | else-same w ↦
          let no : c.if-same.same ≡ false = cc (w.same-is, w.if-same.false) in
          no ∙ sym (ap (λ (b : Bool). b && test name) w.if-same.false)
    ] in (
      mapped names i name inside is (index_of (specs_of change.new.nodes)) c.loop-name.inputs.positions.items c.push.new.self.items
          _ c.loop-name.invariant.0
          (c.in_ok-push.ensures.items ∙ ap (λ (index : ℕ). c.loop-name.inputs.positions.items ++ index ∷ []) position),
      mapped names i name inside is (λ name. (side_shape change.new name).box) c.loop-name.inputs.boxes.items c.push-in-loop-name.new.self.items
          _ c.loop-name.invariant.1
          (c.in_ok-push-2.ensures.items ∙ ap (λ (box : Rectangle). c.loop-name.inputs.boxes.items ++ box ∷ []) box),
      tested names i name inside is test c.loop-name.same c.if-same.same (have_same_shapes change names) c.loop-name.invariant.2 both,
    )

pub returns-clause-same : goal.returns-clause-same
returns-clause-same g c =
    let change = c.args.self.now in
    all_passed (λ (name : List ℕ). same_shape (side_shape change.old name) (side_shape change.new name)) c.args.names.now c.loop-name.name-index
    c.loop-name.same (have_same_shapes change c.args.names.now) c.loop-name-test.false c.loop-name.invariant.2
