use Rattle.std.proofs.Common.{◌≡◌, ◌∙◌, ap, sym, subst, Ok, map}
use Rattle.std.specs.List.{zip}
use Rattle.std.proofs.lemmas.Result.{err_from_is_err_and}
use Rattle.model_graphs.specs.Facts.{shapes_of_facts, specs_of}
use Rattle.model_states.specs.Edits.{with_edits}
use Rattle.model_states.specs.Valid.{node_names, with_shape}
use Rattle.graph_commits.specs.States.{IsGraphState}
use Rattle.graph_commits.proofs.StateLaws.{edited_side-is, edited_state, names_of_facts, walk_refused}
use Rattle.graph_commits.proofs.state.GraphState.edited.Given
use Rattle.graph_commits.proofs.state.GraphState.edited.Goals as goal

pub returns-in_err-shapes-clause-refused : goal.returns-in_err-shapes-clause-refused
returns-in_err-shapes-clause-refused g c =
    let p = err_from_is_err_and c.from_residual-in_err-shapes.result c.from_residual-in_err-shapes.ensures.1 in
    let buffers = shapes_of_facts c.args.buffers.now in
    let copied : c.in_ok-draft.draft ≡ specs_of c.args.self.now.nodes =
    c.in_ok-draft.ensures ∙ ap specs_of (c.deref.ensures.value ∙ ap (λ side. side.nodes) c.self.view_is) in
    let made : with_edits buffers (Ok (specs_of c.args.self.now.nodes)) c.args.edits.now ≡ Ok c.in_ok-draft-2.draft =
    ap (λ nodes. with_edits buffers (Ok nodes) c.args.edits.now) (sym copied) ∙ c.in_ok-draft-2.ensures.ok in
    rw (p.1, p.2)
    (walk_refused g.Op.OpMeaning.meanings c.args.self.now c.args.edits.now c.args.buffers.now c.in_ok-draft-2.draft made
    c.in_err-shapes.field-0.0 c.in_err-shapes.ensures.refused)

-- the nodes after all edits
made : (g : Given.Over) (c : goal.In_ok-nodes g) →
    with_edits (shapes_of_facts c.args.buffers.now) (Ok (specs_of c.args.self.now.nodes)) c.args.edits.now ≡ Ok c.in_ok-draft-2.draft
made g c =
    let copied : c.in_ok-draft.draft ≡ specs_of c.args.self.now.nodes =
    c.in_ok-draft.ensures ∙ ap specs_of (c.deref.ensures.value ∙ ap (λ side. side.nodes) c.self.view_is) in
    ap (λ nodes. with_edits (shapes_of_facts c.args.buffers.now) (Ok nodes) c.args.edits.now) (sym copied) ∙ c.in_ok-draft-2.ensures.ok

-- and with their shapes
facts : (g : Given.Over) (c : goal.In_ok-nodes g) → c.in_ok-nodes.nodes.items ≡ map with_shape (zip c.in_ok-draft-2.draft c.in_ok-shapes.shapes.items)
facts g c = c.in_ok-nodes.ensures ∙ ap (λ nodes. map with_shape (zip nodes c.in_ok-shapes.shapes.items)) c.into_parts-specs.ensures.nodes

state : (g : Given.Over) (c : goal.In_ok-nodes g) →
    IsGraphState g.Op.OpMeaning.meanings (record { buffers = c.in_ok-buffers.buffers.items; nodes = c.in_ok-nodes.nodes.items })
state g c =
    let meanings = g.Op.OpMeaning.meanings in
    let old : IsGraphState meanings c.args.self.now = subst (IsGraphState meanings) c.self.view_is c.self.invariant.1 in
    rw (facts g c, c.in_ok-buffers.ensures)
    (edited_state meanings c.args.self.now c.args.edits.now c.args.buffers.now c.in_ok-draft-2.draft (made g c)
    c.in_ok-shapes.shapes.items c.in_ok-shapes.ensures.ok old c.in_ok-shapes.ensures.rectangles)

pub invariant_of-result : goal.invariant_of-result
invariant_of-result g c = (
  c.into_parts-specs.ensures.names
      ∙ names_of_facts g.Op.OpMeaning.meanings c.args.self.now c.args.edits.now c.args.buffers.now c.in_ok-draft-2.draft (made g c)
      c.in_ok-shapes.shapes.items c.in_ok-shapes.ensures.ok
      ∙ ap (λ facts. node_names (specs_of facts)) (sym (facts g c)),
  state g c,
)

pub returns-clause-ok : goal.returns-clause-ok
returns-clause-ok g c =
    edited_side-is g.Op.OpMeaning.meanings c.args.self.now c.args.edits.now c.args.buffers.now c.in_ok-draft-2.draft (made g c)
    c.in_ok-shapes.shapes.items c.in_ok-shapes.ensures.ok
    ∙ ap (λ buffers. Ok (record { buffers = buffers; nodes = map with_shape (zip c.in_ok-draft-2.draft c.in_ok-shapes.shapes.items) })) (sym c.in_ok-buffers.ensures)
    ∙ ap (λ nodes. Ok (record { buffers = c.in_ok-buffers.buffers.items; nodes = nodes })) (sym (facts g c))

pub returns-clause-state : goal.returns-clause-state
returns-clause-state = state
