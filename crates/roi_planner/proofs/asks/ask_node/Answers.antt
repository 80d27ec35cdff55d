use Rattle.std.proofs.Common.{◌≡◌, ℕ, ◌<◌, [], ◌++◌, List, length, get_or, sym, ap, ◌∙◌, subst, arith}
use Rattle.std.proofs.lemmas.List.{get_or_default}
use Rattle.plane_rect.specs.Rectangle.{Rectangle}
use Rattle.model_graphs.specs.Facts.{stated_shapes}
use Rattle.model_graphs.specs.Node.{Step}
use Rattle.model_states.specs.Need.{Asked, asked_by, asked_of}
use Rattle.model_states.specs.Regions.{tiles_of_any}
use Rattle.roi_planner.specs.Asked.{AreAsked, asked_of_body}
use Rattle.roi_planner.specs.Inputs.{Inputs, SuitsBody, box_at, inputs_of, step_at}
use Rattle.roi_planner.proofs.Joined.{tiles-same}
use Rattle.roi_planner.proofs.StatedLaws.{asked_of_body-is, box_at-is, inputs-at, step_at-is, suits-body}
use Rattle.roi_planner.proofs.asks.ask_node.Goals as goal

pub ask_body-requires : goal.ask_body-requires
ask_body-requires g c =
    let meanings = g.K.Op.OpMeaning.meanings in
    let facts = c.args.nodes.now in
    let fact = c.index-nodes-node.result in
    let inputs : c.index-inputs-node.result ≡ inputs_of facts fact.spec.body =
    inputs-at facts c.args.inputs.now c.args.node fact c.index-inputs-node.result c.requires.inputs c.requires.node c.index-nodes-node.is c.index-inputs-node.is in
    subst (λ (i : Inputs). SuitsBody meanings fact.spec.body i (length c.args.regions.now.items)) (sym inputs)
    (subst (λ (n : ℕ). SuitsBody meanings fact.spec.body (inputs_of facts fact.spec.body) n) (sym c.requires.count)
    (suits-body meanings facts c.args.node fact c.requires.stated c.requires.node c.index-nodes-node.is))

pub returns-clause-tiles : goal.returns-clause-tiles
returns-clause-tiles g c = λ asked are.
    let regions = c.args.regions.now.items in
    let node = c.args.node in
    let inside : node < length regions = omega (arith, c.requires.node, c.requires.count) in
    let here : c.index.result.now ≡ get_or regions node [] = c.index.ensures ∙ get_or_default regions node c.index.result.now [] inside in
    c.in_ok-tiles.ensures ∙ ap tiles_of_any here ∙ tiles-same (get_or regions node []) (asked_of asked node) (are.each node inside)

pub returns-clause-asked : goal.returns-clause-asked
returns-clause-asked g c = λ asked are.
    let meanings = g.K.Op.OpMeaning.meanings in
    let facts = c.args.nodes.now in
    let fact = c.index-nodes-node.result in
    let node = c.args.node in
    let regions = c.args.regions.now.items in
    let inside : node < length regions = omega (arith, c.requires.node, c.requires.count) in
    let here : c.index.result.now ≡ get_or regions node [] = c.index.ensures ∙ get_or_default regions node c.index.result.now [] inside in
    let tiles : c.deref.result.now ≡ tiles_of_any (asked_of asked node) =
    c.deref.ensures.value ∙ c.in_ok-tiles.ensures ∙ ap tiles_of_any here ∙ tiles-same (get_or regions node []) (asked_of asked node) (are.each node inside) in
    let inputs : c.index-inputs-node.result ≡ inputs_of facts fact.spec.body =
    inputs-at facts c.args.inputs.now node fact c.index-inputs-node.result c.requires.inputs c.requires.node c.index-nodes-node.is c.index-inputs-node.is in
    let asks : asked_of_body meanings fact.spec.body c.index-inputs-node.result fact.bounds c.deref.result.now
    ≡ asked_by meanings (stated_shapes facts) (step_at facts node) (box_at facts node) (tiles_of_any (asked_of asked node)) =
    ap (λ (i : Inputs). asked_of_body meanings fact.spec.body i fact.bounds c.deref.result.now) inputs
    ∙ asked_of_body-is meanings facts fact.spec.body fact.bounds c.deref.result.now
    ∙ ap (λ (s : Step g.row.K-Op.Denot). asked_by meanings (stated_shapes facts) s fact.bounds c.deref.result.now) (sym (step_at-is facts node fact c.requires.node c.index-nodes-node.is))
    ∙ ap (λ (b : Rectangle). asked_by meanings (stated_shapes facts) (step_at facts node) b c.deref.result.now) (sym (box_at-is facts node fact c.requires.node c.index-nodes-node.is))
    ∙ ap (asked_by meanings (stated_shapes facts) (step_at facts node) (box_at facts node)) tiles in
    subst (λ (more : List Asked). AreAsked c.ask_body.new.regions.items (asked ++ more)) asks
    (c.in_ok-ask_body.ensures.asked asked are)
