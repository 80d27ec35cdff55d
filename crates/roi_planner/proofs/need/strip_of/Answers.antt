use Rattle.std.proofs.Common.{◌≡◌, ◌∷◌, [], suc, ◌+◌, ◌<◌, ◌^◌, List, length, ap, sym, ◌∙◌, subst, arith}
use Rattle.plane_rect.specs.Rectangle.{Rectangle, meet}
use Rattle.model_graphs.specs.declared.node.NodeFact.{NodeFact}
use Rattle.model_states.specs.Need.{Asked, Needed}
use Rattle.model_states.specs.declared.strip.Strip.{Strip}
use Rattle.roi_planner.specs.Asked.{AreAsked}
use Rattle.roi_planner.specs.Inputs.{box_at}
use Rattle.model_states.proofs.NeedCounts.{strip_few}
use Rattle.roi_planner.proofs.StatedLaws.{box_at-is}
use Rattle.roi_planner.proofs.need.strip_of.Goals as goal

pub returns-clause-strip : goal.returns-clause-strip
returns-clause-strip g c =
    let meanings = g.K.Op.OpMeaning.meanings in
    let facts = c.args.nodes.now in
    let node = c.args.node in
    let rect = c.args.rect in
    let part : c.meet-part.result ≡ meet rect (box_at facts node) =
    c.meet-part.ensures.value
    ∙ ap (λ (fact : NodeFact g.row.K-Op.Denot). meet rect fact.bounds) (sym c.index-nodes-index.is)
    ∙ ap (meet rect) (sym (box_at-is facts node c.index-nodes-index.result c.requires.node c.index-nodes-index.is)) in
    let asked : List Asked = (node, meet rect (box_at facts node)) ∷ [] in
    let are : AreAsked c.ask_one.new.regions.items asked =
    subst (λ (r : Rectangle). AreAsked c.ask_one.new.regions.items ((node, r) ∷ [])) part (c.in_ok-ask_one.ensures.asked [] c.in_ok-regions.ensures.asked) in
    let next : node + 1 ≡ suc node = omega arith in
    let list = rw next at (c.in_ok-list.ensures asked are) in
    let of : List Needed → Strip = λ need. record { rect = rect; need = need } in
    ap of (c.new-need.ensures ∙ list)

pub returns-clause-few : goal.returns-clause-few
returns-clause-few g c =
    let stated = c.requires.stated in
    let few = strip_few g.K.Op.OpMeaning.meanings g.K.Op.OpMeaning.boxed stated.0 c.args.nodes.now c.args.node c.args.rect stated.1 in
    subst (λ (strip : Strip). length strip.need < 2 ^ 32) (sym (returns-clause-strip g c)) (omega (arith, few))
