use Rattle.std.proofs.Common.{◌≡◌, ◌++◌, ◌-◌, ◌<◌, suc, List, length, ap, sym, ◌∙◌, arith}
use Rattle.std.proofs.lemmas.List.{length-map}
use Rattle.plane_rect.specs.Tile.{Tile}
use Rattle.model_graphs.specs.declared.node.NodeFact.{NodeFact}
use Rattle.model_graphs.specs.Facts.{specs_of, stated_shapes}
use Rattle.model_graphs.specs.Node.{Node, Step, step_of}
use Rattle.model_operations.specs.declared.operation.IntOp.{IntOp}
use Rattle.model_states.specs.Need.{needed_of}
use Rattle.plain_graphs.specs.Needs.{step_at}
use Rattle.plain_graphs.proofs.NeedLaws.{needed-below, needed-last, step_at-facts}
use Rattle.plain_graphs.proofs.needs.+needed.Goals as goal

pub returns-clause-needed : goal.returns-clause-needed
returns-clause-needed t c =
    let n = c.args.count - 1 in
    let facts = c.args.facts.now in
    let nodes = specs_of facts in
    let count : c.args.count ≡ suc n = omega arith in
    let spec : NodeFact IntOp → Node IntOp = λ fact. fact.spec in
    let inside : n < length facts = omega arith in
    let among : n < length nodes = omega (arith, inside, length-map facts spec) in
    let step = step_at-facts facts n c.index-facts-node.result inside c.index-facts-node.is in
    let tiles = c.in_ok-tiles.tiles.items in
    let before = c.in_ok-list.list.items in
    let list : c.add_needed.new.list.items ≡ before ++ needed_of n (step_at nodes n) tiles =
    c.in_ok-add_needed.ensures nodes
    ∙ ap (λ (ts : List Tile). before ++ needed_of n (step_of nodes c.index-facts-node.result.spec.body) ts) c.deref.ensures.value
    ∙ ap (λ (s : Step IntOp). before ++ needed_of n s tiles) (sym step) in
    let all = needed-last (stated_shapes facts) c.args.asked.items c.ask_node.new.asked.items nodes n tiles
    c.in_ok-list.list.items c.add_needed.new.list.items among
    c.in_ok-tiles.ensures.tiles
    c.in_ok-tiles.ensures.asked
    c.in_ok-list.ensures.needed
    list in
    rw count all

pub returns-clause-indices : goal.returns-clause-indices
returns-clause-indices t c =
    let n = c.args.count - 1 in
    let nodes = specs_of c.args.facts.now in
    let count : c.args.count ≡ suc n = omega arith in
    let below = needed-below n (step_of nodes c.index-facts-node.result.spec.body) c.deref.result.now c.in_ok-list.list.items c.add_needed.new.list.items
    (c.in_ok-add_needed.ensures nodes) c.in_ok-list.ensures.indices in
    rw count below
