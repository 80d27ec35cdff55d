use Rattle.std.proofs.Common.{◌∙◌, length}
use Rattle.graph_commits.proofs.InputLaws.{passed_on}
use Rattle.graph_commits.proofs.SuitedLaws.{bounds_found, boxes_suit, positions_suit}
use Rattle.graph_commits.proofs.change.Change.damage_passed_on.Goals as goal

pub invalidated_hull-requires-clause-arity : goal.invalidated_hull-requires-clause-arity
invalidated_hull-requires-clause-arity g c =
    boxes_suit g.Op.OpMeaning.meanings c.args.self.now c.requires.state (length c.args.known.now) c.args.fact.now c.in-Compute.op _
    c.requires.at c.in-Compute.is _ (c.deref.ensures.value ∙ c.requires.boxes)

pub invalidated_hull-requires-clause-inputs : goal.invalidated_hull-requires-clause-inputs
invalidated_hull-requires-clause-inputs g c =
    positions_suit g.Op.OpMeaning.meanings c.args.self.now c.requires.state (length c.args.known.now) c.args.fact.now c.in-Compute.op _
    c.requires.at c.in-Compute.is _ (c.deref-in-Compute.ensures.value ∙ c.requires.positions)

pub invalidated_hull-requires-clause-bounds : goal.invalidated_hull-requires-clause-bounds
invalidated_hull-requires-clause-bounds g c =
    bounds_found g.Op.OpMeaning.meanings c.args.self.now c.requires.state (length c.args.known.now) c.args.fact.now c.in-Compute.op _
    c.requires.at c.in-Compute.is _ (c.deref.ensures.value ∙ c.requires.boxes)

pub returns-in-Compute : goal.returns-in-Compute
returns-in-Compute g c =
    passed_on g.Op.OpMeaning.meanings c.args.self.now c.args.known.now c.in-Compute.op c.args.fact.now.bounds c.args.fact.now.spec.body c.in-Compute.inputs
    c.in-Compute.is c.deref.result.now (c.deref.ensures.value ∙ c.requires.boxes) c.deref-in-Compute.result.now
    (c.deref-in-Compute.ensures.value ∙ c.requires.positions) c.invalidated_hull.result c.invalidated_hull.ensures
