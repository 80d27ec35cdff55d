use Rattle.std.proofs.Common.{◌≡◌, ◌++◌, List, map, subst, OnOk, rules}
use Rattle.model_graphs.specs.Facts.{specs_of, stated_shapes}
use Rattle.model_graphs.specs.Node.{index_of, step_of}
use Rattle.model_operations.specs.Meanings.{int_meanings}
use Rattle.model_states.specs.Need.{Asked, asked_by}
use Rattle.model_states.specs.Valid.{input_boxes}
use Rattle.plain_graphs.specs.Needs.{asked_of_tiles}
use Rattle.plain_graphs.proofs.NeedLaws.{asked_by-indices}
use Rattle.plain_graphs.proofs.needs.ask.Goals as goal

pub returns : goal.returns
returns c =
    let nodes = specs_of c.args.facts.now in
    let shapes = stated_shapes c.args.facts.now in
    let inputs = c.in-Compute.inputs in
    let indices = c.deref-2.result.now in
    let boxes = c.deref.result.now in
    let at : indices ≡ map (index_of nodes) inputs = search rules in
    let over : boxes ≡ input_boxes shapes indices = search rules in
    let is = asked_by-indices shapes nodes c.in-Compute.op inputs indices boxes c.args.bounds.now c.args.tiles.now at over in
    let asked : asked_of_tiles c.in-Compute.op boxes indices c.args.bounds.now c.args.tiles.now
    ≡ asked_by int_meanings shapes (step_of nodes c.args.body.now) c.args.bounds.now c.args.tiles.now = rw c.in-Compute.is is in
    subst (λ (xs : List Asked). OnOk c.ask_tiles.result (c.ask_tiles.new.asked.items ≡ c.args.asked.now.items ++ xs)) asked c.ask_tiles.ensures
