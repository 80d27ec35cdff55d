use Rattle.std.proofs.Common.{◌≡◌, ◌++◌, ◌-◌, ◌<◌, suc, List, length, ap, sym, ◌∙◌, arith}
use Rattle.plane_rect.specs.Tile.{Tile}
use Rattle.model_graphs.specs.Facts.{specs_of, stated_shapes}
use Rattle.model_graphs.specs.Node.{Step, step_of}
use Rattle.model_states.specs.Need.{asked_by, asked_of, needed_of}
use Rattle.model_states.specs.Regions.{tiles_of_any}
use Rattle.roi_planner.specs.Inputs.{box_at, step_at}
use Rattle.roi_planner.proofs.NeedLaws.{needed-last}
use Rattle.roi_planner.proofs.StatedLaws.{step_at-is}
use Rattle.roi_planner.proofs.need.+needed.Goals as goal

pub returns : goal.returns
returns g t c = λ asked are.
    let meanings = g.K.Op.OpMeaning.meanings in
    let n = c.args.count - 1 in
    let facts = c.args.nodes.now in
    let shapes = stated_shapes facts in
    let count : c.args.count ≡ suc n = omega arith in
    let inside : n < length facts = omega arith in
    let step = step_at-is facts n c.index-nodes-node.result inside c.index-nodes-node.is in
    let tiles = c.in_ok-tiles.tiles.items in
    let before = c.in_ok-list.list.items in
    let list : c.add_needed.new.list.items ≡ before ++ needed_of n (step_at facts n) tiles =
    c.in_ok-add_needed.ensures facts
    ∙ ap (λ (ts : List Tile). before ++ needed_of n (step_of (specs_of facts) c.index-nodes-node.result.spec.body) ts) c.deref.ensures.value
    ∙ ap (λ (s : Step g.row.K-Op.Denot). before ++ needed_of n s tiles) (sym step) in
    let more = asked ++ asked_by meanings shapes (step_at facts n) (box_at facts n) (tiles_of_any (asked_of asked n)) in
    let all = needed-last meanings facts asked n tiles before c.add_needed.new.list.items inside
    (c.in_ok-tiles.ensures.tiles asked are)
    (c.in_ok-list.ensures more (c.in_ok-tiles.ensures.asked asked are))
    list in
    rw count all
