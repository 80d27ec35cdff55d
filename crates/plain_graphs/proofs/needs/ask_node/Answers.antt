use Rattle.std.proofs.Common.{◌≡◌, ◌++◌, List, ap, sym, ◌∙◌, slice_index_or}
use Rattle.plane_rect.specs.Rectangle.{Rectangle}
use Rattle.plane_rect.specs.Tile.{Tile}
use Rattle.model_graphs.specs.Facts.{specs_of, stated_shapes}
use Rattle.model_graphs.specs.Node.{Step}
use Rattle.model_graphs.specs.Shapes.{Shape, no_shape}
use Rattle.model_operations.specs.declared.operation.IntOp.{IntOp}
use Rattle.model_operations.specs.Meanings.{int_meanings}
use Rattle.model_states.specs.Need.{asked_by, asked_of}
use Rattle.model_states.specs.Regions.{tiles_of_any}
use Rattle.plain_graphs.specs.Needs.{step_at}
use Rattle.plain_graphs.proofs.NeedLaws.{step_at-facts}
use Rattle.plain_graphs.proofs.needs.ask_node.Goals as goal

pub returns-clause-asked : goal.returns-clause-asked
returns-clause-asked c =
    let facts = c.args.facts.now in
    let shapes = stated_shapes facts in
    let node = c.args.node in
    let old = c.args.asked.now.items in
    let here = step_at (specs_of facts) node in
    let last = slice_index_or shapes node no_shape in
    let step = step_at-facts facts node c.index-facts-node.result c.requires c.index-facts-node.is in
    let box : c.bounds.inside.bounds ≡ last.box = ap (λ (s : Shape). s.box) (c.bounds.view_is ∙ c.stated_at.ensures) in
    let asked : c.deref-2.result.now ≡ asked_of old node = c.deref-2.ensures.value ∙ c.in_ok-asked_of.ensures ∙ ap (λ a. asked_of a node) c.deref.ensures.value in
    let tiles : c.deref-3.result.now ≡ tiles_of_any (asked_of old node) = c.deref-3.ensures.value ∙ c.in_ok-tiles.ensures ∙ ap tiles_of_any asked in
    c.in_ok-ask.ensures
    ∙ ap (λ (s : Step IntOp). old ++ asked_by int_meanings shapes s c.bounds.inside.bounds c.deref-3.result.now) (sym step)
    ∙ ap (λ (b : Rectangle). old ++ asked_by int_meanings shapes here b c.deref-3.result.now) box
    ∙ ap (λ (ts : List Tile). old ++ asked_by int_meanings shapes here last.box ts) tiles
