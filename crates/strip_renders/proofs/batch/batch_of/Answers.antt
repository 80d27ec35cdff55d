use Rattle.std.proofs.Common.{◌≡◌, ◌++◌, ◌-◌, List, take, drop, get_or, length, sym, ap, ◌∙◌, subst, arith}
use Rattle.std.specs.List.{AllByRecursion}
use Rattle.model_graphs.specs.Shapes.{Shapes}
use Rattle.model_states.specs.Need.{Needed}
use Rattle.model_states.specs.Valid.{AreStated}
use Rattle.strip_renders.specs.Batches.{AddsRows, AreOfOneNode, IsBatch, IsInRow, IsUpTo}
use Rattle.strip_renders.proofs.AheadLaws.{all-also}
use Rattle.strip_renders.proofs.Batches.{batch-own, batch-rows}
use Rattle.strip_renders.proofs.batch.batch_of.Given
use Rattle.strip_renders.proofs.batch.batch_of.Goals.{After-extend_from_slice}
use Rattle.strip_renders.proofs.batch.batch_of.Goals as goal

-- when the tiles of the strip were listed
module _ (g : Given.Over) (c : After-extend_from_slice g) where
  abbrev own : List Needed
  own = take (c.batch_end-end.result - c.args.index) (drop c.args.index c.args.strip.now.need)

  one : AreOfOneNode c.args.strip.now.need c.args.index c.batch_end-end.result
  one = subst (λ (list : List Needed). AreOfOneNode list c.args.index c.batch_end-end.result) c.as_slice-need.ensures c.batch_end-end.ensures.one

  of_strip : (buffers : Shapes) → AreStated g.K.Op.OpMeaning.meanings buffers c.args.by.now.nodes.now
      → IsBatch g.K.Op.OpMeaning.meanings c.args.by.now.nodes.now c.args.strip.now c.args.later.now c.args.index own
  of_strip buffers stated =
      batch-own g.K.Op.OpMeaning.meanings c.args.by.now.nodes.now buffers c.args.strip.now c.args.later.now c.args.index c.batch_end-end.result stated c.requires.strip one

  -- as the call lists them
  listed : (items : List Needed) → items ≡ c.new-batch.result.items ++ take (c.batch_end-end.result - c.args.index) (drop c.args.index c.as_slice-need.result.now) → items ≡ own
  listed items is =
      is
      ∙ ap (λ (list : List Needed). list ++ take (c.batch_end-end.result - c.args.index) (drop c.args.index c.as_slice-need.result.now)) c.new-batch.ensures.items
      ∙ ap (λ (list : List Needed). take (c.batch_end-end.result - c.args.index) (drop c.args.index list)) c.as_slice-need.ensures

pub returns-then-end-need : goal.returns-then-end-need
returns-then-end-need g c = λ buffers stated.
    let at = (goal.at.returns-then-end-need g c).After-extend_from_slice in
    subst (IsBatch g.K.Op.OpMeaning.meanings c.args.by.now.nodes.now c.args.strip.now c.args.later.now c.args.index)
    (sym (listed g at c.extend_from_slice.new.self.items c.in_ok-extend_from_slice.ensures.items)) (of_strip g at buffers stated)

pub returns-in_default : goal.returns-in_default
returns-in_default g c = λ buffers stated.
    let at = (goal.at.returns-in_default g c).After-extend_from_slice in
    subst (IsBatch g.K.Op.OpMeaning.meanings c.args.by.now.nodes.now c.args.strip.now c.args.later.now c.args.index)
    (sym (listed g at c.extend_from_slice.new.self.items c.in_ok-extend_from_slice.ensures.items)) (of_strip g at buffers stated)

pub returns : goal.returns
returns g c = λ buffers stated.
    let at = (goal.at.returns g c).After-extend_from_slice in
    let strip = c.args.strip.now in
    let items = listed g at c.extend_from_slice.new.self.items c.in_ok-extend_from_slice.ensures.items in
    let node = (get_or c.as_slice-need.result.now c.args.index c.index-need-index.result).0 in
    let row = c.in-Some.row in
    let in_row : AllByRecursion (IsInRow node row) (own g at) = subst (AllByRecursion (IsInRow node row)) (c.deref.ensures.value ∙ items) c.in-Some.ensures in
    let adds : AddsRows node row c.args.later.now (own g at) c.add_rows.new.batch.items =
    subst (λ (list : List Needed). AddsRows node row c.args.later.now list c.add_rows.new.batch.items) items c.in_ok-add_rows.ensures in
    batch-rows g.K.Op.OpMeaning.meanings c.args.by.now.nodes.now buffers strip c.args.later.now c.args.index c.batch_end-end.result stated c.requires.strip (one g at)
    node row c.add_rows.new.batch.items (omega (arith, c.if-end-need.false, ap length c.as_slice-need.ensures)) c.requires.later
    (all-also (IsInRow node row) (IsUpTo node row) (own g at) (λ n here. (here.0, omega (arith, here.1))) in_row) adds
