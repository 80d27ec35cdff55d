use Rattle.std.proofs.Common.{◌++◌, List, ap, ◌∙◌, subst}
use Rattle.std.specs.List.{AllByRecursion}
use Rattle.model_states.specs.Need.{Needed}
use Rattle.strip_renders.specs.Batches.{AddsRows, IsInRow}
use Rattle.strip_renders.proofs.Rows.{added-more}
use Rattle.strip_renders.proofs.TurnLaws.{ok-then}
use Rattle.strip_renders.proofs.batch.+add_rows.Goals as goal

pub returns-in_ok-extend_from_slice-in-Some-row_of : goal.returns-in_ok-extend_from_slice-in-Some-row_of
returns-in_ok-extend_from_slice-in-Some-row_of t c =
    let node = c.args.node in
    let others = c.in-Some.others.now in
    let old = c.args.batch.now.items in
    let new = c.add_rows.new.batch.items in
    ok-then (λ _. AddsRows node c.in-Some-row_of.below others c.extend_from_slice.new.self.items new) (λ _. AddsRows node c.args.row c.args.later.now old new) c.add_rows.result c.add_rows.ensures
    (λ _ adds. added-more node c.args.row c.in-Some-row_of.below c.in-Some.next.now others c.args.later.now old new c.if-row-below.true
    (subst (AllByRecursion (IsInRow node c.in-Some-row_of.below)) c.as_slice-need.ensures c.in-Some-row_of.ensures) c.in-Some.ensures.cases.0
    (subst (λ (list : List Needed). AddsRows node c.in-Some-row_of.below others list new)
    (c.in_ok-extend_from_slice-in-Some-row_of.ensures.items ∙ ap (λ (list : List Needed). old ++ list) c.as_slice-need.ensures) adds))
