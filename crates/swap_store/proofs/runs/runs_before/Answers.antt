use Rattle.std.proofs.Common.{arith, ◌^◌, ltb, rules, tests}
use Rattle.std.proofs.lemmas.List.Sorted.{IsPartitionPoint-from_clause}
use borrow.Author.Tests.{ltb-true, ltb-false}
use Rattle.swap_store.proofs.RunLists.{begins_before_parts}
use Rattle.swap_store.proofs.runs.runs_before.Goals as goal

pub returns-clause-before : goal.returns-clause-before
returns-clause-before c = λ k d lt.
    let parts = IsPartitionPoint-from_clause (λ run. ltb run.first c.args.block) _ _ c.partition_point.ensures.partitioned (begins_before_parts (2 ^ 20) _ _ c.requires) (λ a r f called. search (rules, tests)) in
    ltb-true _ _ (parts.0 k d (omega arith) lt)

pub returns-clause-following : goal.returns-clause-following
returns-clause-following c = λ k d le lt.
    let parts = IsPartitionPoint-from_clause (λ run. ltb run.first c.args.block) _ _ c.partition_point.ensures.partitioned (begins_before_parts (2 ^ 20) _ _ c.requires) (λ a r f called. search (rules, tests)) in
    ltb-false _ _ (parts.1 k d le lt)
